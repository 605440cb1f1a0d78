-- What the words of a line leave, and where its parameter is.
use Rattle.std.proofs.Common.{◌≡◌, ◌≢◌, ℕ, ◌==◌, ◌+◌, ◌<◌, Bool, true, false, not, [], ◌∷◌, ◌++◌, length, slice_index, take, Some, refl, ne_eqb, sym, ap, subst, ◌∙◌, arith, append_assoc, length-append, take-append-drop}
use Rattle.std.specs.List.{position_or_len}
use Rattle.std.specs.Str.{IsUtf8, is_utf8}
use Rattle.std.specs.Str.Lossy.{utf8_lossy}
use Rattle.std.proofs.lemmas.List.{length-take}
use Rattle.std.proofs.lemmas.Str.{utf8_lossy-IsUtf8}
use Rattle.unftp_control_defs.specs.Bytes.{Bytes, LF, crlf}
use Rattle.unftp_control_defs.specs.ComputedValue.{value_of}
use Rattle.unftp_control_defs.specs.Forwarded.{kind_keeps}
use Rattle.unftp_control_defs.specs.FtpCommand.{Nothing, Outcome, Raw, Text, Value, command_by, kind, maybe_raw, maybe_text, unless_empty}
use Rattle.unftp_control_defs.specs.Outcome.{parameter_outcome}
use Rattle.unftp_control_defs.specs.Said.{IsSaid, KindSaysBack}
use Rattle.unftp_control_defs.specs.Verbs.{is_separator, parameter_of, upper}
use Rattle.unftp_control_defs.specs.Paths.{path_of}
use Rattle.unftp_control_defs.specs.declared.verb.Kind.{Kind}
use Rattle.unftp_control_defs.specs.declared.verb.Kind.TheVariants as kinds
use Rattle.unftp_control_defs.specs.declared.verb.Verb.{Verb}
use Rattle.unftp_control_codecs.proofs.OutcomeLemmas.{utf8_empty}
use Rattle.unftp_control_codecs.proofs.TextLemmas.{text_of}
use Rattle.unftp_control_codecs.specs.WordsMeaning.{AreWords, EndsAfterByte, IsUntyped, IsUsual, refuses, words_outcome}
use Rattle.unftp_control_codecs.specs.declared.line_parser.parser.Words.{Words}

-- a line ends with its parameter
pub in_line : (line end : Bytes) → end ≡ parameter_of line → EndsAfterByte line end
in_line line end is =
    let at : ℕ = position_or_len is_separator line + 1 in
    let whole : line ≡ take at line ++ end = sym (take-append-drop at line)
    ∙ ap (λ end. take at line ++ end) (sym is) in (
      take at line,
      whole,
      λ some. omega (
        arith,
        some,
        length-take at line,
        ap length whole,
        length-append (take at line) end,
      ),
    )

pub in_both : (line middle end : Bytes) → EndsAfterByte line middle → EndsAfterByte middle end
    → EndsAfterByte line end
in_both line middle end outer inner = (
  outer.0 ++ inner.0,
  outer.1 ∙ ap (λ end. outer.0 ++ end) inner.1 ∙ sym (append_assoc outer.0 inner.0 end),
  λ some. omega (arith, inner.2 some, length-append outer.0 inner.0),
)

-- Where there is no name, the outcome is what the verb makes of the parameter.
read_nameless : (words : Words) → words.name.now ≡ [] → words_outcome words
    ≡ parameter_outcome words.kind words.verb [] words.parameter.now
read_nameless words nameless = rw (nameless, utf8_empty)

pub no_name : (answer : Outcome) (words : Words) → words.name.now ≡ []
    → answer ≡ parameter_outcome words.kind words.verb [] words.parameter.now
    → KindSaysBack words.kind words.verb [] → words.kind ≢ kinds.Subcommand
    → kind_keeps words.kind ≡ kind_keeps (kind words.verb) → AreWords answer words
no_name answer words nameless read fits split keeps = record {
  read = read ∙ sym (read_nameless words nameless);
  fits = rw nameless fits;
  split = split;
  keeps = keeps;
  nameless = λ none. nameless;
}

pub nameless_read : (answer : Outcome) (words : Words) → AreWords answer words
    → words.name.now ≡ [] → answer ≡ parameter_outcome words.kind words.verb [] words.parameter.now
nameless_read answer words are nameless = are.read ∙ read_nameless words nameless

raw_is : (v : Bytes) → 0 < length v → maybe_raw (unless_empty v) ≡ Raw v
raw_is [] some = absurd (omega (arith, some))
raw_is (b ∷ v) some = refl

-- Where the parameter is ignored, the verb says all.
pub ignored_says : (words : Words) → words.kind ≡ kinds.Ignored → (answer : Outcome)
    → AreWords answer words → IsSaid answer (record { verb = words.verb; name = []; value = Nothing })
ignored_says words is answer are =
    let nameless : words.name.now ≡ [] = are.nameless (rw is tt) in
    let read : answer ≡ command_by words.verb [] Nothing =
    rw is at (nameless_read answer words are nameless) in
    subst (λ answer. IsSaid answer (record { verb = words.verb; name = []; value = Nothing }))
    (sym read) (rw (is, nameless) at are.fits)

pub one_byte : (bytes : Bytes) → length bytes ≡ 1 → bytes ≡ slice_index bytes 0 ∷ []
one_byte [] one = absurd (omega (arith, one))
one_byte (b ∷ []) one = refl
one_byte (b ∷ c ∷ bytes) one = absurd (omega (arith, one))

-- So it does where there is none.
pub alone_says : (words : Words) → words.kind ≡ kinds.Alone → words.parameter.now ≡ LF ∷ []
    → (answer : Outcome)
    → AreWords answer words → IsSaid answer (record { verb = words.verb; name = []; value = Nothing })
alone_says words is none answer are =
    let nameless : words.name.now ≡ [] = are.nameless (rw is tt) in
    let read : answer ≡ command_by words.verb [] Nothing =
    rw (is, none) at (nameless_read answer words are nameless) in
    subst (λ answer. IsSaid answer (record { verb = words.verb; name = []; value = Nothing }))
    (sym read) (rw (is, nameless) at are.fits)

-- What a verb makes of a value of at least one byte.
module _ (words : Words) (v : Bytes) (some : 0 < length v)
    (before_end : words.parameter.now ≡ v ++ crlf) (value : value_of words.parameter.now ≡ Some v) where
  taken_raw : (answer : Outcome) → AreWords answer words → words.kind ≡ kinds.Raw
      → IsSaid answer (record { verb = words.verb; name = []; value = Raw v })
  taken_raw answer are is =
      let fits : KindSaysBack kinds.Raw words.verb (upper words.name.now) = rw is at are.fits in
      let nameless : words.name.now ≡ [] = are.nameless (rw is tt) in
      let read : answer ≡ command_by words.verb [] (Raw v) =
      rw (is, value, raw_is v some) at (nameless_read answer words are nameless) in
      subst (λ answer. IsSaid answer (record { verb = words.verb; name = []; value = Raw v }))
      (sym read) (rw (nameless, raw_is v some) at (fits v))

  pub usual_raw : words.kind ≡ kinds.Raw → IsUsual words v
  usual_raw is = record {
    some = some;
    before_end = before_end;
    says = λ answer are. (Raw v, refl, taken_raw answer are is);
  }

  taken_text : (answer : Outcome) → AreWords answer words → words.kind ≡ kinds.Text → IsUtf8 v
      → IsSaid answer (record { verb = words.verb; name = []; value = Text v })
  taken_text answer are is utf8 =
      let fits : KindSaysBack kinds.Text words.verb (upper words.name.now) = rw is at are.fits in
      let nameless : words.name.now ≡ [] = are.nameless (rw is tt) in
      let not_empty : (length v == 0) ≡ false = ne_eqb (length v) 0 (λ e. omega (arith, e, some)) in
      let read : answer ≡ command_by words.verb [] (Text v) =
      rw (is, value, not_empty, utf8_lossy-IsUtf8 v utf8) at (nameless_read answer words are nameless) in
      subst (λ answer. IsSaid answer (record { verb = words.verb; name = []; value = Text v }))
      (sym read) (rw nameless at (fits v))

  pub usual_text : words.kind ≡ kinds.Text → IsUtf8 v → IsUsual words v
  usual_text is utf8 = record {
    some = some;
    before_end = before_end;
    says = λ answer are. (Text v, refl, taken_text answer are is utf8);
  }

-- ---- the value that is sent

maybe_raw_untyped : (v : Bytes) → IsUntyped (maybe_raw (unless_empty v))
maybe_raw_untyped [] = tt
maybe_raw_untyped (b ∷ v) = tt

maybe_text_untyped : (text : Bytes) → IsUntyped (maybe_text (unless_empty text))
maybe_text_untyped [] = tt
maybe_text_untyped (b ∷ text) = tt

-- what an outcome says that has no type of its own
abbrev SaysUntyped : Outcome → Verb → Bytes → Type 0
SaysUntyped answer verb name = (value : Value) × IsUntyped value
    × IsSaid answer (record { verb = verb; name = name; value = value })

not_false : (b : Bool) → not b ≡ false → b ≡ true
not_false true e = refl
not_false false e = cc

takes : (kind : Kind) (verb : Verb) (name parameter v : Bytes) → kind ≢ kinds.Typed
    → kind ≢ kinds.Subcommand → KindSaysBack kind verb name → refuses kind v ≡ false
    → value_of parameter ≡ Some v → SaysUntyped (parameter_outcome kind verb name parameter) verb name
takes kinds.Ignored verb name parameter v untyped split fits accepts is = (Nothing, tt, fits)
takes kinds.Alone verb name parameter v untyped split fits accepts is =
    (Nothing, tt, rw (is, not_false (length v == 0) accepts) fits)
takes kinds.Raw verb name parameter v untyped split fits accepts is =
    (maybe_raw (unless_empty v), maybe_raw_untyped v, rw is (fits v))
takes kinds.Text verb name parameter v untyped split fits accepts is =
    (Text (utf8_lossy v), tt, rw (is, accepts) (fits (utf8_lossy v)))
takes kinds.OptionalText verb name parameter v untyped split fits accepts is = (
  maybe_text (unless_empty (utf8_lossy v)),
  maybe_text_untyped (utf8_lossy v),
  rw (is, text_of v) (fits (utf8_lossy v)),
)
takes kinds.Listing verb name parameter v untyped split fits accepts is = (
  maybe_text (unless_empty (path_of (utf8_lossy v))),
  maybe_text_untyped (path_of (utf8_lossy v)),
  rw is (fits (path_of (utf8_lossy v))),
)
takes kinds.Typed verb name parameter v untyped split fits accepts is = absurd (untyped refl)
takes kinds.Subcommand verb name parameter v untyped split fits accepts is = absurd (split refl)

module _ (words : Words) (answer : Outcome) (are : AreWords answer words)
    (utf8 : is_utf8 words.name.now ≡ true) where
  by_parameter : answer
      ≡ parameter_outcome words.kind words.verb (upper words.name.now) words.parameter.now
  by_parameter = rw utf8 at are.read

  pub sends_value : (v : Bytes) → words.kind ≢ kinds.Typed → refuses words.kind v ≡ false
      → value_of words.parameter.now ≡ Some v
      → SaysUntyped answer words.verb (upper words.name.now)
  sends_value v untyped accepts is = subst (λ answer. SaysUntyped answer words.verb
      (upper words.name.now)) (sym by_parameter) (takes words.kind words.verb (upper words.name.now)
      words.parameter.now v untyped are.split are.fits accepts is)

  pub sends_ignored : words.kind ≡ kinds.Ignored → SaysUntyped answer words.verb (upper words.name.now)
  sends_ignored is =
      let read : answer ≡ command_by words.verb (upper words.name.now) Nothing =
      rw is at by_parameter in
      let says : IsSaid (command_by words.verb (upper words.name.now) Nothing)
      (record { verb = words.verb; name = upper words.name.now; value = Nothing }) =
      rw is at are.fits in (
        Nothing,
        tt,
        subst (λ answer. IsSaid answer
            (record { verb = words.verb; name = upper words.name.now; value = Nothing })) (sym read) says,
      )
