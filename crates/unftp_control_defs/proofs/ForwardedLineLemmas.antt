-- The line that is forwarded for a line is one line, and is read as the line's command.
use Rattle.std.proofs.Common.{◌≡◌, ◌≢◌, ℕ, Bool, true, false, cond, [], ◌∷◌, ◌++◌, ◌⊎◌, Option, Some, None, Ok, refl, sym, ap, ◌∙◌, inl, inr, ne_eqb, eq-eqb, append_assoc, arith}
use Rattle.std.specs.List.{AllByRecursion}
use Rattle.std.specs.Str.{is_utf8}
use Rattle.std.proofs.lemmas.Bool.{cases_eq, false≢true}
use Rattle.std.proofs.lemmas.Str.{is_utf8-from_IsUtf8}
use Rattle.unftp_control_defs.specs.Bytes.{Bytes, NUL, LF, CR, SP, crlf, Lacks}
use Rattle.unftp_control_defs.specs.Lines.{IsLine}
use Rattle.unftp_control_defs.specs.Verbs.{is_separator, verb_of, parameter_of, upper}
use Rattle.unftp_control_defs.specs.Values.{ReadsLater, ends_crlf, ends_lf, cr_nul, byte, Reads, nothing, ended, ended_crlf, one_byte, first_cr_nul, first_byte}
use Rattle.unftp_control_defs.specs.ComputedValue.{value_of}
use Rattle.unftp_control_defs.specs.FtpCommand.{Outcome, FtpCommand, InvalidUtf8, kind, verbs}
use Rattle.unftp_control_defs.specs.Rules.{row_of, subcommand_outcome, taken}
use Rattle.unftp_control_defs.specs.declared.verb.Kind.{Kind}
use Rattle.unftp_control_defs.specs.declared.verb.Kind.TheVariants as kinds
use Rattle.unftp_control_defs.specs.declared.verb.Verb.{Verb}
use Rattle.unftp_control_defs.specs.declared.verb.Verb.TheVariants as verb
use Rattle.unftp_control_defs.specs.Outcome.{outcome, parameter_outcome, site_outcome, value_outcome, word_outcome}
use Rattle.unftp_control_defs.specs.Canonical.{canonical_line, HasLine}
use Rattle.unftp_control_defs.specs.Forwarded.{keeps_parameter, begins_with_lf, begins_end, before_end, with_parameter, kept_line, forwarded_line}
use Rattle.unftp_control_defs.proofs.SoundLemmas.{passed}
use Rattle.unftp_control_defs.proofs.CanonicalLineLemmas.{outcome-canonical_line}
use Rattle.unftp_control_defs.proofs.CanonicalLineEndLemmas.{IsLine-canonical_line}
use Rattle.unftp_control_defs.proofs.CommandLineLemmas.{HasLine-outcome, HasTypedFields-outcome, uppercased_name, uppercased_utf8}
use Rattle.unftp_control_defs.proofs.LackLemmas.{Lacks-append, Lacks-name}
use Rattle.unftp_control_defs.proofs.LineEndLemmas.{EndsAtLf, inner, parts, not_cr, IsLine-ends, parameter_of-ends}
use Rattle.unftp_control_defs.proofs.UpperLemmas.{bare_name, upper-IsUpperCaseName}
use Rattle.unftp_control_defs.proofs.ValueLemmas.{Reads-value_of, value_of-Reads}
use Rattle.unftp_control_defs.proofs.VerbLemmas.{parted_cut, verb_step, parameter_step}

-- no end begins at a byte other than LF where no LF follows
no_end : (b : ℕ) (bytes : Bytes) → b ≢ LF → begins_with_lf bytes ≡ false
    → begins_end b bytes ≡ false
no_end b bytes no_lf next = by_byte (cases_eq b CR)
  where
    by_byte : (b ≡ CR) ⊎ (b ≡ CR → ⊥) → begins_end b bytes ≡ false
    by_byte (inl e) = rw (e, next)
    by_byte (inr ne) = rw (ne_eqb b LF no_lf, ne_eqb b CR ne)

before_end-byte : (b : ℕ) (bytes : Bytes) → begins_end b bytes ≡ false
    → before_end (b ∷ bytes) ≡ b ∷ before_end bytes
before_end-byte b bytes e = rw e

pub Lacks-before_end : (bytes : Bytes) → Lacks LF (before_end bytes)
Lacks-before_end [] = tt
Lacks-before_end (b ∷ bytes) = by_test (begins_end b bytes) refl (Lacks-before_end bytes)
  where
    by_test : (test : Bool) → begins_end b bytes ≡ test → Lacks LF (before_end bytes)
        → Lacks LF (cond test [] (b ∷ before_end bytes))
    by_test true e h = tt
    by_test false e h = ((λ q. false≢true (sym (rw (eq-eqb b LF q) at e))), h)

-- an end after a text
next_byte : (text : Bytes) (rest : Bytes) → Lacks LF text → begins_with_lf (text ++ CR ∷ rest)
    ≡ false
next_byte [] rest h = refl
next_byte (b ∷ text) rest h = rw (ne_eqb b LF h.0)

pub before_end-crlf : (text rest : Bytes) → Lacks LF text → before_end (text ++ CR ∷ LF ∷ rest)
    ≡ text
before_end-crlf [] rest h = refl
before_end-crlf (b ∷ text) rest h =
    before_end-byte b (text ++ CR ∷ LF ∷ rest)
    (no_end b (text ++ CR ∷ LF ∷ rest) h.0 (next_byte text (LF ∷ rest) h.1))
    ∙ ap (λ t. b ∷ t) (before_end-crlf text rest h.1)

-- With CR LF for its end the parameter has the same value.
later_kept : {fresh : Bool} {bytes v : Bytes} → EndsAtLf bytes → ReadsLater fresh bytes v
    → ReadsLater fresh (before_end bytes ++ crlf) v
later_kept h ends_crlf = ends_crlf
later_kept h ends_lf = ends_crlf
later_kept h (cr_nul r) = cr_nul (later_kept h.1.1 r)
later_kept h (byte {b} no_cr may r) =
    rw (ne_eqb b LF (inner h r), ne_eqb b CR no_cr) (byte no_cr may (later_kept h.1 r))

no_lf_first : {bytes v : Bytes} → EndsAtLf bytes → ReadsLater true bytes v
    → begins_with_lf bytes ≡ false
no_lf_first h ends_crlf = refl
no_lf_first h (cr_nul r) = refl
no_lf_first h (byte {b} no_cr may r) = rw (ne_eqb b LF (inner h r))

-- the first byte stays, and a NUL after it is no other one
same_next : {bytes v rest : Bytes} → EndsAtLf bytes → ReadsLater true bytes v
    → before_end bytes ++ crlf ≡ NUL ∷ rest → (more : Bytes) × (bytes ≡ NUL ∷ more)
same_next h ends_crlf e = absurd (let clash : CR ≡ NUL = cc in omega arith)
same_next h (cr_nul r) e = absurd (let clash : CR ≡ NUL = cc in omega arith)
same_next {rest} h (byte {b} {bytes} no_cr may r) e =
    let f : b ∷ (before_end bytes ++ crlf) ≡ NUL ∷ rest =
    rw (ne_eqb b LF (inner h r), ne_eqb b CR no_cr) at e in
    let is : b ≡ NUL = cc in (bytes, ap (λ c. c ∷ bytes) is)

apart_kept : {b : ℕ} {bytes v : Bytes} → EndsAtLf bytes → ReadsLater true bytes v
    → ((rest : Bytes) → b ∷ bytes ≢ CR ∷ NUL ∷ rest) → (rest : Bytes)
    → b ∷ (before_end bytes ++ crlf) ≢ CR ∷ NUL ∷ rest
apart_kept h r apart rest q =
    let both = parts q in
    let more = same_next h r both.1 in
    apart more.0 (λ i. both.0 i ∷ more.1 i)

reads_kept : {parameter v : Bytes} → EndsAtLf parameter → Reads parameter v
    → Reads (before_end parameter ++ crlf) v
reads_kept h nothing = ended_crlf
reads_kept h ended = ended_crlf
reads_kept h ended_crlf = ended_crlf
reads_kept h (one_byte {b} no_cr no_lf) =
    rw (ne_eqb b LF no_lf, ne_eqb b CR no_cr) (first_byte no_lf (λ rest. not_cr no_cr) ends_crlf)
reads_kept h (first_cr_nul r) = first_cr_nul (later_kept h.1.1 r)
reads_kept h (first_byte {b} {bytes} no_lf apart r) =
    rw (no_end b bytes no_lf (no_lf_first h.1 r))
    (first_byte no_lf (apart_kept h.1 r apart) (later_kept h.1 r))

value_kept : (parameter v : Bytes) → EndsAtLf parameter → value_of parameter ≡ Some v
    → value_of (before_end parameter ++ crlf) ≡ Some v
value_kept parameter v ends h = value_of-Reads (reads_kept ends (Reads-value_of parameter v h))

-- The end of a whole line.
pub before_end-lf : (text : Bytes) → Lacks LF text → ((front : Bytes) → text ≢ front ++ CR ∷ [])
    → before_end (text ++ LF ∷ []) ≡ text
before_end-lf [] h no_cr = refl
before_end-lf (b ∷ []) h no_cr =
    rw (ne_eqb b LF h.0, ne_eqb b CR (λ e. no_cr [] (ap (λ a. a ∷ []) e)))
before_end-lf (b ∷ c ∷ text) h no_cr =
    before_end-byte b (c ∷ text ++ LF ∷ []) (no_end b (c ∷ text ++ LF ∷ []) h.0 (ne_eqb c LF h.1.0))
    ∙ ap (λ t. b ∷ t)
    (before_end-lf (c ∷ text) h.1 (λ front e. no_cr (b ∷ front) (ap (λ t. b ∷ t) e)))

lf_first : (bytes : Bytes) → begins_with_lf bytes ≡ true → before_end bytes ≡ []
lf_first [] e = refl
lf_first (b ∷ bytes) e = rw e

at_end : (b : ℕ) (bytes : Bytes) → (b ≡ LF → bytes ≡ []) → begins_end b bytes ≡ true
    → (is_separator b ≡ true) × (before_end bytes ≡ [])
at_end b bytes last e = by_lf (cases_eq b LF)
  where
    by_cr : b ≢ LF → (b ≡ CR) ⊎ (b ≡ CR → ⊥) → (is_separator b ≡ true) × (before_end bytes ≡ [])
    by_cr no_lf (inl q) = (rw q, lf_first bytes (rw q at e))
    by_cr no_lf (inr no_cr) = absurd (false≢true (rw (ne_eqb b LF no_lf, ne_eqb b CR no_cr) at e))

    by_lf : (b ≡ LF) ⊎ (b ≡ LF → ⊥) → (is_separator b ≡ true) × (before_end bytes ≡ [])
    by_lf (inl q) = (rw q, ap before_end (last q))
    by_lf (inr no_lf) = by_cr no_lf (cases_eq b CR)

abbrev SameCut : Bytes → Bytes → Type 0
SameCut line text = (verb_of text ≡ verb_of line)
    × (parameter_of text ≡ before_end (parameter_of line))

cut_byte : (b : ℕ) (bytes : Bytes) → (b ≡ LF → bytes ≡ []) → SameCut bytes (before_end bytes)
    → SameCut (b ∷ bytes) (before_end (b ∷ bytes))
cut_byte b bytes last more = by_end (begins_end b bytes) refl
  where
    by_separator : (test : Bool) → is_separator b ≡ test
        → SameCut (b ∷ bytes) (b ∷ before_end bytes)
    by_separator true e =
        let cut = parted_cut [] b bytes tt e in
        let front = parted_cut [] b (before_end bytes) tt e in
        (front.0 ∙ sym cut.0, front.1 ∙ ap before_end (sym cut.1))
    by_separator false e = (
      verb_step b (before_end bytes) e ∙ ap (λ v. b ∷ v) more.0 ∙ sym (verb_step b bytes e),
      parameter_step b (before_end bytes) e ∙ more.1
          ∙ ap before_end (sym (parameter_step b bytes e)),
    )

    by_end : (test : Bool) → begins_end b bytes ≡ test
        → SameCut (b ∷ bytes) (cond test [] (b ∷ before_end bytes))
    by_end true e =
        let ended = at_end b bytes last e in
        let cut = parted_cut [] b bytes tt ended.0 in
        (sym cut.0, sym (ap before_end cut.1 ∙ ended.1))
    by_end false e = by_separator (is_separator b) refl

-- Without its end a line has the same verb, and the parameter's bytes up to the end.
pub cut-before_end : (line : Bytes) → EndsAtLf line → (verb_of (before_end line) ≡ verb_of line)
    × (parameter_of (before_end line) ≡ before_end (parameter_of line))
cut-before_end [] ends = (refl, refl)
cut-before_end (b ∷ bytes) ends = cut_byte b bytes ends.0 (cut-before_end bytes ends.1)

-- the parameter bytes of the line that is made
abbrev made_parameter : Bytes → Bytes
made_parameter [] = LF ∷ []
made_parameter (b ∷ text) = b ∷ text ++ crlf

value_of-made_parameter : (text : Bytes) → value_of (made_parameter text) ≡ value_of (text ++ crlf)
value_of-made_parameter [] = refl
value_of-made_parameter (b ∷ text) = refl

before_end-made_parameter : (text : Bytes) → Lacks LF text → before_end (made_parameter text) ≡ text
before_end-made_parameter [] h = refl
before_end-made_parameter (b ∷ text) h = before_end-crlf (b ∷ text) [] h

-- Bytes without an end have the same verb with one; and the value of what follows it is that of
-- what follows it there, with an end.
ended_cut : (text : Bytes) → (verb_of (text ++ crlf) ≡ verb_of text)
    × (value_of (parameter_of (text ++ crlf)) ≡ value_of (parameter_of text ++ crlf))
ended_cut [] = (refl, refl)
ended_cut (b ∷ text) = by_separator (is_separator b) refl (ended_cut text)
  where
    by_separator : (test : Bool) → is_separator b ≡ test
        → (verb_of (text ++ crlf) ≡ verb_of text)
        × (value_of (parameter_of (text ++ crlf)) ≡ value_of (parameter_of text ++ crlf))
        → (verb_of (b ∷ text ++ crlf) ≡ verb_of (b ∷ text))
        × (value_of (parameter_of (b ∷ text ++ crlf)) ≡ value_of (parameter_of (b ∷ text) ++ crlf))
    by_separator true e more =
        let cut = parted_cut [] b text tt e in
        let ended = parted_cut [] b (text ++ crlf) tt e in
        (ended.0 ∙ sym cut.0, ap value_of (ended.1 ∙ ap (λ t. t ++ crlf) (sym cut.1)))
    by_separator false e more = (
      verb_step b (text ++ crlf) e ∙ ap (λ v. b ∷ v) more.0 ∙ sym (verb_step b text e),
      ap value_of (parameter_step b (text ++ crlf) e) ∙ more.1
          ∙ ap (λ t. value_of (t ++ crlf)) (sym (parameter_step b text e)),
    )

-- The same subcommand and value are read of them, with an LF alone where there are none.
made_cut_again : (text : Bytes) → (verb_of (made_parameter text) ≡ verb_of text)
    × (value_of (parameter_of (made_parameter text)) ≡ value_of (parameter_of text ++ crlf))
made_cut_again [] = (refl, refl)
made_cut_again (b ∷ text) = ended_cut (b ∷ text)

value_answer_kept : (answer : Bytes → Outcome) (parameter : Bytes) {command : FtpCommand}
    → EndsAtLf parameter → value_outcome answer (value_of parameter) ≡ Ok command
    → value_outcome answer (value_of (before_end parameter ++ crlf)) ≡ Ok command
value_answer_kept answer parameter {command} ends e = by_option (value_of parameter) refl e
  where
    by_option : (o : Option Bytes) → value_of parameter ≡ o → value_outcome answer o ≡ Ok command
        → value_outcome answer (value_of (before_end parameter ++ crlf)) ≡ Ok command
    by_option None q f = cc
    by_option (Some v) q f = ap (value_outcome answer) (value_kept parameter v ends q) ∙ f

site_kept : (parameter : Bytes) {command : FtpCommand} → EndsAtLf parameter
    → site_outcome parameter ≡ Ok command
    → site_outcome (made_parameter (before_end parameter)) ≡ Ok command
site_kept parameter {command} ends e =
    let cut = cut-before_end parameter ends in
    let made = made_cut_again (before_end parameter) in
    let answer : Bytes → Outcome = subcommand_outcome (upper (verb_of parameter)) in
    let read = passed (is_utf8 (verb_of parameter))
    (value_outcome answer (value_of (parameter_of parameter))) InvalidUtf8 command e in
    rw (made.0 ∙ cut.0, made.1 ∙ ap (λ text. value_of (text ++ crlf)) cut.1, read.0)
    (value_answer_kept answer (parameter_of parameter) (parameter_of-ends parameter ends) read.1)

-- the verb makes the same of them
answer_kept : (kind : Kind) (verb : Verb) (word parameter : Bytes) {command : FtpCommand}
    → EndsAtLf parameter → parameter_outcome kind verb word parameter ≡ Ok command
    → parameter_outcome kind verb word (made_parameter (before_end parameter)) ≡ Ok command
answer_kept kinds.Ignored verb word parameter ends e = e
answer_kept kinds.Subcommand verb word parameter ends e = site_kept parameter ends e
answer_kept kind verb word parameter ends e =
    ap (value_outcome (taken kind verb word)) (value_of-made_parameter (before_end parameter))
    ∙ value_answer_kept (taken kind verb word) parameter ends e

-- The line that is made of a name.
module _ (name : Bytes) (bare : AllByRecursion (λ b. is_separator b ≡ false) name) where
  made_cut : (text : Bytes) → (verb_of (with_parameter name text ++ crlf) ≡ name)
      × (parameter_of (with_parameter name text ++ crlf) ≡ made_parameter text)
  made_cut [] = parted_cut name CR (LF ∷ []) bare refl
  made_cut (b ∷ text) =
      let joined = append_assoc name (SP ∷ b ∷ text) crlf in
      let cut = parted_cut name SP (b ∷ text ++ crlf) bare refl in
      (ap verb_of joined ∙ cut.0, ap parameter_of joined ∙ cut.1)

bare_verb : (line : Bytes) → AllByRecursion (λ b. is_separator b ≡ false) (upper (verb_of line))
bare_verb line = bare_name (upper (verb_of line)) (uppercased_name line)

-- The verb and the parameter of a line that keeps it are those of the line.
kept_cut : (line : Bytes) → (verb_of (kept_line line) ≡ upper (verb_of line))
    × (before_end (parameter_of (kept_line line)) ≡ before_end (parameter_of line))
kept_cut line =
    let text : Bytes = before_end (parameter_of line) in
    let cut = made_cut (upper (verb_of line)) (bare_verb line) text in (
      cut.0,
      ap before_end cut.1
          ∙ before_end-made_parameter text (Lacks-before_end (parameter_of line)),
    )

pub verb_of-forwarded_line : (line : Bytes) (command : FtpCommand)
    → keeps_parameter (upper (verb_of line)) ≡ true → verb_of (forwarded_line line command)
    ≡ upper (verb_of line)
verb_of-forwarded_line line command keeps = rw keeps (kept_cut line).0

pub parameter_of-forwarded_line : (line : Bytes) (command : FtpCommand)
    → keeps_parameter (upper (verb_of line)) ≡ true
    → before_end (parameter_of (forwarded_line line command)) ≡ before_end (parameter_of line)
parameter_of-forwarded_line line command keeps = rw keeps (kept_cut line).1

module _ (line : Bytes) (command : FtpCommand) (is_line : IsLine line)
    (means : outcome line ≡ Ok command) where
  abbrev name : Bytes
  name = upper (verb_of line)

  abbrev text : Bytes
  text = before_end (parameter_of line)

  abbrev row : Option Verb
  row = row_of name verbs

  read : (is_utf8 (verb_of line) ≡ true) × (word_outcome name row (parameter_of line) ≡ Ok command)
  read = passed (is_utf8 (verb_of line)) (word_outcome name row (parameter_of line)) InvalidUtf8
      command means

  kept_answer : outcome (kept_line line) ≡ word_outcome name row (made_parameter text)
  kept_answer =
      let cut = made_cut name (bare_verb line) text in
      rw (
        cut.0,
        cut.1,
        is_utf8-from_IsUtf8 name (uppercased_utf8 line read.0),
        upper-IsUpperCaseName name (uppercased_name line),
      )

  kept_back : outcome (kept_line line) ≡ Ok command
  kept_back = kept_answer ∙ by_row row read.1
    where
      ends : EndsAtLf (parameter_of line)
      ends = parameter_of-ends line (IsLine-ends line is_line)

      by_row : (row : Option Verb) → word_outcome name row (parameter_of line) ≡ Ok command
          → word_outcome name row (made_parameter text) ≡ Ok command
      by_row None e = answer_kept kinds.OptionalText verb.Other name (parameter_of line) ends e
      by_row (Some verb) e = answer_kept (kind verb) verb [] (parameter_of line) ends e

  kept_lacks : (t : Bytes) → Lacks LF t → Lacks LF (with_parameter name t)
  kept_lacks [] h = Lacks-name name (uppercased_name line)
  kept_lacks (b ∷ t) h = Lacks-append LF name (SP ∷ b ∷ t) (Lacks-name name (uppercased_name line))
      ((λ e. omega arith), h)

  kept_is_line : IsLine (kept_line line)
  kept_is_line = record {
    body = with_parameter name text ++ CR ∷ [];
    whole = sym (append_assoc (with_parameter name text) (CR ∷ []) (LF ∷ []));
    one_end = Lacks-append LF (with_parameter name text) (CR ∷ [])
        (kept_lacks text (Lacks-before_end (parameter_of line))) ((λ e. omega arith), tt);
  }

  by_verb : (P : Bytes → Type 0) → P (kept_line line) → P (canonical_line command)
      → P (forwarded_line line command)
  by_verb P kept canonical = by_test (keeps_parameter name)
    where
      by_test : (test : Bool) → P (cond test (kept_line line) (canonical_line command))
      by_test true = kept
      by_test false = canonical

  has_line : HasLine command
  has_line = HasLine-outcome line command is_line means

  pub IsLine-forwarded_line : IsLine (forwarded_line line command)
  IsLine-forwarded_line =
      by_verb IsLine kept_is_line (IsLine-canonical_line command has_line)

  pub outcome-forwarded_line : outcome (forwarded_line line command) ≡ Ok command
  outcome-forwarded_line = by_verb (λ sent. outcome sent ≡ Ok command) kept_back
      (outcome-canonical_line command has_line (HasTypedFields-outcome line command is_line means))
