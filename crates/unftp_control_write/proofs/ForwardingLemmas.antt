-- What is left of a line without its end, and what is forwarded for it.
use Rattle.std.proofs.Common.{◌≡◌, ◌-◌, ◌+◌, ℕ, Bool, true, false, [], ◌∷◌, ◌++◌, length, take, drop, Option, Some, None, Result, Ok, Err, OnOk, refl, sym, ap, subst, ◌∙◌, eq-eqb, eqb-true, Bor, append_assoc, unwrap_or}
use Rattle.std.specs.Prelude.{IfErr, MatchOption, nat_eq}
use Rattle.std.specs.Cmp.Lexicographic.{pointwise}
use Rattle.std.specs.Global.{Vec}
use Rattle.std.proofs.lemmas.Bool.{false≢true}
use Rattle.std.proofs.lemmas.List.{append_cancel_right}
use Rattle.std.proofs.lemmas.Slice.Eq.{strip_suffix_is}
use Rattle.unftp_control_defs.specs.Bytes.{Bytes, LF, CR, crlf, Lacks}
use Rattle.unftp_control_defs.specs.Lines.{IsLine}
use Rattle.unftp_control_defs.specs.Verbs.{verb_of, parameter_of, upper}
use Rattle.unftp_control_defs.specs.FtpCommand.{FtpCommand, Outcome, List as Listing, TypeCode, Allo, Md5, Site, Other, Said, kind, said, word}
use Rattle.unftp_control_defs.specs.Said.{IsSaid, MeansCommand, value_bytes}
use Rattle.unftp_control_defs.specs.Outcome.{outcome}
use Rattle.unftp_control_defs.specs.Canonical.{canonical_body, with_optional}
use Rattle.unftp_control_defs.specs.Forwarded.{before_end, forwarded_line, keeps_parameter, kind_keeps, with_parameter}
use Rattle.unftp_control_defs.proofs.LineEndLemmas.{IsLine-ends}
use Rattle.unftp_control_defs.proofs.ForwardedLineLemmas.{before_end-crlf, before_end-lf, cut-before_end, IsLine-forwarded_line, outcome-forwarded_line}
use Rattle.unftp_control_defs.proofs.KeptKindLemmas.{keeps_parameter-command}
use Rattle.unftp_control_write.specs.Forwarding.{IsForwarded, LacksRoomFor, sent_line}
use Rattle.unftp_control_defs.specs.Room.{LacksRoom}
use Rattle.unftp_control_write.specs.declared.forwarding.ForwardError.{ForwardError}
use Rattle.unftp_control_write.specs.declared.forwarding.ForwardError.TheVariants.{OutOfMemory}

-- what `strip_suffix` returns
abbrev pub Strips : Bytes → Bytes → Option (Bor Bytes) → Type 0
Strips text end r =
    MatchOption r (pointwise nat_eq (drop (length text - length end) text) end ≡ false)
    (λ x. (pointwise nat_eq (drop (length text - length end) text) end ≡ true)
    × (x.now ≡ take (length text - length end) text)
    × (length x.now + length end ≡ length text))

stripped : (text end : Bytes) (r : Option (Bor Bytes)) → Strips text end r
    → MatchOption r ((front : Bytes) → text ≡ front ++ end → ⊥) (λ x. text ≡ x.now ++ end)
stripped text end r strips = strip_suffix_is (λ a b. (eqb-true a b, eq-eqb a b)) text end r strips

Lacks-front : (text more : Bytes) → Lacks LF (text ++ more) → Lacks LF text
Lacks-front [] more h = tt
Lacks-front (b ∷ text) more h = (h.0, Lacks-front text more h.1)

module _ (line : Bytes) (body : Bor Bytes) (strips : Strips line (LF ∷ []) (Some body)) where
  pub Lacks-body : IsLine line → Lacks LF body.now
  Lacks-body l =
      subst (Lacks LF)
      (append_cancel_right l.body body.now (LF ∷ [])
      (sym l.whole ∙ stripped line (LF ∷ []) (Some body) strips)) l.one_end

  pub IsLine-body : Lacks LF body.now → IsLine line
  IsLine-body lacks =
      record {
        body = body.now;
        whole = stripped line (LF ∷ []) (Some body) strips;
        one_end = lacks;
      }

  pub text-before_end : (r : Option (Bor Bytes)) → Lacks LF body.now → Strips body.now (CR ∷ []) r
      → (unwrap_or r body).now ≡ before_end line
  text-before_end None lacks cr =
      sym (ap before_end (stripped line (LF ∷ []) (Some body) strips)
      ∙ before_end-lf body.now lacks (stripped body.now (CR ∷ []) None cr))
  text-before_end (Some text) lacks cr =
      let cut = stripped body.now (CR ∷ []) (Some text) cr in
      let whole : line ≡ text.now ++ crlf = stripped line (LF ∷ []) (Some body) strips
      ∙ ap (λ t. t ++ LF ∷ []) cut ∙ append_assoc text.now (CR ∷ []) (LF ∷ []) in
      sym (ap before_end whole
      ∙ before_end-crlf text.now []
      (Lacks-front text.now (CR ∷ []) (subst (Lacks LF) cut lacks)))

-- where a verb takes no value, or one of a type of its own, the line is its word and its value
typed_body : (command : FtpCommand) → kind_keeps (kind (said command).verb) ≡ false
    → canonical_body command
    ≡ with_optional (word (said command).verb) (value_bytes (said command).value)
typed_body TypeCode canonical = absurd (false≢true (sym canonical))
typed_body Allo canonical = absurd (false≢true (sym canonical))
typed_body (Listing options path) canonical = absurd (false≢true (sym canonical))
typed_body (Md5 file) canonical = absurd (false≢true (sym canonical))
typed_body (Site name arguments) canonical = absurd (false≢true (sym canonical))
typed_body (Other name arguments) canonical = absurd (false≢true (sym canonical))
typed_body command canonical = refl

-- the command of which this is said
told : (answer : Outcome) (parts : Said) → MeansCommand answer parts
    → (command : FtpCommand) × (answer ≡ Ok command) × (said command ≡ parts)
told (Ok command) parts tells = (command, refl, tells)
told (Err refusal) parts tells = absurd tells

-- What is appended for the parts of a line is the line that is forwarded.
module _ (line text : Bytes) (parts : Said) (read : IsSaid (outcome line) parts) where
  command : (command : FtpCommand) × (outcome line ≡ Ok command) × (said command ≡ parts)
  command = told (outcome line) parts read.1

  verb_said : (said command.0).verb ≡ parts.verb
  verb_said = ap (λ parts. parts.verb) command.2

  value_said : (said command.0).value ≡ parts.value
  value_said = ap (λ parts. parts.value) command.2

  module _ (is_line : IsLine line) (text_is : text ≡ before_end line) where
    same_line : sent_line text parts ≡ forwarded_line line command.0
    same_line = by_test (kind_keeps (kind parts.verb)) refl
      where
        verb_is : verb_of text ≡ verb_of line
        verb_is = ap verb_of text_is ∙ (cut-before_end line (IsLine-ends line is_line)).0

        parameter_is : parameter_of text ≡ before_end (parameter_of line)
        parameter_is =
            ap parameter_of text_is ∙ (cut-before_end line (IsLine-ends line is_line)).1

        same : keeps_parameter (upper (verb_of line)) ≡ kind_keeps (kind parts.verb)
        same = sym (keeps_parameter-command line command.0 command.1)
            ∙ ap (λ verb. kind_keeps (kind verb)) verb_said

        by_test : (test : Bool) → kind_keeps (kind parts.verb) ≡ test
            → sent_line text parts ≡ forwarded_line line command.0
        by_test true e =
            rw (same, e) (λ i. with_parameter (upper (verb_is i)) (parameter_is i) ++ crlf)
        by_test false e =
            rw (same, e) (sym ((λ i. typed_body command.0
            (ap (λ verb. kind_keeps (kind verb)) verb_said ∙ e) i ++ crlf)
            ∙ (λ i. with_optional (word (verb_said i)) (value_bytes (value_said i)) ++ crlf)))

    forwarded : (before after : Bytes)
        → after ≡ before ++ sent_line text parts → IsForwarded line before after
    forwarded before after after_is = record {
      command = command.0;
      means = command.1;
      appended = after_is ∙ ap (λ sent. before ++ sent) same_line;
      is_line = IsLine-forwarded_line line command.0 is_line command.1;
      read_back = outcome-forwarded_line line command.0 is_line command.1;
    }

    pub all_forwarded : {T E : Type 0} (result : Result T E) (before after : Bytes)
        → OnOk result (after ≡ before ++ sent_line text parts)
        → OnOk result (IsForwarded line before after)
    all_forwarded (Ok done) before after after_is = forwarded before after after_is
    all_forwarded (Err error) before after after_is = tt

    pub lacks_room : {T : Type 0} (result : Result T ForwardError) (buf : Vec ℕ)
        → IfErr result (λ error. (error ≡ OutOfMemory)
        × LacksRoom buf (sent_line text parts))
        → result ≡ Err OutOfMemory → LacksRoomFor line buf
    lacks_room (Ok done) buf why is = absurd (cc)
    lacks_room (Err error) buf why is = record {
      command = command.0;
      means = command.1;
      room = subst (LacksRoom buf) same_line why.1;
    }
