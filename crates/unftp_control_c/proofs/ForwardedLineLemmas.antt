-- The line that is forwarded, and how it is written.
use Rattle.std.proofs.Common.{◌≡◌, ◌≢◌, ◌<◌, true, false, [], ◌∷◌, ◌++◌, length, Some, Ok, Err, Bor, append_assoc, refl, ap, sym, subst, ◌∙◌, arith, rules}
use Rattle.std.proofs.lemmas.Option.{none-some, same_Some}
use Rattle.unftp_control_defs.specs.Bytes.{Bytes, SP, crlf}
use Rattle.unftp_control_defs.specs.Forwarded.{before_end, kind_keeps, with_parameter}
use Rattle.unftp_control_defs.specs.FtpCommand.{FtpCommand, InvalidCommand, InvalidEol, InvalidUtf8, Outcome, Said, Value, Nothing, Raw, Text, Chosen, Number, kind, said}
use Rattle.unftp_control_defs.specs.Lines.{IsLine}
use Rattle.unftp_control_defs.specs.Outcome.{outcome}
use Rattle.unftp_control_defs.specs.Canonical.{with_optional}
use Rattle.unftp_control_defs.specs.Said.{IsSaid, choice_word, value_bytes}
use Rattle.unftp_control_defs.specs.Values.{escaped}
use Rattle.unftp_control_defs.specs.declared.parameters.AuthParam.TheVariants.{Ssl}
use Rattle.unftp_control_defs.specs.declared.parameters.Choice.{Choice}
use Rattle.unftp_control_defs.specs.declared.parameters.Choice.TheVariants as choices
use Rattle.unftp_control_defs.specs.declared.parameters.ModeParam.TheVariants.{Stream}
use Rattle.unftp_control_defs.specs.declared.parameters.Opt.TheVariants.{Utf8}
use Rattle.unftp_control_defs.specs.declared.parameters.ProtParam.TheVariants.{Clear}
use Rattle.unftp_control_defs.specs.declared.parameters.StruParam.TheVariants.{File}
use Rattle.unftp_control_defs.specs.declared.verb.Verb.{Verb}
use Rattle.unftp_control_defs.proofs.EscapeLemmas.{escaped-decimal}
use Rattle.unftp_control_codecs.specs.Memory.{IsRefusal}
use Rattle.unftp_control_message.specs.PartsMeaning.{IsInPlace, said_of, said_value}
use Rattle.unftp_control_message.specs.declared.parts.Parts.{Parts}
use Rattle.unftp_control_message.specs.declared.parts.Value.{Value as ReadValue}
use Rattle.unftp_control_message.specs.declared.parts.Value.TheVariants as read
use Rattle.unftp_control_message.specs.declared.reply.error.parse_error.ParseErrorKind.{ParseErrorKind}
use Rattle.unftp_control_message.specs.declared.reply.error.parse_error.ParseErrorKind.TheVariants as kind_of
use Rattle.unftp_control_write.specs.Forwarding.{IsForwarded, sent_line}
use Rattle.unftp_control_write.proofs.ForwardingLemmas.{all_forwarded}
use Rattle.unftp_control_c.specs.ForwardedLines.{ForwardsTo, HasNoText, IsForwardedLine, IsSentFor, IsWritable, forwarded_text}
use Rattle.unftp_control_c.specs.Numbers.{kind_status, status_number}
use Rattle.unftp_control_c.specs.declared.status.Status.{Status}
use Rattle.unftp_control_c.specs.declared.status.Status.TheVariants.{NoLine}
use Rattle.unftp_control_c.specs.declared.forwarding.Forwarded.{Forwarded}
use Rattle.unftp_control_c.specs.declared.forwarding.Forwarded.TheVariants.{Kept, Typed}

-- a value of a type of its own is in place, and written as it is
pub in_place : (value : ReadValue) → HasNoText (said_value value) → IsInPlace value
in_place (read.Raw sent) none = absurd none
in_place (read.Lossy sent) none = absurd none
in_place value none = tt

word_as_it_is : (choice : Choice) → escaped (choice_word choice) ≡ choice_word choice
word_as_it_is (choices.Structure File) = refl
word_as_it_is (choices.Mode Stream) = refl
word_as_it_is (choices.Protection Clear) = refl
word_as_it_is (choices.Mechanism Ssl) = refl
word_as_it_is (choices.Setting (Utf8 true)) = refl
word_as_it_is choice = refl

pub typed_line : (word : Bytes) (value : Value) (bytes : Bytes) → HasNoText value
    → value_bytes value ≡ Some bytes → word ++ SP ∷ bytes ≡ with_optional word (value_bytes value)
typed_line word (Raw raw) bytes none is = absurd none
typed_line word (Text text) bytes none is = absurd none
typed_line word Nothing bytes none is = absurd (none-some bytes is)
typed_line word (Chosen choice) bytes none is =
    ap (λ text. word ++ SP ∷ text) (sym (same_Some _ _ is) ∙ sym (word_as_it_is choice))
typed_line word (Number number) bytes none is =
    ap (λ text. word ++ SP ∷ text) (sym (same_Some _ _ is) ∙ sym (escaped-decimal number))

-- a word, and a text after it
pub spaced_line : (sent word text : Bytes) → (((sent ++ word) ++ SP ∷ []) ++ text) ++ crlf
    ≡ sent ++ ((word ++ SP ∷ text) ++ crlf)
spaced_line sent word text = simp append_assoc

pub without_parameter : (sent verb parameter : Bytes) → length parameter ≡ 0
    → (sent ++ verb) ++ crlf ≡ sent ++ (with_parameter verb parameter ++ crlf)
without_parameter sent verb [] none = append_assoc sent verb crlf
without_parameter sent verb (b ∷ parameter) none = absurd (omega (arith, none))

pub some_parameter : (sent verb parameter : Bytes) → 0 < length parameter
    → (((sent ++ verb) ++ SP ∷ []) ++ parameter) ++ crlf
    ≡ sent ++ (with_parameter verb parameter ++ crlf)
some_parameter sent verb [] some = absurd (omega (arith, some))
some_parameter sent verb (b ∷ parameter) some = spaced_line sent verb (b ∷ parameter)

-- what is written for a line that says this is the line that is forwarded
module _ (line text : Bytes) (parts : Said) (says : IsSaid (outcome line) parts) (is_line : IsLine line)
    (text_is : text ≡ before_end line) where
  sent : IsForwarded line [] (sent_line text parts)
  sent = all_forwarded line text parts says is_line text_is
      {T = Bytes} {E = Bytes} (Ok []) [] (sent_line text parts) refl

  sent_for : (forwarded : Forwarded) → IsWritable forwarded
      → forwarded_text forwarded ≡ sent_line text parts → IsSentFor line forwarded
  sent_for forwarded writable is =
      let all = is ∙ sent.appended in
      record {
        writable = writable;
        is = (sent.command, sent.means, all);
        one_line = subst IsLine (sym all) sent.is_line;
        read_back = ap outcome all ∙ sent.read_back ∙ sym sent.means;
      }

pub kept_sent : (line : Bytes) (text : Bor Bytes) (verb : Verb) (name : Bytes) (value : Value)
    → IsSaid (outcome line) (record { verb = verb; name = name; value = value })
    → IsLine line → text.now ≡ before_end line → kind_keeps (kind verb) ≡ true
    → IsSentFor line (Kept text)
kept_sent line text verb name value says is_line text_is keeps = sent_for line text.now
    (record { verb = verb; name = name; value = value }) says is_line text_is (Kept text) tt
    (rw keeps refl)

pub typed_sent : (line text : Bytes) (parts : Parts) → IsSaid (outcome line) (said_of parts)
    → IsLine line → text ≡ before_end line → kind_keeps (kind parts.verb) ≡ false
    → HasNoText (said_value parts.value) → IsSentFor line (Typed parts.verb parts.value)
typed_sent line text parts says is_line text_is other none = sent_for line text (said_of parts)
    says is_line text_is (Typed parts.verb parts.value) none (rw other refl)

-- a verb whose parameter isn't kept has no text
no_text : (command : FtpCommand) → kind_keeps (kind (said command).verb) ≡ false
    → HasNoText (said command).value
no_text command other = search rules

pub typed_value : (answer : Outcome) (parts : Parts) → IsSaid answer (said_of parts)
    → kind_keeps (kind parts.verb) ≡ false → HasNoText (said_value parts.value)
typed_value (Ok command) parts says other = subst (λ parts. HasNoText parts.value) says.1
    (no_text command (ap (λ parts. kind_keeps (kind parts.verb)) says.1 ∙ other))
typed_value (Err refusal) parts says other = absurd says.1

pub refused : (line : Bytes) (why : ParseErrorKind) → IsLine line → IsRefusal (outcome line) why
    → ForwardsTo line (Err (kind_status why))
refused line kind_of.InvalidCommand is h = (is, (InvalidCommand, h, refl))
refused line kind_of.InvalidUtf8 is h = (is, (InvalidUtf8, h, refl))
refused line kind_of.InvalidEol is h = (is, (InvalidEol, h, refl))
refused line kind_of.OutOfMemory is h = absurd h

-- why nothing is sent
pub why_not : (line : Bytes) (status : Status) → ForwardsTo line (Err status)
    → IsForwardedLine line (Err status)
why_not line NoLine not_sent = not_sent
why_not line status not_sent = not_sent.1

pub no_line : (line : Bytes) (status : Status) → ForwardsTo line (Err status) → ¬ IsLine line
    → status_number status ≡ status_number NoLine
no_line line NoLine not_sent none = refl
no_line line status not_sent none = absurd (none not_sent.0)

pub some_line : (line : Bytes) (status : Status) → ForwardsTo line (Err status) → IsLine line
    → status_number status ≢ status_number NoLine
some_line line NoLine not_sent is = absurd (not_sent is)
some_line line status not_sent is = λ e. absurd (omega (arith, e))
