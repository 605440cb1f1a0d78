-- What the codec finds, and what a call of `unftp_next` then leaves.
use Rattle.std.proofs.Common.{◌≡◌, Ok, Err, ap, ℕ, ◌≤◌, true, inl, inr, length, take, refl, sym, ◌∙◌, arith}
use Rattle.std.proofs.lemmas.Bool.{le-leb}
use Rattle.std.proofs.lemmas.Bool.Decides.{nat_tests}
use Rattle.std.proofs.lemmas.List.{length-take-le}
use Rattle.unftp_control_defs.specs.Bytes.{Bytes}
use Rattle.unftp_control_defs.specs.Events.{Fault, Refused, event_of, line_too_long, refusal_fault}
use Rattle.unftp_control_defs.specs.FtpCommand.{Outcome, InvalidCommand, InvalidUtf8, InvalidEol, Said}
use Rattle.unftp_control_defs.specs.Said.{IsSaid}
use Rattle.unftp_control_defs.specs.Outcome.{outcome}
use Rattle.unftp_control_message.specs.declared.reply.error.parse_error.ParseErrorKind.{ParseErrorKind}
use Rattle.unftp_control_message.specs.declared.reply.error.parse_error.ParseErrorKind.TheVariants as kind
use Rattle.unftp_control_codecs.specs.Memory.{IsRefusal}
use Rattle.unftp_control_codecs.specs.declared.FirstLine.{FirstLine}
use Rattle.unftp_control_codecs.specs.declared.FirstLine.TheVariants.{TooLong, Complete}
use Rattle.unftp_control_codecs.proofs.FirstLineLemmas.{Counts, counts}
use Rattle.unftp_control_c.specs.declared.status.Status.TheVariants.{LineTooLong}
use Rattle.unftp_control_c.specs.Numbers.{fault_status, kind_status}
use Rattle.unftp_control_c.specs.Next.{NextCall, Left, Leaves, LeavesLine, at_next_line, by_first_line, codec_of, first_of, given_for, given_of, gives, is_valid, next_codec, next_of, resumed, used_up}

-- a line that gives no command takes no room
pub fault_left : (call : NextCall) (line : Bytes) (fault : Fault)
    → gives call line (given_for (Refused fault))
    ≡ used_up call (fault_status fault) (length line) (at_next_line call.connection)
fault_left call line fault = rw (le-leb 0 (length call.area) (omega arith)) refl

pub refused_left : (call : NextCall) (line : Bytes) (kind : ParseErrorKind)
    → IsRefusal (outcome line) kind
    → gives call line (given_for (event_of (outcome line)))
    ≡ used_up call (kind_status kind) (length line) (at_next_line call.connection)
refused_left call line kind.InvalidCommand refuses =
    rw refuses (fault_left call line (refusal_fault InvalidCommand))
refused_left call line kind.InvalidUtf8 refuses =
    rw refuses (fault_left call line (refusal_fault InvalidUtf8))
refused_left call line kind.InvalidEol refuses =
    rw refuses (fault_left call line (refusal_fault InvalidEol))
refused_left call line kind.OutOfMemory refuses = absurd refuses

-- a command is given as it is said
pub said_given : (answer : Outcome) (parts : Said) → IsSaid answer parts
    → given_for (event_of answer) ≡ given_of parts
said_given (Ok command) parts says = ap given_of says.1
said_given (Err refusal) parts says = absurd says.1

module _ (call : NextCall) (valid : is_valid call.connection (length call.bytes) ≡ true) where
  pub offset_within : call.connection.offset ≤ length call.bytes
  offset_within = grind (arith, nat_tests, valid)

  -- what is so of what the codec finds
  pub counts_of : (found : FirstLine) → first_of call ≡ found
      → Counts (codec_of call.connection) call.bytes (next_codec call) found
  counts_of found e = rw e at (counts (codec_of call.connection) call.bytes offset_within)

  pub found_left : (found : FirstLine) → found ≡ first_of call → next_of call ≡ by_first_line call found
  found_left found e = rw (valid, sym e) refl

  pub too_long_left : (n : ℕ) → TooLong n ≡ first_of call
      → next_of call ≡ used_up call LineTooLong n (resumed call.connection (next_codec call))
  too_long_left n e =
      let c = counts_of (TooLong n) (sym e) in
      let whole = length-take-le n call.bytes c.0.within in
      found_left (TooLong n) e ∙ fault_left call (take n call.bytes) line_too_long
      ∙ rw (whole, c.1, c.2) refl

  pub complete_left : (n : ℕ) → Complete n ≡ first_of call → (left : Left)
      → LeavesLine call (take n call.bytes) left → Leaves call left
  complete_left n e left (inl so) = inl (so ∙ sym (found_left (Complete n) e))
  complete_left n e left (inr out) = inr ((n, valid, sym e, out.0), out.1)
