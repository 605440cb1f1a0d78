-- What the calls scan, one after the other.
use Rattle.std.proofs.Common.{◌≡◌, ◌+◌, List, [], ◌∷◌, length, drop, refl, sym, ◌∙◌, arith, length-append, length-drop}
use Rattle.std.specs.Prelude.{if◌then◌else◌}
use Rattle.std.proofs.lemmas.Bool.{false≢true}
use Rattle.unftp_control_defs.specs.Bytes.{Bytes}
use Rattle.unftp_control_codecs.specs.declared.FirstLine.TheVariants.{Incomplete}
use Rattle.unftp_control_codecs.specs.FirstLine.{reset}
use Rattle.unftp_control_codecs.proofs.FirstLineLemmas.{scans_few}
use Rattle.unftp_control_c.specs.Next.{given_for, NextCall, Left, codec_of, next_codec, scans}
use Rattle.unftp_control_c.specs.Taking.{AreCallerSteps, Called, Caller, CallerStep, Received, after_call, after_piece, caller_call, input_of, is_made_again, new_caller, scanned_by, unscanned}
use Rattle.unftp_control_c.proofs.CallLemmas.{NextLeft, invalid, asks, gave, Valid, left_so, once_given, valid_resumed, valid_with_piece}
use Rattle.unftp_control_c.proofs.NextLemmas.{counts_of, offset_within}
use Rattle.unftp_control_c.proofs.laws.bytes_are_scanned_once.Goals as goal

module _ (now : Caller) (ok : Valid now) (area : Bytes) where
  abbrev call : NextCall
  call = caller_call now area

  record Does (left : Left) : Type 0 where
    valid : Valid (after_call now left)
    count : (if is_made_again left.result then 0 else scans call) + unscanned (after_call now left)
        ≡ unscanned now

  does : (left : Left) → NextLeft call left → Does left
  does _ (invalid not_valid) = absurd (false≢true (sym not_valid ∙ ok))
  does _ (asks n valid found) =
      let c = counts_of call ok (Incomplete n) found in record {
        valid = valid_resumed now.connection (next_codec call) (length (drop n now.bytes))
            (omega (arith, c.all, length-drop n now.bytes)) c.at_start;
        count = omega (arith, c.counted, c.all, length-drop n now.bytes, offset_within call ok);
      }
  does _ (gave first room) =
      let ends = first.ends in
      let once = once_given (given_for first.event).number first.some in record {
        valid = valid_resumed now.connection (reset (codec_of now.connection))
            (length (drop (length first.line) now.bytes)) (omega arith) (λ on. refl);
        count = rw once (omega (
          arith,
          ends.counted,
          ends.within,
          length-drop (length first.line) now.bytes,
          offset_within call ok,
        ));
      }
  does _ _ = record { valid = ok; count = omega arith }

scanned_from : (steps : List CallerStep) (now after : Caller) → Valid now
    → AreCallerSteps now steps after
    → scanned_by now steps + unscanned after ≡ unscanned now + length (input_of steps)
scanned_from [] now after ok are = rw are (omega arith)
scanned_from (Received piece ∷ steps) now after ok are =
    let later = scanned_from steps (after_piece now piece) after (valid_with_piece now piece ok) are in
    omega (
      arith,
      later,
      offset_within (caller_call now []) ok,
      length-append now.bytes piece,
      length-append piece (input_of steps),
    )
scanned_from (Called area left ∷ steps) now after ok are =
    let did = does now ok area left (left_so (caller_call now area) left are.0) in
    let later = scanned_from steps (after_call now left) after did.valid are.1 in
    omega (arith, later, did.count)

-- the law
pub returns : goal.returns
returns c = record {
  once = λ limit steps after are.
      let all = scanned_from steps (new_caller limit) after refl are in
      omega (arith, all);
  each = λ caller area. omega (arith, scans_few (codec_of caller.connection) caller.bytes);
}
