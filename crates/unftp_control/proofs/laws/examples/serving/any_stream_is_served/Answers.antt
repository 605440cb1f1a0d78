use Rattle.std.specs.Fmt.{digits}
use Rattle.std.proofs.Common.{◌≡◌, ◌<◌, ◌≤◌, ℕ, None, codes, subst, Bool, true, false, List, [], ◌∷◌, ◌++◌, map, length, sym, ap, ◌∙◌, arith}
use Rattle.std.specs.List.{AllByRecursion}
use Rattle.std.specs.Prelude.{if◌then◌else◌}
use Rattle.unftp_control_defs.specs.Bytes.{Bytes}
use Rattle.unftp_control_defs.specs.Run.{after_end, ends_for, last_state, run_for, text_for, unread}
use Rattle.unftp_control_serve.specs.Decoder.{saturating_u64}
use Rattle.unftp_control_serve.specs.Engine.{AreScanned}
use Rattle.unftp_control_serve.specs.Writing.{IsFlushed}
use Rattle.unftp_control.specs.Snapshots.{counter}
use Rattle.unftp_control.proofs.laws.examples.serving.any_stream_is_served.Goals as goal

two_nothings : (pieces : List Bytes) (done : Bool)
    → AllByRecursion (λ piece. (0 < length piece) × (length piece ≤ 4096)) pieces
    → ¬ (4 ∷ 0 ∷ 0 ∷ [] ≡ map length pieces ++ (if done then [] else 0 ∷ []))
two_nothings (piece ∷ next ∷ pieces) done sizes is =
    let none : 0 ≡ length next = cc in
    absurd (omega (arith, none, sizes.1.0.0))
two_nothings pieces true sizes is = absurd (cc)
two_nothings pieces false sizes is = absurd (cc)

pub returns-clause-read_no_more : goal.returns-clause-read_no_more
returns-clause-read_no_more c = λ before after input input_after served all none two.
    two_nothings all.pieces served.done all.were_read.sizes
    (sym two ∙ all.were_read.reads
    ∙ ap (λ reads. reads ++ (map length all.pieces ++ (if served.done then [] else 0 ∷ []))) none)

pub returns-clause-whole : goal.returns-clause-whole
unfolding digits
returns-clause-whole c = λ after input served v is.
    let read : v.read ≡ codes "NOOP\r\nNO" = let whole = sym is ∙ v.given.given in cc in
    let scanned : AreScanned served.tests 8 0 =
    subst (λ read. AreScanned served.tests (length read) (length (after_end None counter 3 read)))
    read v.tested in
    let flushed : after.output.unflushed ≤ 0 =
    subst (λ read. IsFlushed (text_for None counter 3 read) [] 1 after.output.unflushed)
    read v.flushed in (
      v.written.taken ∙ ap (λ read. codes "x" ++ text_for None counter 3 read) read,
      omega (arith, flushed),
      v.state ∙ ap (λ read. last_state counter 3 (run_for None counter 3 read)) read,
      v.done ∙ ap (ends_for None counter 3) read,
      v.left ∙ ap (λ read. saturating_u64 (length (unread None counter 3 read))) read,
      omega (arith, scanned.once, scanned.each, scanned.few),
    )

pub returns-clause-not_written : goal.returns-clause-not_written
unfolding digits
returns-clause-not_written c = λ after input served v is taken.
    let read : v.read ≡ codes "NOOP\r\n" = let whole = sym is ∙ v.given.given in cc in
    let written = v.written.taken ∙ ap (λ read. codes "x" ++ text_for None counter 3 read) read in
    let same = sym taken ∙ written in cc

pub returns-clause-not_at_the_end : goal.returns-clause-not_at_the_end
returns-clause-not_at_the_end c = λ before after input served v done reads.
    let ended = v.at_end done in
    last_is_none ended.reads (sym reads ∙ ended.none_given)
  where
    last_is_none : (reads : List ℕ) → ¬ (8 ∷ [] ≡ reads ++ 0 ∷ [])
    last_is_none [] h = cc
    last_is_none (n ∷ []) h = cc
    last_is_none (n ∷ m ∷ reads) h = cc
