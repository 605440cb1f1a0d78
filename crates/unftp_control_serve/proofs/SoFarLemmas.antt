-- What an engine has answered of what it was fed.
use Rattle.std.proofs.Common.{◌≡◌, ℕ, ◌≤◌, ◌+◌, true, false, List, [], ◌++◌, Option, length, refl, sym, ap, subst, ◌∙◌, arith, length-append}
use Rattle.std.specs.Prelude.{if◌then◌else◌}
use Rattle.unftp_control_defs.specs.Bytes.{Bytes}
use Rattle.unftp_control_defs.specs.Events.{FtpEvent, events}
use Rattle.unftp_control_defs.specs.Lines.{incomplete_line}
use Rattle.unftp_control_defs.specs.Run.{SessionLaw, after_end, ends_for, run_for, unread}
use Rattle.unftp_control_defs.proofs.LineLemmas.{incomplete_line-append}
use Rattle.unftp_control_defs.proofs.RunLemmas.{after_end-ended, after_end-on, run_of-all, run-ended, unread-ended}
use Rattle.unftp_control_serve.specs.Decoder.{saturating_u64}
use Rattle.unftp_control_serve.specs.Endings.{RunFinished, RunFailed, Snapshot}
use Rattle.unftp_control_serve.specs.Engine.{AreScanned, EngineState, after_end_with, bytes_with, fed, fresh, more_left}
use Rattle.unftp_control_serve.specs.declared.error.ServeError.{ServeError}
use Rattle.unftp_control_serve.proofs.EndingLemmas.{RunFinished-nothing, GoneOn, GoneOn-answered, GoneOn-failed}

-- the run over what was sent is answered, up to its end
pub record AnsweredSoFar {S : Type 0} (limit : Option ℕ) (law : SessionLaw S) (m n : Snapshot S)
    (sent : Bytes) (engine : EngineState) : Type 0 where
  pub no_failure : engine.failed ≡ false
  pub limited : engine.limit ≡ limit
  pub finished : engine.finished ≡ ends_for limit law m.state sent
  pub incomplete : engine.finished ≡ false → engine.incomplete ≡ incomplete_line sent
  pub left : engine.left ≡ saturating_u64 (length (unread limit law m.state sent))
  pub scanned : AreScanned engine.scanned (length sent) (length (after_end limit law m.state sent))
  pub answered : RunFinished law m (run_for limit law m.state sent) n

pub AnsweredSoFar-start : {S : Type 0} (limit : Option ℕ) (law : SessionLaw S) (m : Snapshot S)
    → AnsweredSoFar limit law m m [] (fresh limit)
AnsweredSoFar-start limit law m = record {
  no_failure = refl;
  limited = refl;
  finished = refl;
  incomplete = λ _. refl;
  left = refl;
  scanned = record { once = omega arith; each = omega arith; few = omega arith };
  answered = RunFinished-nothing law m;
}

module _ {limit : Option ℕ} {S : Type 0} {law : SessionLaw S} {m n : Snapshot S} {sent : Bytes}
    {engine : EngineState} (so_far : AnsweredSoFar limit law m n sent engine) where
  -- while the run goes on
  module _ (on : engine.finished ≡ false) where
    pub gone_on : GoneOn limit law m n sent
    gone_on =
        let goes_on : ends_for limit law m.state sent ≡ false = sym so_far.finished ∙ on in
        record {
          goes_on = goes_on;
          answered = subst (λ run. RunFinished law m run n)
              (run_of-all law m.state (events limit sent) goes_on) so_far.answered;
        }

    module _ (piece : Bytes) where
      pub AnsweredSoFar-on : {k : Snapshot S} (scanned : ℕ) → AreScanned scanned
          (engine.scanned + length piece) (length (after_end_with engine law n.state piece))
          → RunFinished law n (run_for engine.limit law n.state (bytes_with engine piece)) k
          → AnsweredSoFar limit law m k (sent ++ piece) (fed law n.state engine piece scanned)
      AnsweredSoFar-on {k} scanned are all =
          let all : RunFinished law n (run_for limit law n.state (incomplete_line sent ++ piece)) k =
          rw (so_far.limited, so_far.incomplete on) at all in
          let run = GoneOn-answered gone_on piece
          (record { answered = all; ended_is = refl; left_is = refl }) in
          let all_so_far : length sent ≤ engine.scanned = omega (
            arith,
            so_far.scanned.each,
            ap length (after_end-on law limit m.state sent gone_on.goes_on),
          ) in
          let same_end : after_end limit law m.state (sent ++ piece)
          ≡ after_end limit law n.state (incomplete_line sent ++ piece) =
          λ i. if (sym run.ended_is i) then (sym run.left_is i) else [] in
          rw (so_far.limited, so_far.incomplete on) (record {
            no_failure = refl;
            limited = refl;
            finished = run.ended_is;
            incomplete = λ now. ap (λ ended. if ended then []
                else incomplete_line (incomplete_line sent ++ piece)) now
                ∙ sym (incomplete_line-append sent piece);
            left = ap (λ bytes. saturating_u64 (length bytes)) run.left_is;
            scanned = let are = rw (so_far.limited, so_far.incomplete on) at are in rw same_end record {
              once = omega (arith, are.once, so_far.scanned.once, length-append sent piece);
              each = omega (arith, are.each, all_so_far, length-append sent piece);
              few = omega (arith, are.few, so_far.scanned.once, length-append sent piece);
            };
            answered = run.answered;
          })

      pub RunFailed-on : {k : Snapshot S} {error : ServeError} {done : List FtpEvent}
          → RunFailed engine.limit law n (bytes_with engine piece) k error done
          → RunFailed limit law m (sent ++ piece) k error (events limit sent ++ done)
      RunFailed-on failed = GoneOn-failed gone_on piece
          (rw (so_far.limited, so_far.incomplete on) at failed)

  -- a piece after the end
  pub AnsweredSoFar-ended : engine.finished ≡ true → (piece : Bytes)
      → AnsweredSoFar limit law m n (sent ++ piece) (more_left engine piece)
  AnsweredSoFar-ended done piece =
      let ended : ends_for limit law m.state sent ≡ true = sym so_far.finished ∙ done in
      let more = run-ended law limit m.state sent piece ended in
      let longer = unread-ended law limit m.state sent piece ended in
      let longer_end = after_end-ended law limit m.state sent piece ended in
      record {
        no_failure = so_far.no_failure;
        limited = so_far.limited;
        finished = done ∙ sym more.1;
        incomplete = λ on. absurd (cc);
        left = omega (
          arith,
          so_far.left,
          ap length longer,
          length-append (unread limit law m.state sent) piece,
        );
        scanned =
            let more = length-append (after_end limit law m.state sent) piece in rw longer_end record {
              once = omega (arith, so_far.scanned.once, length-append sent piece);
              each = omega (arith, so_far.scanned.each, more, length-append sent piece);
              few = omega (arith, so_far.scanned.few, more, length-append sent piece);
            };
        answered = rw more.0 so_far.answered;
      }
