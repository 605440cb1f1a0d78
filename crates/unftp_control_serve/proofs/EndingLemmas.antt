-- What comes of events that are put together.
use Rattle.std.proofs.Common.{◌≡◌, ℕ, ◌+◌, ◌<◌, Bool, false, length, flat_map, List, [], ◌∷◌, ◌++◌, Option, refl, sym, ◌∙◌, ap, subst, arith, append_assoc}
use Rattle.std.proofs.lemmas.List.{append-nil, length_push}
use Rattle.unftp_control_defs.specs.Bytes.{Bytes}
use Rattle.unftp_control_defs.specs.Events.{FtpEvent, events}
use Rattle.unftp_control_defs.specs.FtpReply.{FtpReply, encoded}
use Rattle.unftp_control_defs.specs.Lines.{incomplete_line}
use Rattle.unftp_control_defs.specs.Run.{SessionLaw, ends_for, last_state, run_for, turn_replies, state_after, text_of, turn, unread}
use Rattle.unftp_control_defs.proofs.RunLemmas.{drop_lines-append, last_state-append, run-append, state_after-append, text_of-append, unread-append}
use Rattle.unftp_control_defs.proofs.LineLemmas.{events-append}
use Rattle.unftp_control_message.specs.ErrorParts.{KindAndSource}
use Rattle.unftp_control_message.specs.ErrorMeaning.{fault_of}
use Rattle.unftp_control_serve.specs.Decoder.{FirstMayRunOut}
use Rattle.unftp_control_serve.specs.Writing.{CutShort, ReplyFailed, IsSent}
use Rattle.unftp_control_serve.specs.Endings.{Snapshot, Cause, Finished, Write, Handler, LineMemory, ReplyMemory, IsCauseOf, EndsAt, RunFinished, EventFailed, HasAnswered, RunAnswered, RunEnded, RunFailed, handler_failures, part_written, text_until, whole_text, write_failures}
use Rattle.unftp_control_serve.specs.declared.error.ServeError.{ServeError}
use Rattle.unftp_control_serve.specs.declared.error.ServeError.TheVariants as error
use Rattle.unftp_control_serve.proofs.SendLemmas.{HasWritten-nothing, HasWritten-then, IsFlushed-then}

-- What is given one after the other.
module _ {S : Type 0} where
  pub HasAnswered-nothing : (m : Snapshot S) → HasAnswered [] Finished m m
  HasAnswered-nothing m = record {
    written = HasWritten-nothing m.output;
    flushed = omega arith;
    write_failed = omega arith;
    handler_failed = omega arith;
  }

  -- nothing is written
  pub HasAnswered-silent : {n k : Snapshot S} (cause : Cause) → write_failures cause ≡ 0
      → k.output ≡ n.output → k.failures ≡ n.failures + handler_failures cause
      → HasAnswered [] cause n k
  HasAnswered-silent (Write part) none same counted = absurd (omega (arith, none))
  HasAnswered-silent {n} cause none same counted = record {
    written = rw same (HasWritten-nothing n.output);
    flushed = rw same (omega arith);
    write_failed = rw same (omega arith);
    handler_failed = counted;
  }

  module _ {m n k : Snapshot S} {text : Bytes} {cause : Cause}
      (first : HasAnswered text Finished m n) where
    HasAnswered-then : (more : Bytes) → HasAnswered more cause n k → HasAnswered
        (text ++ more) cause m k
    HasAnswered-then more later = record {
      written = rw (until-then cause) (HasWritten-then first.written later.written);
      flushed = IsFlushed-then text more (part_written cause) m.output.unflushed n.output.unflushed
          k.output.unflushed first.flushed later.flushed;
      write_failed = omega (arith, first.write_failed, later.write_failed);
      handler_failed = omega (arith, first.handler_failed, later.handler_failed);
    }
      where
        until-then : (cause : Cause) → text_until (text ++ more) cause
            ≡ text ++ text_until more cause
        until-then (Write part) = append_assoc text more part
        until-then cause = refl

    HasAnswered-end : HasAnswered [] cause n k → HasAnswered text cause m k
    HasAnswered-end later =
        subst (λ text. HasAnswered text cause m k) (append-nil text) (HasAnswered-then [] later)

module _ {S : Type 0} (law : SessionLaw S) where
  pub RunFinished-nothing : (m : Snapshot S) → RunFinished law m [] m
  RunFinished-nothing m = record { ends_at = refl; given = HasAnswered-nothing m }

  -- after events that were all answered
  module _ {m n : Snapshot S} {es : List FtpEvent} (all : RunFinished law m es n) where
    last-then : (fs : List FtpEvent) → last_state law m.state (es ++ fs) ≡ last_state law n.state fs
    last-then fs = last_state-append law m.state es fs
        ∙ ap (λ s. last_state law s fs) (sym all.ends_at)

    text-then : (fs : List FtpEvent) → text_of law m.state (es ++ fs) ≡ text_of law m.state es
        ++ text_of law n.state fs
    text-then fs = text_of-append law m.state es fs
        ∙ ap (λ s. text_of law m.state es ++ text_of law s fs) (sym all.ends_at)

    whole-then : (fs : List FtpEvent) (sent : List (FtpReply × S)) →
        whole_text law m.state (es ++ fs) sent ≡ text_of law m.state es ++ whole_text law n.state fs
        sent
    whole-then fs [] = text-then fs
    whole-then fs (step ∷ steps) =
        ap (λ text. text ++ flat_map encoded (turn_replies (step ∷ steps))) (text-then fs)
        ∙ append_assoc (text_of law m.state es) (text_of law n.state fs)
        (flat_map encoded (turn_replies (step ∷ steps)))

    pub RunEnded-then : {k : Snapshot S} (fs later : List FtpEvent) (sent : List (FtpReply × S))
        (cause : Cause) → RunEnded law n fs later sent cause k
        → RunEnded law m (es ++ fs) later sent cause k
    RunEnded-then fs later sent cause v = record {
      ends_at = rw (last-then fs) v.ends_at;
      given = rw (whole-then fs sent)
          (HasAnswered-then all.given (whole_text law n.state fs sent) v.given);
    }

  -- with more events after it
  ends_at-more : (e : FtpEvent) (more : List FtpEvent) (cause : Cause) (s : S)
      (sent : List (FtpReply × S)) (s' : S) → EndsAt law cause s (e ∷ []) sent s'
      → EndsAt law cause s (e ∷ more) sent s'
  ends_at-more e more (Handler fault) s [] s' h = h
  ends_at-more e more (Handler fault) s (step ∷ steps) s' h = h
  ends_at-more e more LineMemory s [] s' h = h
  ends_at-more e more LineMemory s (step ∷ steps) s' h = h
  ends_at-more e more cause s sent s' h = h

  -- at one event, of which these replies were sent, and those of `later` were not; the last of
  -- them left this state
  pub record Replying (m : Snapshot S) (e : FtpEvent) (n : Snapshot S)
      (sent later : List (FtpReply × S)) : Type 0 where
    pub split : turn law m.state e ≡ sent ++ later
    pub state : n.state ≡ state_after m.state sent
    pub given : HasAnswered (flat_map encoded (turn_replies sent)) Finished m n

  pub Replying-start : (m : Snapshot S) (e : FtpEvent) → Replying m e m [] (turn law m.state e)
  Replying-start m e = record { split = refl; state = refl; given = HasAnswered-nothing m }

  sent-more : (sent : List (FtpReply × S)) (step : FtpReply × S)
      → flat_map encoded (turn_replies (sent ++ step ∷ [])) ≡ flat_map encoded (turn_replies sent)
      ++ encoded step.0
  sent-more [] step = append-nil (encoded step.0)
  sent-more (first ∷ sent) step = ap (λ text. encoded first.0 ++ text) (sent-more sent step)
      ∙ sym (append_assoc (encoded first.0) (flat_map encoded (turn_replies sent)) (encoded step.0))

  -- it failed after them
  failed-after : {m n k : Snapshot S} {e : FtpEvent} (sent : List (FtpReply × S)) (cause : Cause)
      (error : ServeError) → IsCauseOf cause error → ¬ (cause ≡ LineMemory)
      → EndsAt law cause m.state (e ∷ []) sent k.state
      → HasAnswered (flat_map encoded (turn_replies sent)) Finished m n → HasAnswered [] cause n k
      → EventFailed law m e k error
  failed-after {m} {k = k} sent cause error means has_line ends first later = record {
    sent = sent;
    cause = cause;
    means = means;
    has_line = has_line;
    ended = record {
      ends_at = ends;
      given = subst (λ text. HasAnswered text cause m k) (whole_sent sent)
          (HasAnswered-end first later);
    };
  }
    where
      whole_sent : (sent : List (FtpReply × S))
          → flat_map encoded (turn_replies sent) ≡ whole_text law m.state [] sent
      whole_sent [] = refl
      whole_sent (step ∷ steps) = refl

  pub failed-at : (m n : Snapshot S) (e : FtpEvent) (failed : KindAndSource)
      → law.may_fail m.state e (fault_of failed)
      → n.output ≡ m.output → n.failures ≡ m.failures + 1 →
      EventFailed law m e n (error.Handler failed)
  failed-at m n e failed may same failures =
      failed-after [] (Handler (fault_of failed)) (error.Handler failed) refl
      (λ at_line. absurd (cc)) may (HasAnswered-nothing m)
      (HasAnswered-silent (Handler (fault_of failed)) refl same failures)

  -- some of its replies were sent, and the handler has those that follow
  pub record InTurn (m : Snapshot S) (e : FtpEvent) (n : Snapshot S) : Type 0 where
    pub sent : List (FtpReply × S)
    pub some : 0 < length sent
    pub replying : Replying m e n sent (law.more n.state)

  pub turn-first : (s s' : S) (e : FtpEvent) {reply : FtpReply} → reply ≡ law.says s e
      → s' ≡ law.next s e → turn law s e ≡ (reply, s') ∷ law.more s'
  turn-first s s' e says next = rw (says, next) refl

  -- the next reply is given, and then it is sent or it isn't
  module _ {m n : Snapshot S} {e : FtpEvent} {sent later : List (FtpReply × S)}
      (so_far : Replying m e n sent later) (k : Snapshot S) (reply : FtpReply)
      (follows : later ≡ (reply, k.state) ∷ law.more k.state)
      (quiet : k.failures ≡ n.failures) where
    split : turn law m.state e ≡ sent ++ (reply, k.state) ∷ law.more k.state
    split = so_far.split ∙ ap (λ later. sent ++ later) follows

    pub InTurn-more : IsSent (encoded reply) n.output k.output → InTurn m e k
    InTurn-more v = record {
      sent = sent ++ (reply, k.state) ∷ [];
      some = omega (arith, length_push sent (reply, k.state));
      replying = record {
        split = split ∙ sym (append_assoc sent ((reply, k.state) ∷ []) (law.more k.state));
        state = sym (state_after-append m.state sent ((reply, k.state) ∷ []));
        given = rw (sent-more sent (reply, k.state)) (HasAnswered-then so_far.given (encoded reply)
            (record {
              written = v.written;
              flushed = v.flushed;
              write_failed = omega (arith, v.no_failure);
              handler_failed = omega (arith, quiet);
            }));
      };
    }

    broke-at : (error : ServeError) (v : CutShort (encoded reply) n.output k.output)
        → IsCauseOf (Write v.part) error → EventFailed law m e k error
    broke-at error v means = failed-after sent (Write v.part) error means (λ at_line. absurd (cc))
        (record { reply = reply; later = law.more k.state; split = split; so = v.begins })
        so_far.given
        (record {
          written = v.written;
          flushed = v.unflushed;
          write_failed = v.failure;
          handler_failed = omega (arith, quiet);
        })

    pub reply-failed : (error : ServeError) → ReplyFailed error reply n.output k.output
        → EventFailed law m e k error
    reply-failed (error.Write x) v = broke-at (error.Write x) v tt
    reply-failed error.WriteZero v = broke-at error.WriteZero v tt
    reply-failed error.OutOfMemory v = failed-after sent ReplyMemory error.OutOfMemory tt
        (λ at_line. absurd (cc))
        (record { reply = reply; later = law.more k.state; split = split; so = v.1 }) so_far.given
        (HasAnswered-silent ReplyMemory refl v.0 (omega (arith, quiet)))
    reply-failed error v = absurd v

  module _ {m n : Snapshot S} {e : FtpEvent} (so_far : InTurn m e n) (k : Snapshot S) where
    open so_far use {sent, replying}

    pub InTurn-broke : (failed : KindAndSource) → law.may_break n.state (fault_of failed)
        → k.output ≡ n.output → k.failures ≡ n.failures + 1
        → EventFailed law m e k (error.Handler failed)
    InTurn-broke failed may same failures =
        failed-after sent (Handler (fault_of failed)) (error.Handler failed) refl
        (λ at_line. absurd (cc)) (ends sent so_far.some replying.split (subst
        (λ s. law.may_break s (fault_of failed)) replying.state may)) replying.given
        (HasAnswered-silent (Handler (fault_of failed)) refl same failures)
      where
        ends : (sent : List (FtpReply × S)) → 0 < length sent
            → turn law m.state e ≡ sent ++ law.more n.state
            → law.may_break (state_after m.state sent) (fault_of failed)
            → EndsAt law (Handler (fault_of failed)) m.state (e ∷ []) sent k.state
        ends [] some split may = absurd (omega arith)
        ends (step ∷ steps) some split may = ((law.more n.state, split), may)

    pub InTurn-end : law.more n.state ≡ [] → k.state ≡ n.state → k.output ≡ n.output
        → k.failures ≡ n.failures → RunFinished law m (e ∷ []) k
    InTurn-end none state same quiet =
        let all : turn law m.state e ≡ sent =
        replying.split ∙ ap (λ more. sent ++ more) none ∙ append-nil sent in
        let whole : text_of law m.state (e ∷ []) ≡ flat_map encoded (turn_replies sent) =
        ap (flat_map encoded)
        (append-nil (turn_replies (turn law m.state e)) ∙ ap turn_replies all) in
        record {
          ends_at = state ∙ replying.state ∙ ap (state_after m.state) (sym all);
          given = rw whole (HasAnswered-end replying.given
              (HasAnswered-silent Finished refl same (omega (arith, quiet))));
        }

  -- at one event it failed, which others follow
  pub EventFailed-more : {n k : Snapshot S} {e : FtpEvent} (later : List FtpEvent)
      {error : ServeError} (failed : EventFailed law n e k error)
      → RunEnded law n [] (e ∷ later) failed.sent failed.cause k
  EventFailed-more {n} {k} {e} later failed = record {
    ends_at = ends_at-more e later failed.cause n.state failed.sent k.state failed.ended.ends_at;
    given = failed.ended.given;
  }

-- All lines of these bytes were answered, and the run goes on after them.
pub record GoneOn (limit : Option ℕ) {S : Type 0} (law : SessionLaw S) (m n : Snapshot S)
    (sent : Bytes) : Type 0 where
  pub goes_on : ends_for limit law m.state sent ≡ false
  pub answered : RunFinished law m (events limit sent) n

module _ {limit : Option ℕ} {S : Type 0} {law : SessionLaw S} {m n : Snapshot S} {sent : Bytes}
    (so_far : GoneOn limit law m n sent) (more : Bytes) where
  -- more bytes, after the incomplete line
  abbrev rest : Bytes
  rest = incomplete_line sent ++ more

  pub GoneOn-run : run_for limit law m.state (sent ++ more)
      ≡ events limit sent ++ run_for limit law n.state rest
  GoneOn-run = (run-append law limit m.state sent more so_far.goes_on).0
      ∙ ap (λ s. events limit sent ++ run_for limit law s rest) (sym so_far.answered.ends_at)

  pub GoneOn-answered : {k : Snapshot S} {ended : Bool} {left : Bytes}
      → RunAnswered limit law n rest k ended left
      → RunAnswered limit law m (sent ++ more) k ended left
  GoneOn-answered run = record {
    answered = rw GoneOn-run (RunEnded-then law so_far.answered (run_for limit law n.state rest) []
        [] Finished run.answered);
    ended_is = run.ended_is ∙ ap (λ s. ends_for limit law s rest) so_far.answered.ends_at
        ∙ sym (run-append law limit m.state sent more so_far.goes_on).1;
    left_is = run.left_is ∙ ap (λ s. unread limit law s rest) so_far.answered.ends_at
        ∙ sym (unread-append law limit m.state sent more so_far.goes_on);
  }

  pub GoneOn-then : {k : Snapshot S} → GoneOn limit law n k rest
      → GoneOn limit law m k (sent ++ more)
  GoneOn-then then = record {
    goes_on = (run-append law limit m.state sent more so_far.goes_on).1
        ∙ ap (λ s. ends_for limit law s rest) (sym so_far.answered.ends_at) ∙ then.goes_on;
    answered = rw (events-append limit sent more)
        (RunEnded-then law so_far.answered (events limit rest) [] [] Finished then.answered);
  }

  pub GoneOn-failed : {k : Snapshot S} {done : List FtpEvent} {error : ServeError}
      → RunFailed limit law n rest k error done
      → RunFailed limit law m (sent ++ more) k error (events limit sent ++ done)
  GoneOn-failed {done = done} v = record {
    later = v.later;
    split = GoneOn-run ∙ ap (λ run. events limit sent ++ run) v.split
        ∙ sym (append_assoc (events limit sent) done v.later);
    sent = v.sent;
    cause = v.cause;
    means = v.means;
    ended = RunEnded-then law so_far.answered done v.later v.sent v.cause v.ended;
    next_line = λ at_line. subst (FirstMayRunOut limit)
        (sym (drop_lines-append limit sent more done)) (v.next_line at_line);
  }
