use Rattle.std.proofs.Common.{◌≡◌, inl, inr, ℕ, true, false, List, [], ◌∷◌, ◌++◌, None, refl, sym, ap, subst, arith, codes}
use Rattle.std.specs.Str.{is_utf8, chars}
use Rattle.std.proofs.lemmas.Bool.{false≢true}
use Rattle.unftp_control_defs.specs.Events.{FtpEvent, Command, events}
use Rattle.unftp_control_defs.specs.FtpCommand.{Noop}
use Rattle.unftp_control_defs.specs.FtpReply.{FtpReply}
use Rattle.unftp_control_defs.specs.Run.{last_state, run_of}
use Rattle.unftp_control_defs.proofs.LineEventLemmas.{events-canonical_line}
use Rattle.unftp_control_serve.specs.Endings.{Snapshot, Cause, LineMemory, ReplyMemory, IsCauseOf, EndsAt, RunFailed}
use Rattle.unftp_control_serve.specs.declared.error.ServeError.TheVariants as error
use Rattle.unftp_control_login.specs.declared.stage.Progress.TheVariants.{NoName, Named}
use Rattle.unftp_control_login.specs.declared.stage.Stage.{Stage}
use Rattle.unftp_control_login.specs.Examples.{anna, anna_and_ben, ben, counting, here, only_anna, wrong}
use Rattle.unftp_control_login.proofs.ExampleLemmas.{gave, given-name}
use Rattle.unftp_control_login.proofs.StageLemmas.{GaveName-stage}
use Rattle.unftp_control_login.proofs.examples.passwords_look_alike.Goals as goal

pub returns-clause-alike : goal.returns-clause-alike
returns-clause-alike c = λ name given.
    subst (λ name. only_anna name wrong ≡ only_anna name (codes "other"))
    (given-name only_anna anna name given) refl

pub returns-clause-his_own : goal.returns-clause-his_own
returns-clause-his_own c = λ same.
    let one : true ≡ false = same ben (gave ben) in absurd (false≢true (sym one))

pub returns-clause-told_apart : goal.returns-clause-told_apart
returns-clause-told_apart c = λ same.
    let one : false ≡ true = same anna (gave anna) in absurd (false≢true one)

pub returns-clause-no_name : goal.returns-clause-no_name
returns-clause-no_name c = λ name given.
    let none : NoName ≡ Named =
    ap (λ (stage : Stage). stage.progress) (GaveName-stage only_anna name [] given) in absurd (cc)

pub returns-clause-each : goal.returns-clause-each
returns-clause-each c = (
  refl,
  (
    λ name given. subst (λ name. anna_and_ben name wrong ≡ anna_and_ben name (codes "other"))
        (given-name anna_and_ben anna name given) refl,
    (refl, tt),
  ),
)

pub returns-clause-same_lines : goal.returns-clause-same_lines
unfolding is_utf8 chars lib.Utf8.encode
returns-clause-same_lines c = (inl refl, (inr (refl, refl), tt))

-- memory runs out for the reply to NOOP, and for none where there is no line
noop : events None (codes "NOOP\r\n") ≡ Command Noop ∷ []
noop = events-canonical_line None Noop [] tt tt refl

abbrev at_state : ℕ → Snapshot ℕ
at_state n =
    record {
      state = n;
      failures = 0;
      output = record { taken = []; unflushed = 0; failures = 0; written = None };
    }

no_memory : RunFailed None counting (at_state 0) (codes "NOOP\r\n") (at_state 1)
    error.OutOfMemory []
no_memory = record {
  later = Command Noop ∷ [];
  split = ap (run_of counting 0) noop;
  sent = [];
  cause = ReplyMemory;
  means = tt;
  ended = record {
    ends_at =
        record { reply = here; later = []; split = refl; so = λ none. absurd (cc) };
    given = record {
      written = record { taken = refl; known = tt };
      flushed = omega arith;
      write_failed = refl;
      handler_failed = refl;
    };
  };
  next_line = λ at_line. absurd (cc);
}

none_fails : (cause : Cause) (done later : List FtpEvent) (sent : List (FtpReply × ℕ)) (s : ℕ)
    → [] ≡ done ++ later → IsCauseOf cause error.OutOfMemory
    → ¬ EndsAt counting cause (last_state counting 0 done) later sent s
none_fails cause [] (event ∷ later) sent s e means ends = absurd (cc)
none_fails cause (event ∷ done) later sent s e means ends = absurd (cc)
none_fails LineMemory [] [] sent s e means ends = ends
none_fails ReplyMemory [] [] sent s e means ends = ends
none_fails cause [] [] sent s e means ends = means

pub returns-clause-never_fails : goal.returns-clause-never_fails
returns-clause-never_fails c = λ same.
    let other = same (at_state 0) (at_state 1) error.OutOfMemory [] refl no_memory in
    none_fails other.1.cause other.0 other.1.later other.1.sent 1 other.1.split other.1.means
    other.1.ended.ends_at
