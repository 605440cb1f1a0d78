-- Pieces of an input that an engine is fed one after the other.
use Rattle.std.specs.Prelude.{◌≡◌, ◌⊎◌, None, List, [], ◌∷◌, ◌++◌, Result, MatchResult}
use Rattle.std.specs.List.{concat}
use Rattle.unftp_control_defs.specs.Bytes.{Bytes}
use Rattle.unftp_control_serve.specs.Endings.{RunFinished, RunFailed, Snapshot}
use Rattle.unftp_control_defs.specs.Events.{FtpEvent, events}
use Rattle.unftp_control_defs.specs.Run.{SessionLaw, run_for}
use Rattle.unftp_control_serve.specs.declared.error.ServeError.{ServeError}
use Rattle.unftp_control_serve.specs.declared.error.ServeError.TheVariants.{OutOfMemory}

-- There was no memory for the last of these pieces, and all lines of those before it were answered.
abbrev pub HasNoRoom : {S : Type 0} → SessionLaw S → Snapshot S → Bytes → Bytes → Snapshot S
    → ServeError → Type 0
HasNoRoom law before first last after error = (error ≡ OutOfMemory) × ¬ (last ≡ [])
    × RunFinished law before (events None first) after

-- At one of the pieces there was no memory for it, or the run failed at one of its lines.
pub record FailsAtPiece {S : Type 0} (law : SessionLaw S) (before : Snapshot S)
    (pieces : List Bytes)
    (after : Snapshot S) (error : ServeError) : Type 0 where
  pub first : List Bytes
  pub last : Bytes
  pub later : List Bytes
  pub whole : pieces ≡ first ++ last ∷ later
  pub failed : HasNoRoom law before (concat first) last after error
      ⊎ ((done : List FtpEvent) × RunFailed None law before (concat first ++ last) after error done)

-- The lines of all pieces put together were answered, up to the end of the session; or it failed at
-- one of the pieces.
abbrev pub AnswersPieces : {S T : Type 0} → SessionLaw S → Snapshot S → List Bytes → Snapshot S
    → Result T ServeError → Type 0
AnswersPieces law before pieces after result = MatchResult result
    (λ _. RunFinished law before (run_for None law before.state (concat pieces)) after)
    (λ error. FailsAtPiece law before pieces after error)
