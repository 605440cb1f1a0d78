-- What follows of a service where the bytes of the input are known.
use Rattle.std.proofs.Common.{◌≡◌, Option, None, Some, Result, Ok, Err, IfOk, IfSome}
use Rattle.std.specs.Io.KnownBytes.{Appends}
use Rattle.unftp_control_defs.specs.Bytes.{Bytes}
use Rattle.unftp_control_defs.specs.Input.{InputState}
use Rattle.unftp_control_defs.specs.Run.{SessionLaw, last_state, run_for, text_for}
use Rattle.unftp_control_serve.specs.Endings.{Snapshot}
use Rattle.unftp_control_serve.specs.Service.{Serves}
use Rattle.unftp_control_serve.specs.declared.service.Served.{Served}
use Rattle.unftp_control_serve.proofs.ServiceLemmas.{Serves-known}

some : {P Q : Bytes → Type 0} (input : Option Bytes) → ((input : Bytes) → P input → Q input)
    → IfSome input P → IfSome input Q
some None more p = p
some (Some input) more p = more input p

module _ {S E : Type 0} (law : SessionLaw S) (before after : Snapshot S)
    (input input' : InputState) where
  pub written : (result : Result Served E)
      → IfOk result (Serves None law before after input input')
      → IfOk result (λ served. IfSome input.remaining (λ input.
      Appends before.output.written after.output.written (text_for None law before.state input)))
  written (Ok served) serves =
      some input.remaining (λ input known. known.written) (Serves-known serves)
  written (Err error) serves = serves

  pub state : (result : Result Served E)
      → IfOk result (Serves None law before after input input')
      → IfOk result (λ served. IfSome input.remaining (λ input.
      after.state ≡ last_state law before.state (run_for None law before.state input)))
  state (Ok served) serves =
      some input.remaining (λ input known. known.state) (Serves-known serves)
  state (Err error) serves = serves
