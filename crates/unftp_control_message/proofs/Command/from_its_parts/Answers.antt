use Rattle.std.proofs.Common.{◌≡◌, Ok}
use Rattle.unftp_control_defs.specs.Said.{outcome_of}
use Rattle.unftp_control_message.specs.CommandMeaning.{command_of}
use Rattle.unftp_control_message.specs.PartsMeaning.{said_of, spelled}
use Rattle.unftp_control_message.proofs.HeldLemmas.{holds_some, ran_out}
use Rattle.unftp_control_message.proofs.PartsLemmas.{its_parts}
use Rattle.unftp_control_message.proofs.Command.from_its_parts.Goals as goal

pub returns-in-Ok-clause-ok : goal.returns-in-Ok-clause-ok
returns-in-Ok-clause-ok c =
    let again : outcome_of (said_of c.parts.result) ≡ Ok (command_of c.args.self.now) =
    its_parts (command_of c.args.self.now) (spelled c.parts.result) c.requires
    c.parts.ensures.says in
    cc (again, c.in-Ok.ensures)

pub returns-in-Err-clause-memory : goal.returns-in-Err-clause-memory
returns-in-Err-clause-memory c =
    holds_some (command_of c.args.self.now) (spelled c.parts.result) c.parts.ensures.says
    (ran_out _ (command_of c.args.self.now) _ c.in-Err.field-0
    (its_parts (command_of c.args.self.now) (spelled c.parts.result) c.requires
    c.parts.ensures.says) c.in-Err.ensures)
