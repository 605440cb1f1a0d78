use Rattle.unftp_control_message.specs.declared.Command.TheVariants.{Noop}
use Rattle.example_callers.proofs.codec.is_noop.Goals as goal

pub returns-in-Ok-Some : goal.returns-in-Ok-Some
returns-in-Ok-Some c =
    rw (c.in-Ok-Some.is, c.in-Ok-Some.field-0-is, c.eq-is_noop.ensures)
    (c.same_commands.ensures c.in-Ok-Some.command Noop)
