use Rattle.unftp_control_defs.specs.FtpCommand as spec
use Rattle.unftp_control_message.proofs.Command.from_parts.Goals as goal

pub returns-in-Ok : goal.returns-in-Ok
returns-in-Ok c = rw c.in-User.is (c.in-Ok.ensures.ok spec.User c.args.parts.now.name.now)

pub returns-in-Ok-bytes : goal.returns-in-Ok-bytes
returns-in-Ok-bytes c = rw (c.in-Pass.is, c.new.ensures)
    (c.in-Ok-bytes.ensures.ok spec.Pass c.args.parts.now.name.now)

pub returns-in-Ok-bytes-2 : goal.returns-in-Ok-bytes-2
returns-in-Ok-bytes-2 c = rw c.in-Acct.is
    (c.in-Ok-bytes-2.ensures.ok spec.Acct c.args.parts.now.name.now)
