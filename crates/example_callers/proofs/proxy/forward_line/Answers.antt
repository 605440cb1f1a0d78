use Rattle.std.proofs.Common.{refl, subst}
use Rattle.unftp_control_write.specs.Forwarding.{IsForwardError}
use Rattle.example_callers.specs.Forwarding.{refused}
use Rattle.example_callers.proofs.proxy.forward_line.Goals as goal

pub returns-in-Err-Refused : goal.returns-in-Err-Refused
returns-in-Err-Refused c =
    let why = subst (IsForwardError c.args.line.now) c.in-Err-Refused.field-0-is
    c.in-Err-Refused.ensures.why in
    (c.in-Err-Refused.ensures.err, refused why.0 why.2 refl)
