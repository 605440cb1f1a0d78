use Rattle.std.proofs.Common.{◌++◌, Ok, ap, ◌∙◌}
use Rattle.unftp_control_c.specs.LogLines.{numbered_log_line}
use Rattle.unftp_control_c.proofs.log.unftp_log_line.Goals as goal

pub returns-in-Ok-clause-writes : goal.returns-in-Ok-clause-writes
returns-in-Ok-clause-writes c = (
  Ok c.append_log_line.new.buf.items,
  c.in-Ok.ensures.ok ∙ ap (λ bytes. bytes ++ numbered_log_line c.args.number c.args.line.now)
      c.new-buf.ensures.items,
  c.write.ensures,
)
