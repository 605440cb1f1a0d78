use Rattle.std.proofs.Common.{[], ◌∷◌, ap, length, ◌∙◌}
use Rattle.unftp_control_defs.proofs.AppendLemmas.{kept_start}
use Rattle.unftp_control_address.specs.Extended.{BAR}
use Rattle.unftp_control_address.proofs.extended.append_next_host.Goals as goal

pub returns-clause-kept : goal.returns-clause-kept
returns-clause-kept c =
    kept_start (BAR ∷ []) c.append_host.new.buf.items c.args.buf.now.ok.0
    (c.push.new.self.ok.0 ∙ ap length c.in_ok-push.ensures.items)
    (c.append_host.ensures.kept ∙ c.in_ok-push.ensures.items)
