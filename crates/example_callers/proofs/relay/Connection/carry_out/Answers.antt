use Rattle.std.proofs.Common.{refl}
use Rattle.example_callers.proofs.RelayLemmas.{forwarded_after, sent_passes}
use Rattle.example_callers.proofs.relay.Connection.carry_out.Goals as goal

pub returns-in-Forward : goal.returns-in-Forward
returns-in-Forward c = let sent = c.forward.ensures in sent_passes c.args.self.now _
    c.forward.result _ _ sent.decided sent.may sent.sent (forwarded_after c.forward.result _
    c.args.self.now.to_server c.forward.new.to_server sent.ok) sent.err sent.out_err refl

pub returns-in-SendAsItIs : goal.returns-in-SendAsItIs
returns-in-SendAsItIs c = let sent = c.send_as_it_is.ensures in sent_passes c.args.self.now _
    c.send_as_it_is.result _ _ sent.ok sent.may sent.sent sent.appended sent.err sent.out_err refl
