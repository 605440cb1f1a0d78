use Rattle.std.proofs.Common.{ap}
use Rattle.std.proofs.lemmas.List.{append-nil}
use Rattle.unftp_control_serve.specs.EventMeaning.{event_meant}
use Rattle.example_callers.specs.EventLoop.{loop_replies}
use Rattle.example_callers.proofs.event_loop.reply_to.Goals as goal

pub returns-in-Refused-clause-ok : goal.returns-in-Refused-clause-ok
returns-in-Refused-clause-ok c =
    rw (ap (λ event. loop_replies (event_meant event) c.args.following.now) c.in-Refused.is)
    (simp append-nil c.reply.ensures.ok)
