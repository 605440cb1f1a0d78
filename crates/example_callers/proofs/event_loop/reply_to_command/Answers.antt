use Rattle.std.proofs.Common.{ap, append_assoc}
use Rattle.std.proofs.lemmas.List.{append-nil}
use Rattle.unftp_control_message.specs.CommandMeaning.{command_of}
use Rattle.unftp_control_defs.specs.Events.{Command}
use Rattle.example_callers.specs.EventLoop.{loop_replies}
use Rattle.example_callers.proofs.event_loop.reply_to_command.Goals as goal

pub returns-in_ok-reply-in-Retr-clause-ok : goal.returns-in_ok-reply-in-Retr-clause-ok
returns-in_ok-reply-in-Retr-clause-ok c =
    rw (ap (λ command. loop_replies (Command (command_of command)) c.args.following.now) c.in-Retr.is)
    (simp append-nil (rw (c.in_ok-reply-in-Retr.ensures.ok, append_assoc) at
    c.reply-in-Retr.ensures.ok))
