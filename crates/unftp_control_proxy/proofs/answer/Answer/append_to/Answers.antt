use Rattle.unftp_control_defs.proofs.Computing.{at_bytes}
use Rattle.unftp_control_proxy.proofs.answer.Answer.append_to.Goals as goal

pub returns-in-NotUnderstood-clause-ok : goal.returns-in-NotUnderstood-clause-ok
unfolding at_bytes
returns-in-NotUnderstood-clause-ok c = rw c.in-NotUnderstood.is c.append.ensures.ok

pub returns-in-NotUnderstood-clause-memory : goal.returns-in-NotUnderstood-clause-memory
unfolding at_bytes
returns-in-NotUnderstood-clause-memory c = rw c.in-NotUnderstood.is c.append.ensures.memory

pub returns-in-LineTooLong-clause-ok : goal.returns-in-LineTooLong-clause-ok
unfolding at_bytes
returns-in-LineTooLong-clause-ok c = rw c.in-LineTooLong.is c.append-in-LineTooLong.ensures.ok

pub returns-in-LineTooLong-clause-memory : goal.returns-in-LineTooLong-clause-memory
unfolding at_bytes
returns-in-LineTooLong-clause-memory c =
    rw c.in-LineTooLong.is c.append-in-LineTooLong.ensures.memory
