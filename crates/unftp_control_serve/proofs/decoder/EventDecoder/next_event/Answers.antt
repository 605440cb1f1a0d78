use Rattle.std.specs.declared.alloc.AllocError.{AllocError}
use Rattle.unftp_control_serve.proofs.DecoderLemmas.{first_taken, line_taken_is, none_there}
use Rattle.unftp_control_serve.proofs.decoder.EventDecoder.next_event.Goals as goal

pub returns-in_default-clause-takes_next : goal.returns-in_default-clause-takes_next
returns-in_default-clause-takes_next c = none_there c.args.self.now c.find_line.new.self
    c.find_line.ensures.line c.find_line.ensures.found c.in_default.is

pub returns-clause-takes_next : goal.returns-clause-takes_next
returns-clause-takes_next c = first_taken c.args.self.now c.find_line.new.self
    c.find_line.ensures.line c.find_line.ensures.found c.take_line.new.self c.in-Some.is
    c.take_line.ensures c.in_ok-event.event c.in_ok-event.ensures.ok
    (rw c.in-Some.is at c.find_line.ensures.ahead)

pub returns-clause-line : goal.returns-clause-line
returns-clause-line c = line_taken_is c.args.self.now c.find_line.new.self
    c.find_line.ensures.line c.find_line.ensures.found c.take_line.new.self c.in-Some.is
    c.take_line.ensures c.in_ok-event.event c.in_ok-event.ensures.ok
    (rw c.in-Some.is at c.find_line.ensures.ahead) AllocError
