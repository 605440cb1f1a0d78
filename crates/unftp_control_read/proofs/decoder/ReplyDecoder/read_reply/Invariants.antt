use Rattle.unftp_control_defs.specs.Input.{input_state_of}
use Rattle.unftp_control_read.proofs.ReceiveLemmas.{Reading}
use Rattle.unftp_control_read.proofs.decoder.ReplyDecoder.read_reply.Given as goal

abbrev pub invariant-loop-turn : goal.invariant-loop-turn
invariant-loop-turn g l = Reading l.fn.self (input_state_of g.R.Read.remaining l.fn.reader)
    l.self (input_state_of g.R.Read.remaining l.reader) l._turn
