use Rattle.std.proofs.Common.{arith}
use Rattle.unftp_control_codecs.proofs.RunLemmas.{run_end}
use Rattle.unftp_control_codecs.proofs.line_parser.value.plain_len.Goals as goal

pub returns-in-Some : goal.returns-in-Some
returns-in-Some c = run_end c.args.bytes.now c.in-Some.end (omega (arith, c.in-Some.ensures.0.high))
    c.in-Some.ensures.0.before (λ lt. c.in-Some.ensures.1)

pub returns-in-None : goal.returns-in-None
returns-in-None c = run_end c.args.bytes.now _ (omega arith) c.in-None.ensures
    (λ lt. absurd (omega arith))
