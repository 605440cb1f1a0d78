use Rattle.unftp_control_codecs.specs.Values.{LacksRunEnd}
use Rattle.unftp_control_codecs.proofs.line_parser.plain.few_are_plain.Given as goal

abbrev pub invariant-loop-byte : goal.invariant-loop-byte
invariant-loop-byte l = LacksRunEnd l.bytes 0 l.byte-index
