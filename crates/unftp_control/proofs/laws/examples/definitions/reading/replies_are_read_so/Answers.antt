use Rattle.std.proofs.Common.{refl}
use Rattle.unftp_control_defs.proofs.ReplyLemmas.{FrontReply-front_of}
use Rattle.unftp_control.proofs.laws.examples.definitions.reading.replies_are_read_so.Goals as goal

pub returns : goal.returns
returns c = record {
  standard = FrontReply-front_of refl;
  codes_first = FrontReply-front_of refl;
  bare_cr_and_lf = FrontReply-front_of refl;
}
