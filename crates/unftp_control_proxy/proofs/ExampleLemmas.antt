-- What the examples of the errors share: a line of six bytes that may be sent, and a whole reply.
use Rattle.std.proofs.Common.{◌∷◌, [], Option, None, Some, Ok, Err, Result, codes, arith, refl}
use Rattle.unftp_control_defs.specs.Lines.{IsLine}
use Rattle.unftp_control_defs.specs.ReplyReader.{FrontReply}
use Rattle.unftp_control_defs.proofs.LackLemmas.{Lacks-test}
use Rattle.unftp_control_defs.proofs.ReplyLemmas.{FrontReply-front_of, front_is_formed}
use Rattle.unftp_control_read.specs.ReplyDecoding.{FindsFirst}
use Rattle.unftp_control_read.specs.declared.decoder.FirstReply.{FirstReply}
use Rattle.unftp_control_read.specs.declared.errors.NextReplyError.{NextReplyError}
use Rattle.unftp_control_read.specs.declared.errors.NextReplyError.TheVariants as next
use Rattle.unftp_control_proxy.specs.ProxyCalls.{IsNoReply, MayBeSent}

pub noop_is_line : IsLine (codes "NOOP\r\n")
noop_is_line = record {
  body = codes "NOOP\r";
  whole = refl;
  one_end = Lacks-test 10 (codes "NOOP\r") refl;
}

pub noop_may_be_sent : MayBeSent 6 (codes "NOOP\r\n")
noop_may_be_sent = record { is_line = noop_is_line; short = omega arith; clear = refl }

pub whole_220 : FrontReply (codes "220 a\r\n") 220 (codes "a" ∷ []) 7
whole_220 = FrontReply-front_of refl

pub whole_is_found : (found : Result (Option FirstReply) NextReplyError)
    → FindsFirst None (codes "220 a\r\n") found → ¬ IsNoReply found
whole_is_found (Ok None) finds none = finds.0.0 (_, _, _, whole_220)
whole_is_found (Ok (Some reply)) finds none = none
whole_is_found (Err next.Malformed) finds none = front_is_formed _ (_, _, _, whole_220) finds
whole_is_found (Err next.TooLong) finds none = finds
whole_is_found (Err next.OutOfMemory) finds none = finds
