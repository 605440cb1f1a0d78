-- What the examples of reading share: the reply at the start of bytes that are written out is
-- computed.
use Rattle.std.proofs.Common.{◌≡◌, ◌++◌, sym, ◌∙◌}
use Rattle.unftp_control_defs.specs.Bytes.{Bytes}
use Rattle.unftp_control_defs.specs.ComputedReply.{Malformed, Whole, front_of}
use Rattle.unftp_control_defs.specs.ReplyReader.{HasFront, Opens, with_crlf}
use Rattle.unftp_control_defs.proofs.ReplyLemmas.{front_of-FrontReply, front_is_formed, IsMalformed-front_of}

-- a line that opens no reply, whatever follows
pub opens_none : (line : Bytes)
    → ((following : Bytes) → front_of (with_crlf line ++ following) ≡ Malformed) → ¬ Opens line
opens_none line computed (following, (code, lines, used, front)) =
    let clash : Malformed ≡ Whole code lines front.rest =
    sym (computed following) ∙ front_of-FrontReply front in cc

pub malformed_is_no_front : (bytes : Bytes) → front_of bytes ≡ Malformed → ¬ HasFront bytes
malformed_is_no_front bytes computed front =
    front_is_formed bytes front (IsMalformed-front_of bytes computed)
