-- What a client is replied where a proxy doesn't forward its line.
use Rattle.std.specs.Prelude.{◌≡◌, Err, IsOk, codes}
use Rattle.unftp_control_defs.specs.Bytes.{Bytes}
use Rattle.unftp_control_defs.specs.FtpCommand.{Refusal}
use Rattle.unftp_control_defs.specs.Lines.{IsLine}
use Rattle.unftp_control_defs.specs.Outcome.{outcome}

-- The bytes are not one line, or the line is no command; or memory ran out, which it only does for
-- a line that is one.
pub data IsReplyInPlace (line reply : Bytes) : Type 0 where
  not_a_line : ¬ IsLine line → reply ≡ codes "500 Not one line\r\n" → IsReplyInPlace line reply
  refused : (refusal : Refusal) → outcome line ≡ Err refusal
      → reply ≡ codes "500 Not understood\r\n" → IsReplyInPlace line reply
  out_of_memory : IsOk (outcome line)
      → reply ≡ codes "421 Out of memory\r\n" → IsReplyInPlace line reply
