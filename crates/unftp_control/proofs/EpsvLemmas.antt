-- The text of EPSV determines the port.
use Rattle.std.proofs.Common.{◌≡◌, ℕ, ◌<◌, ◌^◌, ◌++◌, codes, decimal, ap, arith}
use Rattle.std.proofs.lemmas.List.{append_cancel_left, append_cancel_right}
use Rattle.std.proofs.lemmas.Fmt.{decimal_injective}
use Rattle.unftp_control_defs.specs.Bytes.{Bytes}
use Rattle.unftp_control_defs.specs.FtpReply.{FtpReply, CodeAndMsg}
use Rattle.unftp_control_commands.specs.Answers.{port_reply}

abbrev text_of : FtpReply → Bytes
text_of (CodeAndMsg code text) = text
text_of _ = codes ""

small : (n : ℕ) → n < 2 ^ 16 → n < 2 ^ 64
small n h = omega arith

pub port_reply-injective : {port other : ℕ} → port < 2 ^ 16 → other < 2 ^ 16
    → port_reply port ≡ port_reply other → port ≡ other
port_reply-injective {port} {other} small_port small_other e =
    decimal_injective port other (small port small_port) (small other small_other)
    (append_cancel_right (decimal port) (decimal other) (codes "|)")
    (append_cancel_left (codes "Entering Extended Passive Mode (|||") (decimal port ++ codes "|)")
    (decimal other ++ codes "|)") (ap text_of e)))
