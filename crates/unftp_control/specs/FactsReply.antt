-- The reply to MLST (RFC 3659, section 7.2).
use Rattle.std.specs.Prelude.{◌≡◌}
use Rattle.unftp_control_defs.specs.Bytes.{Bytes}
use Rattle.unftp_control_defs.specs.FtpReply.{FtpReply}
use Rattle.unftp_control_commands.specs.Answers.{facts_reply}
use Rattle.unftp_control_facts.specs.Facts.{FileFacts, IsFacts}

-- the reply with the facts of this file, and with this path
abbrev pub IsFactsReply : FileFacts → Bytes → FtpReply → Type 0
IsFactsReply file path reply =
    (facts : Bytes) × IsFacts file facts × (reply ≡ facts_reply facts path)
