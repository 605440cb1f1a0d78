-- A server that has no files.
use Rattle.std.specs.Prelude.{Bool, true, false, codes, if◌then◌else◌}
use Rattle.unftp_control_defs.specs.FtpCommand.{FtpCommand, Noop, Retr, Size, Mdtm}
use Rattle.unftp_control_defs.specs.FtpReply.{FtpReply, CodeAndMsg}

abbrev pub names_a_file : FtpCommand → Bool
names_a_file (Retr _) = true
names_a_file (Size _) = true
names_a_file (Mdtm _) = true
names_a_file _ = false

abbrev pub known_reply : FtpCommand → FtpReply
known_reply Noop = CodeAndMsg 200 (codes "OK")
known_reply _ = CodeAndMsg 502 (codes "Not implemented")

abbrev pub command_reply : FtpCommand → FtpReply
command_reply command =
    if names_a_file command then CodeAndMsg 550 (codes "No such file") else known_reply command
