-- What contracts see of a command: its meaning, whatever memory holds its texts.
use Rattle.std.specs.Prelude.{option_map, Option, Some, None, string_bytes, codes}
use Rattle.unftp_control_defs.specs.Bytes.{Bytes}
use Rattle.unftp_control_defs.specs.FtpCommand as spec
use Rattle.unftp_control_defs.specs.FtpCommand.{FtpCommand}
use Rattle.unftp_control_message.specs.declared.Command.{Command}
use Rattle.unftp_control_message.specs.declared.Command.TheVariants as rust

abbrev pub command_of : Command → FtpCommand
command_of (rust.User v) = spec.User v
command_of (rust.Pass v) = spec.Pass v
command_of (rust.Acct v) = spec.Acct v
command_of rust.Syst = spec.Syst
command_of (rust.Stat v) = spec.Stat v
command_of rust.TypeCode = spec.TypeCode
command_of (rust.Stru v) = spec.Stru v
command_of (rust.Mode v) = spec.Mode v
command_of rust.Help = spec.Help
command_of rust.Noop = spec.Noop
command_of rust.Pasv = spec.Pasv
command_of rust.Epsv = spec.Epsv
command_of (rust.Port v) = spec.Port (string_bytes v)
command_of (rust.Retr v) = spec.Retr (string_bytes v)
command_of (rust.Stor v) = spec.Stor (string_bytes v)
command_of (rust.Appe v) = spec.Appe (string_bytes v)
command_of (rust.List v0 v1) = spec.List (option_map string_bytes v0) (option_map string_bytes v1)
command_of (rust.Nlst v) = spec.Nlst (option_map string_bytes v)
command_of (rust.Mlst v) = spec.Mlst (option_map string_bytes v)
command_of (rust.Mlsd v) = spec.Mlsd (option_map string_bytes v)
command_of rust.Feat = spec.Feat
command_of rust.Pwd = spec.Pwd
command_of (rust.Cwd v) = spec.Cwd (string_bytes v)
command_of rust.Cdup = spec.Cdup
command_of (rust.Opts v) = spec.Opts v
command_of (rust.Dele v) = spec.Dele (string_bytes v)
command_of (rust.Rmd v) = spec.Rmd (string_bytes v)
command_of rust.Quit = spec.Quit
command_of (rust.Mkd v) = spec.Mkd (string_bytes v)
command_of rust.Allo = spec.Allo
command_of rust.Abor = spec.Abor
command_of rust.Stou = spec.Stou
command_of (rust.Rnfr v) = spec.Rnfr (string_bytes v)
command_of (rust.Rnto v) = spec.Rnto (string_bytes v)
command_of (rust.Auth v) = spec.Auth v
command_of rust.Ccc = spec.Ccc
command_of rust.Pbsz = spec.Pbsz
command_of (rust.Prot v) = spec.Prot v
command_of (rust.Size v) = spec.Size (string_bytes v)
command_of (rust.Rest v) = spec.Rest v
command_of (rust.Mdtm v) = spec.Mdtm (string_bytes v)
command_of (rust.Md5 v) = spec.Md5 (string_bytes v)
command_of (rust.Site v0 v1) = spec.Site (string_bytes v0) (string_bytes v1)
command_of (rust.Other v0 v1) = spec.Other (string_bytes v0) (string_bytes v1)

-- What Display writes of a command of PASS, whatever its password. The text of the other commands
-- is not specified.
abbrev pub displayed : Command → Option Bytes
displayed (rust.Pass password) = Some (codes "Pass { password: Password { bytes: ******* } }")
displayed command = None
