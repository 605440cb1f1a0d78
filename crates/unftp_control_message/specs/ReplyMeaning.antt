-- What contracts see of a reply: its number and texts, whatever memory holds them.
use Rattle.std.specs.Prelude.{ℕ, map, string_bytes}
use Rattle.unftp_control_defs.specs.FtpReply as spec
use Rattle.unftp_control_defs.specs.FtpReply.{FtpReply}
use Rattle.unftp_control_message.specs.declared.reply.reply.Reply.{Reply}
use Rattle.unftp_control_message.specs.declared.reply.reply.Reply.TheVariants as rust
use Rattle.unftp_control_message.specs.declared.reply.code.ReplyCode.{ReplyCode}
use Rattle.unftp_control_message.specs.declared.reply.code.ReplyCode.TheVariants as code

-- the number of a code (RFC 959, section 4.2.2)
abbrev pub number_of : ReplyCode → ℕ
number_of code.NoReply = 0
number_of code.GroupPreliminaryReply = 1
number_of code.GroupPositiveCompletion = 2
number_of code.RestartMarker = 110
number_of code.InNMinutes = 120
number_of code.ConnectionAlreadyOpen = 125
number_of code.FileStatusOkay = 150
number_of code.CommandOkay = 200
number_of code.CommandOkayNotImplemented = 202
number_of code.SystemStatus = 211
number_of code.DirectoryStatus = 212
number_of code.FileStatus = 213
number_of code.HelpMessage = 214
number_of code.SystemType = 215
number_of code.ServiceReady = 220
number_of code.ClosingControlConnection = 221
number_of code.DataConnectionOpen = 225
number_of code.ClosingDataConnection = 226
number_of code.EnteringPassiveMode = 227
number_of code.EnteringExtendedPassiveMode = 229
number_of code.UserLoggedIn = 230
number_of code.UserLoggedInViaCert = 232
number_of code.AuthOkayNoDataNeeded = 234
number_of code.FileActionOkay = 250
number_of code.DirCreated = 257
number_of code.NeedPassword = 331
number_of code.NeedAccount = 332
number_of code.FileActionPending = 350
number_of code.ServiceNotAvailable = 421
number_of code.CantOpenDataConnection = 425
number_of code.ConnectionClosed = 426
number_of code.TransientFileError = 450
number_of code.LocalError = 451
number_of code.OutOfSpace = 452
number_of code.CommandSyntaxError = 500
number_of code.ParameterSyntaxError = 501
number_of code.CommandNotImplemented = 502
number_of code.BadCommandSequence = 503
number_of code.CommandNotImplementedForParameter = 504
number_of code.NotLoggedIn = 530
number_of code.NeedAccountToStore = 532
number_of code.Resp533 = 533
number_of code.FtpsRequired = 534
number_of code.FileError = 550
number_of code.PageTypeUnknown = 551
number_of code.ExceededStorageAllocation = 552
number_of code.BadFileName = 553

abbrev pub reply_of : Reply → FtpReply
reply_of rust.None = spec.Nothing
reply_of (rust.CodeAndMsg code msg) = spec.CodeAndMsg (number_of code) (string_bytes msg)
reply_of (rust.MultiLine code lines) =
    spec.MultiLine (number_of code) (map string_bytes lines.items)
