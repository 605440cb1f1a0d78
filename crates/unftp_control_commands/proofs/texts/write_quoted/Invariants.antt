use Rattle.std.proofs.Common.{◌≡◌, ◌++◌, length}
use Rattle.unftp_control_defs.specs.Bytes.{Bytes}
use Rattle.unftp_control_commands.specs.Areas.{HasText}
use Rattle.unftp_control_commands.specs.ReplyTexts.{quoted}
use Rattle.unftp_control_commands.proofs.QuoteLemmas.{is_left}
use Rattle.unftp_control_commands.proofs.texts.write_quoted.Given as goal

abbrev pub invariant-quotes : goal.invariant-quotes
invariant-quotes l = (text : Bytes) × HasText l.fn.area text l.area l.len
    × (text ++ is_left l.rest ≡ quoted l.fn.path)

abbrev pub decreases-quotes : goal.decreases-quotes
decreases-quotes l = length l.rest
