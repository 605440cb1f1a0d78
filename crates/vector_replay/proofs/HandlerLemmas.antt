-- What the handler of sessions answers to the commands that it doesn't know.
use Rattle.std.proofs.Common.{◌≡◌, refl}
use Rattle.unftp_control_message.specs.CommandMeaning.{command_of}
use Rattle.unftp_control_message.specs.declared.Command.{Command}
use Rattle.unftp_control_message.specs.declared.Command.TheVariants as command
use Rattle.vector_replay.specs.Script.{command_reply, not_implemented}

-- a command that it doesn't know
pub record IsNoOther (c : Command) : Type 0 where
  pub no_noop : c ≡ command.Noop → ⊥
  pub no_quit : c ≡ command.Quit → ⊥
  pub no_help : c ≡ command.Help → ⊥
  pub no_site : (x y : _) → c ≡ command.Site x y → ⊥

pub other-command : (c : Command) → IsNoOther c → command_reply (command_of c) ≡ not_implemented
other-command command.Noop not = absurd (not.no_noop refl)
other-command command.Quit not = absurd (not.no_quit refl)
other-command command.Help not = absurd (not.no_help refl)
other-command (command.Site x y) not = absurd (not.no_site x y refl)
other-command _ not = refl
