-- What the handler answers to the commands that it doesn't know.
use Rattle.std.proofs.Common.{◌≡◌, refl}
use Rattle.unftp_control_message.specs.CommandMeaning.{command_of}
use Rattle.unftp_control_message.specs.declared.Command.{Command}
use Rattle.unftp_control_message.specs.declared.Command.TheVariants as command
use Rattle.control_demo.specs.Responses.{command_reply, not_implemented}

-- a command that it doesn't know
pub record IsNoOther (c : Command) : Type 0 where
  pub no_auth : (x : _) → c ≡ command.Auth x → ⊥
  pub no_prot : (x : _) → c ≡ command.Prot x → ⊥
  pub no_feat : c ≡ command.Feat → ⊥
  pub no_epsv : c ≡ command.Epsv → ⊥
  pub no_help : c ≡ command.Help → ⊥
  pub no_mode : (x : _) → c ≡ command.Mode x → ⊥
  pub no_opts : (x : _) → c ≡ command.Opts x → ⊥
  pub no_stru : (x : _) → c ≡ command.Stru x → ⊥
  pub no_mlst : (x : _) → c ≡ command.Mlst x → ⊥
  pub no_noop : c ≡ command.Noop → ⊥
  pub no_quit : c ≡ command.Quit → ⊥
  pub no_site : (x y : _) → c ≡ command.Site x y → ⊥

pub other-command : (c : Command) → IsNoOther c → command_reply (command_of c) ≡ not_implemented
other-command (command.Auth x) not = absurd (not.no_auth x refl)
other-command (command.Prot x) not = absurd (not.no_prot x refl)
other-command command.Feat not = absurd (not.no_feat refl)
other-command command.Epsv not = absurd (not.no_epsv refl)
other-command command.Help not = absurd (not.no_help refl)
other-command (command.Mode x) not = absurd (not.no_mode x refl)
other-command (command.Opts x) not = absurd (not.no_opts x refl)
other-command (command.Stru x) not = absurd (not.no_stru x refl)
other-command (command.Mlst x) not = absurd (not.no_mlst x refl)
other-command command.Noop not = absurd (not.no_noop refl)
other-command command.Quit not = absurd (not.no_quit refl)
other-command (command.Site x y) not = absurd (not.no_site x y refl)
other-command _ not = refl
