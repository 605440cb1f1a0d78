-- What is answered to the commands that a match doesn't name.
use Rattle.std.proofs.Common.{◌≡◌, refl}
use Rattle.unftp_control_message.specs.CommandMeaning.{command_of}
use Rattle.unftp_control_message.specs.declared.Command.{Command}
use Rattle.unftp_control_message.specs.declared.Command.TheVariants as command
use Rattle.login_demo.specs.declared.session.Session.{Session}
use Rattle.login_demo.specs.declared.tree.Directory.{Directory}
use Rattle.login_demo.specs.Session.{command_reply, session_after, tree_reply}
use Rattle.login_demo.specs.Standing.{fixed_reply, standing_reply}

pub command-other : (session : Session) (c : Command)
    → ((x : _) → c ≡ command.Cwd x → ⊥) → (c ≡ command.Cdup → ⊥)
    → ((x : _) → c ≡ command.User x → ⊥) → (c ≡ command.Quit → ⊥)
    → (command_reply session.directory (command_of c) ≡ tree_reply session.directory (command_of c))
    × (session_after session (command_of c) ≡ session)
command-other session (command.Cwd x) cwd cdup user quit = absurd (cwd x refl)
command-other session command.Cdup cwd cdup user quit = absurd (cdup refl)
command-other session (command.User x) cwd cdup user quit = absurd (user x refl)
command-other session command.Quit cwd cdup user quit = absurd (quit refl)
command-other session _ cwd cdup user quit = (refl, refl)

pub tree_reply-other : (directory : Directory) (c : Command)
    → (c ≡ command.Pwd → ⊥) → ((x : _) → c ≡ command.Mlst x → ⊥)
    → ((x : _) → c ≡ command.Size x → ⊥) → ((x : _) → c ≡ command.Mdtm x → ⊥)
    → tree_reply directory (command_of c) ≡ standing_reply (command_of c)
tree_reply-other directory command.Pwd pwd mlst size mdtm = absurd (pwd refl)
tree_reply-other directory (command.Mlst x) pwd mlst size mdtm = absurd (mlst x refl)
tree_reply-other directory (command.Size x) pwd mlst size mdtm = absurd (size x refl)
tree_reply-other directory (command.Mdtm x) pwd mlst size mdtm = absurd (mdtm x refl)
tree_reply-other directory _ pwd mlst size mdtm = refl

-- a command that is answered alike in each session
pub record IsFixed (c : Command) : Type 0 where
  pub no_auth : (x : _) → c ≡ command.Auth x → ⊥
  pub no_prot : (x : _) → c ≡ command.Prot x → ⊥
  pub no_mode : (x : _) → c ≡ command.Mode x → ⊥
  pub no_opts : (x : _) → c ≡ command.Opts x → ⊥
  pub no_stru : (x : _) → c ≡ command.Stru x → ⊥
  pub no_feat : c ≡ command.Feat → ⊥
  pub no_help : c ≡ command.Help → ⊥
  pub no_site : (x y : _) → c ≡ command.Site x y → ⊥

pub standing_reply-other : (c : Command) → IsFixed c
    → standing_reply (command_of c) ≡ fixed_reply (command_of c)
standing_reply-other (command.Auth x) not = absurd (not.no_auth x refl)
standing_reply-other (command.Prot x) not = absurd (not.no_prot x refl)
standing_reply-other (command.Mode x) not = absurd (not.no_mode x refl)
standing_reply-other (command.Opts x) not = absurd (not.no_opts x refl)
standing_reply-other (command.Stru x) not = absurd (not.no_stru x refl)
standing_reply-other command.Feat not = absurd (not.no_feat refl)
standing_reply-other command.Help not = absurd (not.no_help refl)
standing_reply-other (command.Site x y) not = absurd (not.no_site x y refl)
standing_reply-other _ not = refl
