-- Each reply is sent and final, and a client can read it back.
use Rattle.std.proofs.Common.{◌≡◌, true, Option, Some, None, bytes_eq, codes, refl}
use Rattle.std.specs.Fmt.{digits}
use Rattle.std.proofs.lemmas.Bool.{cond_both}
use Rattle.unftp_control_defs.specs.Events.{FtpEvent, FaultKind, FaultSource}
use Rattle.unftp_control_defs.specs.Events as event
use Rattle.unftp_control_defs.specs.FtpCommand as command
use Rattle.unftp_control_defs.specs.FtpCommand.{FtpCommand}
use Rattle.unftp_control_defs.specs.FtpReply.{CodeAndMsg}
use Rattle.unftp_control_defs.specs.Run.{as_session, last_state}
use Rattle.unftp_control_defs.specs.declared.parameters.ModeParam.TheVariants as mode
use Rattle.unftp_control_defs.specs.declared.parameters.Opt.TheVariants as opt
use Rattle.unftp_control_defs.specs.declared.parameters.StruParam.TheVariants as structure
use Rattle.unftp_control_login.specs.Promises.{SendsPlainExchanges}
use Rattle.unftp_control_login.proofs.FinalLemmas.{final, is_final}
use Rattle.login_demo.specs.declared.session.Session.{Session}
use Rattle.login_demo.specs.declared.tree.Directory.{Directory}
use Rattle.login_demo.specs.declared.tree.Directory.TheVariants as directory
use Rattle.login_demo.specs.declared.tree.File.TheVariants as file
use Rattle.login_demo.specs.declared.tree.Entry.{Entry}
use Rattle.login_demo.specs.declared.tree.Entry.TheVariants as entry
use Rattle.login_demo.specs.Facts.{mdtm_reply, mlst_reply, pwd_reply, size_reply}
use Rattle.login_demo.specs.Standing.{fixed_reply, refusal_code, refusal_text, standing_reply}
use Rattle.login_demo.specs.Session.{command_reply, event_reply, files_law, moved_reply, tree_reply}

pwd-final : (d : Directory) → is_final (pwd_reply d) ≡ true
pwd-final directory.Root = refl
pwd-final _ = refl

moved-final : (to : Option Entry) → is_final (moved_reply to) ≡ true
moved-final None = refl
moved-final (Some (entry.Directory d)) = refl
moved-final _ = refl

mlst-final : (to : Option Entry) → is_final (mlst_reply to) ≡ true
unfolding digits
mlst-final (Some (entry.Directory directory.Root)) = refl
mlst-final (Some (entry.File file.Readme)) = refl
mlst-final _ = refl

size-final : (to : Option Entry) → is_final (size_reply to) ≡ true
unfolding digits
size-final (Some (entry.File file.Readme)) = refl
size-final _ = refl

mdtm-final : (to : Option Entry) → is_final (mdtm_reply to) ≡ true
mdtm-final (Some (entry.File file.Readme)) = refl
mdtm-final _ = refl

fixed-final : (c : FtpCommand) → is_final (fixed_reply c) ≡ true
fixed-final command.Noop = refl
fixed-final _ = refl

standing-final : (c : FtpCommand) → is_final (standing_reply c) ≡ true
standing-final (command.Mode mode.Stream) = refl
standing-final (command.Opts (opt.Utf8 true)) = refl
standing-final (command.Stru structure.File) = refl
standing-final (command.Site name arguments) =
    cond_both (bytes_eq name (codes "HELP")) _ _ (λ reply. is_final reply ≡ true) (λ _. refl)
    (λ _. refl)
standing-final _ = refl

tree-final : (d : Directory) (c : FtpCommand) → is_final (tree_reply d c) ≡ true
tree-final d command.Pwd = pwd-final d
tree-final d (command.Mlst path) = mlst-final _
tree-final d (command.Size path) = size-final _
tree-final d (command.Mdtm path) = mdtm-final _
tree-final d c = standing-final c

command-final : (d : Directory) (c : FtpCommand) → is_final (command_reply d c) ≡ true
command-final d (command.Cwd path) = moved-final _
command-final d command.Cdup = moved-final _
command-final d (command.User name) = refl
command-final d command.Quit = refl
command-final d c = tree-final d c

refusal-final : (kind : FaultKind) (source : FaultSource)
    → is_final (CodeAndMsg (refusal_code source) (refusal_text kind source)) ≡ true
refusal-final kind (event.Parse None) = refl
refusal-final kind (event.Parse (Some command.InvalidCommand)) = refl
refusal-final kind (event.Parse (Some _)) = refl
refusal-final event.LineTooLong _ = refl
refusal-final _ _ = refl

event-final : (session : Session) (e : FtpEvent) → is_final (event_reply session e) ≡ true
event-final session (event.Command c) = command-final session.directory c
event-final session (event.Refused fault) = refusal-final fault.kind fault.source

pub SendsPlainExchanges-files : (first : Session) → SendsPlainExchanges (as_session files_law) first
SendsPlainExchanges-files first before event on =
    let session = last_state (as_session files_law) first before in
    let is = final (event_reply session event) (event-final session event) in
    (is.1, (is.0, tt))
