-- A session: the replies to its events, and which state follows.
use Rattle.std.specs.Prelude.{◌≡◌, true, false, Option, Some, unwrap_or, codes}
use Rattle.unftp_control_defs.specs.Bytes.{Bytes}
use Rattle.unftp_control_defs.specs.Events.{FtpEvent, Command, Refused, out_of_memory}
use Rattle.unftp_control_defs.specs.FtpCommand.{FtpCommand, User, Mlst, Pwd, Cwd, Cdup, Quit, Size, Mdtm}
use Rattle.unftp_control_defs.specs.FtpReply.{FtpReply, CodeAndMsg}
use Rattle.unftp_control_defs.specs.Run.{Law}
use Rattle.login_demo.specs.declared.session.Session.{Session}
use Rattle.login_demo.specs.declared.tree.Directory.{Directory}
use Rattle.login_demo.specs.declared.tree.Directory.TheVariants.{Root}
use Rattle.login_demo.specs.declared.tree.Entry.{Entry}
use Rattle.login_demo.specs.declared.tree.Entry.TheVariants as entry
use Rattle.login_demo.specs.Tree.{entry_names, entry_at}
use Rattle.login_demo.specs.Walking.{walked}
use Rattle.login_demo.specs.Facts.{pwd_reply, mlst_reply, size_reply, mdtm_reply}
use Rattle.login_demo.specs.Standing.{standing_reply, refusal_reply}

-- at the root, and no QUIT came
abbrev pub new_session : Session
new_session = record { directory = Root; is_over = false }

-- what a path leads to from a directory
abbrev pub found : Directory → Bytes → Option Entry
found directory path = entry_at (walked (entry_names (entry.Directory directory)) path)

-- CWD and CDUP (RFC 959, section 4.1.1)
abbrev pub moved_reply : Option Entry → FtpReply
moved_reply (Some (entry.Directory directory)) = CodeAndMsg 250 (codes "Directory changed")
moved_reply _ = CodeAndMsg 550 (codes "No such directory")

-- the working directory after them: the same where the path leads to no directory
abbrev pub moved_to : Directory → Option Entry → Directory
moved_to directory (Some (entry.Directory next)) = next
moved_to directory _ = directory

-- the reply in a directory to a command that changes nothing
abbrev pub tree_reply : Directory → FtpCommand → FtpReply
tree_reply directory Pwd = pwd_reply directory
tree_reply directory (Mlst path) = mlst_reply (found directory (unwrap_or path (codes ".")))
tree_reply directory (Size path) = size_reply (found directory path)
tree_reply directory (Mdtm path) = mdtm_reply (found directory path)
tree_reply directory command = standing_reply command

-- the reply in a directory to any command
abbrev pub command_reply : Directory → FtpCommand → FtpReply
command_reply directory (Cwd path) = moved_reply (found directory path)
command_reply directory Cdup = moved_reply (found directory (codes ".."))
command_reply directory (User name) = CodeAndMsg 230 (codes "Logged in")
command_reply directory Quit = CodeAndMsg 221 (codes "Goodbye")
command_reply directory command = tree_reply directory command

-- the session after a command: who logs in begins at the root, and QUIT is the end
abbrev pub session_after : Session → FtpCommand → Session
session_after session (Cwd path) =
    record session { directory = moved_to session.directory (found session.directory path) }
session_after session Cdup =
    record session { directory = moved_to session.directory (found session.directory (codes "..")) }
session_after session (User name) = record session { directory = Root }
session_after session Quit = record session { is_over = true }
session_after session command = session

-- the reply to an event: to a command, or to a refused line
abbrev pub event_reply : Session → FtpEvent → FtpReply
event_reply session (Command command) = command_reply session.directory command
event_reply session (Refused fault) = refusal_reply fault

-- the session after an event: a refused line changes nothing
abbrev pub event_session : Session → FtpEvent → Session
event_session session (Command command) = session_after session command
event_session session (Refused fault) = session

-- It may fail with `OutOfMemory` only, without a source.
abbrev pub files_law : Law Session
files_law = record {
  says = event_reply;
  next = event_session;
  may_fail = λ _ _ fault. fault ≡ out_of_memory;
  done = λ session. session.is_over;
}
