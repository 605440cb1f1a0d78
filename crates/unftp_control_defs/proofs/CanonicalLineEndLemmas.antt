-- The canonical line of a command that has a line has one LF, its last byte.
use Rattle.std.proofs.Common.{◌≡◌, true, [], ◌∷◌, ◌++◌, Option, Some, None, refl, sym, codes, append_assoc, arith, decimal}
use Rattle.unftp_control_defs.specs.Bytes.{Bytes, LF, CR, SP, Lacks}
use Rattle.unftp_control_defs.specs.Lines.{IsLine}
use Rattle.unftp_control_defs.specs.Values.{escaped}
use Rattle.unftp_control_defs.specs.FtpCommand.{FtpCommand, User, Pass, Acct, Stat, Stru, Mode, List as Listing, Nlst, Mlst, Mlsd, Opts, Auth, Prot, Rest, Md5, Site, Other, unless_empty}
use Rattle.unftp_control_defs.specs.Canonical.{spaced, spaced_unless_empty, with_option_end, site_body, canonical_body, canonical_line, HasLine, IsOptionalText}
use Rattle.unftp_control_defs.specs.declared.parameters.AuthParam.TheVariants.{Ssl}
use Rattle.unftp_control_defs.specs.declared.parameters.ModeParam.TheVariants.{Stream}
use Rattle.unftp_control_defs.specs.declared.parameters.Opt.TheVariants.{Utf8}
use Rattle.unftp_control_defs.specs.declared.parameters.ProtParam.TheVariants.{Clear}
use Rattle.unftp_control_defs.specs.declared.parameters.StruParam.TheVariants.{File}
use Rattle.unftp_control_defs.proofs.LackLemmas.{lacks, Lacks-test, Lacks-append, Lacks-escaped, Lacks-name, Lacks-decimal}
use Rattle.unftp_control_defs.proofs.ListingLemmas.{Lacks-with_option_end}

spaced_lacks : (word text : Bytes) → Lacks LF word → Lacks LF text → Lacks LF (spaced word text)
spaced_lacks word text w h = Lacks-append LF word (SP ∷ escaped text) w
    ((λ e. omega arith), Lacks-escaped text h)

spaced_unless_empty_lacks : (word text : Bytes) → Lacks LF word → Lacks LF text
    → Lacks LF (spaced_unless_empty word text)
spaced_unless_empty_lacks word [] w h = w
spaced_unless_empty_lacks word (b ∷ text) w h = spaced_lacks word (b ∷ text) w h

site_lacks : (name arguments : Bytes) → Lacks LF name → Lacks LF arguments
    → Lacks LF (site_body name (unless_empty arguments))
site_lacks [] [] n h = Lacks-test LF (codes "SITE") refl
site_lacks [] (b ∷ arguments) n h =
    Lacks-append LF (codes "SITE ") (spaced_unless_empty [] (b ∷ arguments))
    (Lacks-test LF (codes "SITE ") refl) (spaced_unless_empty_lacks [] (b ∷ arguments) n h)
site_lacks (b ∷ name) arguments n h =
    Lacks-append LF (codes "SITE ") (spaced_unless_empty (b ∷ name) arguments)
    (Lacks-test LF (codes "SITE ") refl) (spaced_unless_empty_lacks (b ∷ name) arguments n h)

-- words that are written out
fixed : (command : FtpCommand) → lacks LF (canonical_body command) ≡ true
    → Lacks LF (canonical_body command)
fixed command w = Lacks-test LF (canonical_body command) w

verb : (word text : Bytes) → lacks LF word ≡ true → Lacks LF text → Lacks LF (spaced word text)
verb word text w h = spaced_lacks word text (Lacks-test LF word w) h

list_lacks : (options path : Option Bytes) → IsOptionalText path
    → Lacks LF (canonical_body (Listing options path))
list_lacks options None optional = Lacks-test LF (codes "LIST") refl
list_lacks options (Some path) named = verb (codes "LIST") (with_option_end path) refl
    (Lacks-with_option_end path named.1)

body_lacks : (command : FtpCommand) → HasLine command → Lacks LF (canonical_body command)
body_lacks (Stru File) has_line = fixed (Stru File) refl
body_lacks (Mode Stream) has_line = fixed (Mode Stream) refl
body_lacks (Opts (Utf8 true)) has_line = fixed (Opts (Utf8 true)) refl
body_lacks (Auth Ssl) has_line = fixed (Auth Ssl) refl
body_lacks (Prot Clear) has_line = fixed (Prot Clear) refl
body_lacks (Listing options path) has_line = list_lacks options path has_line.1
body_lacks (Rest offset) has_line =
    verb (codes "REST") (decimal offset) refl (Lacks-decimal LF offset (omega arith))
body_lacks (Md5 file) has_line = verb (codes "SITE MD5") file refl has_line.1
body_lacks (Site name arguments) has_line =
    site_lacks name arguments (Lacks-name name has_line.0) has_line.2
body_lacks (Other name []) has_line = Lacks-name name has_line.0
body_lacks (Other name (b ∷ arguments)) has_line =
    spaced_lacks name (b ∷ arguments) (Lacks-name name has_line.0) has_line.2
body_lacks (User []) has_line = fixed (User []) refl
body_lacks (User (b ∷ name)) has_line = verb (codes "USER") (b ∷ name) refl has_line
body_lacks (Pass []) has_line = fixed (Pass []) refl
body_lacks (Pass (b ∷ password)) has_line = verb (codes "PASS") (b ∷ password) refl has_line
body_lacks (Acct []) has_line = fixed (Acct []) refl
body_lacks (Acct (b ∷ account)) has_line = verb (codes "ACCT") (b ∷ account) refl has_line
body_lacks (Stat (Some path)) has_line = verb (codes "STAT") path refl has_line.1
body_lacks (Nlst (Some path)) has_line = verb (codes "NLST") path refl has_line.1
body_lacks (Mlst (Some path)) has_line = verb (codes "MLST") path refl has_line.1
body_lacks (Mlsd (Some path)) has_line = verb (codes "MLSD") path refl has_line.1
-- each other command by its fields
body_lacks command has_line = search (fixed, verb)

pub IsLine-canonical_line : (command : FtpCommand) → HasLine command
    → IsLine (canonical_line command)
IsLine-canonical_line command has_line = record {
  body = canonical_body command ++ CR ∷ [];
  whole = sym (append_assoc (canonical_body command) (CR ∷ []) (LF ∷ []));
  one_end = Lacks-append LF (canonical_body command) (CR ∷ []) (body_lacks command has_line)
      ((λ e. omega arith), tt);
}
