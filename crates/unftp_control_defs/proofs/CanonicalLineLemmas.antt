-- A command that has a line is what its canonical line means.
use Rattle.std.proofs.Common.{◌≡◌, true, [], ◌∷◌, Option, Some, None, Ok, refl}
use Rattle.std.specs.Str.{is_utf8, chars}
use Rattle.unftp_control_defs.specs.Bytes.{Bytes}
use Rattle.unftp_control_defs.specs.FtpCommand.{FtpCommand, User, Pass, Acct, Stat, Stru, Mode, List as Listing, Nlst, Mlst, Mlsd, Opts, Auth, Prot, Rest, Site, Other}
use Rattle.unftp_control_defs.specs.Said.{IsMaybeUtf8, HasTypedFields}
use Rattle.unftp_control_defs.specs.Outcome.{outcome}
use Rattle.unftp_control_defs.specs.Canonical.{canonical_line, HasLine, IsOptionalText}
use Rattle.unftp_control_defs.specs.declared.parameters.AuthParam.TheVariants.{Ssl}
use Rattle.unftp_control_defs.specs.declared.parameters.ModeParam.TheVariants.{Stream}
use Rattle.unftp_control_defs.specs.declared.parameters.Opt.TheVariants.{Utf8}
use Rattle.unftp_control_defs.specs.declared.parameters.ProtParam.TheVariants.{Clear}
use Rattle.unftp_control_defs.specs.declared.parameters.StruParam.TheVariants.{File}
use Rattle.unftp_control_defs.proofs.ListingLemmas.{listing_back}
use Rattle.unftp_control_defs.proofs.NameLemmas.{other_back, site_back}
use Rattle.unftp_control_defs.proofs.OffsetLemmas.{rest_back}
use Rattle.unftp_control_defs.proofs.CommandRoundTripLemmas.{some_raw_back, some_text_back, text_back}
use Rattle.unftp_control_defs.specs.declared.verb.Verb.TheVariants as verb

list_back : (options path : Option Bytes) → options ≡ None → IsOptionalText path → IsMaybeUtf8 path
    → outcome (canonical_line (Listing options path)) ≡ Ok (Listing options path)
list_back None path none optional utf8 = listing_back path optional utf8
list_back (Some options) path none optional utf8 = cc

pub outcome-canonical_line : (command : FtpCommand) → HasLine command → HasTypedFields command
    → outcome (canonical_line command) ≡ Ok command
unfolding is_utf8 chars lib.Utf8.encode
outcome-canonical_line (User []) has_line real = refl
outcome-canonical_line (User (b ∷ name)) has_line real =
    some_raw_back verb.User [] (b ∷ name) refl ((λ e. cc), has_line)
outcome-canonical_line (Pass []) has_line real = refl
outcome-canonical_line (Pass (b ∷ password)) has_line real =
    some_raw_back verb.Pass [] (b ∷ password) refl ((λ e. cc), has_line)
outcome-canonical_line (Acct []) has_line real = refl
outcome-canonical_line (Acct (b ∷ account)) has_line real =
    some_raw_back verb.Acct [] (b ∷ account) refl ((λ e. cc), has_line)
outcome-canonical_line (Stat None) has_line real = refl
outcome-canonical_line (Stat (Some path)) has_line real =
    some_raw_back verb.Stat [] path refl has_line
outcome-canonical_line (Stru File) has_line real = refl
outcome-canonical_line (Mode Stream) has_line real = refl
outcome-canonical_line (Listing options path) has_line real =
    list_back options path has_line.0 has_line.1 real.1
outcome-canonical_line (Nlst None) has_line real = refl
outcome-canonical_line (Nlst (Some path)) has_line real =
    some_text_back verb.Nlst [] path refl has_line real
outcome-canonical_line (Mlst None) has_line real = refl
outcome-canonical_line (Mlst (Some path)) has_line real =
    some_text_back verb.Mlst [] path refl has_line real
outcome-canonical_line (Mlsd None) has_line real = refl
outcome-canonical_line (Mlsd (Some path)) has_line real =
    some_text_back verb.Mlsd [] path refl has_line real
outcome-canonical_line (Opts (Utf8 true)) has_line real = refl
outcome-canonical_line (Auth Ssl) has_line real = refl
outcome-canonical_line (Prot Clear) has_line real = refl
outcome-canonical_line (Rest offset) has_line real = rest_back offset real
outcome-canonical_line (Site name arguments) has_line real =
    site_back name arguments has_line.0 has_line.1 real.0 has_line.2 real.1
outcome-canonical_line (Other name arguments) has_line real =
    other_back name has_line.0 real.0 has_line.1 arguments has_line.2 real.1
-- each other command by its fields: none, one of a few, or a text that is not empty
outcome-canonical_line command has_line real = search text_back
