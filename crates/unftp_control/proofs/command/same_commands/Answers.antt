-- What the derived `==` of commands answers, against what they are.
use Rattle.std.proofs.Common.{◌≡◌, ◌==◌, ℕ, Bool, true, List, Option, Some, None, option_map, refl, ap, string_bytes, String, string_eq, bytes_eq, ◌&&◌, Global}
use Rattle.std.specs.Bool.{Decides}
use Rattle.std.specs.Cmp.{booleans_Decides}
use Rattle.std.specs.Option.{option_eq}
use Rattle.std.proofs.lemmas.Bool.{false≢true, true≢false}
use Rattle.std.proofs.lemmas.Bool.Decides.{Decides-and, Decides-eqb, Decides-like}
use Rattle.std.proofs.lemmas.Slice.Eq.{bytes_eq-Decides}
use denote.Enum.Bare.{Bare, sameb, same_true, true_same}
use denote.Enum.Declared.{Declared}
use Rattle.unftp_control_defs.specs.FtpCommand as spec
use Rattle.unftp_control_defs.specs.Said.{command_number}
use Rattle.unftp_control_message.specs.CommandMeaning.{command_of}
use Rattle.unftp_control_message.specs.declared.Command.TheVariants as rust
use Rattle.unftp_control_defs.specs.declared.parameters.Opt.{Opt}
use Rattle.unftp_control_defs.specs.declared.parameters.Opt.TheVariants.{Utf8}
use Rattle.unftp_control_defs.specs.contracts.parameters.OptPartialEq.TheImpl.{ghosts as of_Opt}
use Rattle.unftp_control_defs.specs.contracts.parameters.AuthParam as AuthParam
use Rattle.unftp_control_defs.specs.contracts.parameters.ModeParam as ModeParam
use Rattle.unftp_control_defs.specs.contracts.parameters.ProtParam as ProtParam
use Rattle.unftp_control_defs.specs.contracts.parameters.StruParam as StruParam
use Rattle.unftp_control.proofs.command.same_commands.Goals as goal

-- What decides an equation decides the same of a constructor round its sides.
field : {A B : Type 0} {x y : A} {r : Bool} (f : A → B) →
    Decides r (x ≡ y) → (f x ≡ f y → x ≡ y) → Decides r (f x ≡ f y)
field {r = r} f decides injective = Decides-like r (λ e. ap f e) injective decides

-- The same of two equations and a constructor with two fields.
fields : {A B C : Type 0} {x y : A} {z w : B} {r s : Bool} (f : A → B → C) → Decides r (x ≡ y) →
    Decides s (z ≡ w) → (f x z ≡ f y w → (x ≡ y) × (z ≡ w)) → Decides (r && s) (f x z ≡ f y w)
fields {r = r} {s = s} f first second injective =
    Decides-like (r && s) (λ p. let e = p.0 in let g = p.1 in cc) injective
    (Decides-and r s first second)

same : {A : Type 0} {x : A} → Decides true (x ≡ x)
same = (λ _. refl, λ _. refl)

choice-Decides : (D : Declared) → Bare D.parts → (a b : D.D) → Decides (sameb D a b) (a ≡ b)
choice-Decides D bare a b = (same_true D bare a b, true_same D a b)

option-Decides : (a b : Opt) → Decides (of_Opt.eq a b) (a ≡ b)
option-Decides (Utf8 on) (Utf8 off) = field Utf8 (booleans_Decides on off) (λ e. cc)

text-Decides : (s t : String Global) → Decides (string_eq s t) (string_bytes s ≡ string_bytes t)
text-Decides s t = bytes_eq-Decides (string_bytes s) (string_bytes t)

maybe_bytes-Decides : (a b : Option (List ℕ)) → Decides (option_eq bytes_eq a b) (a ≡ b)
maybe_bytes-Decides None None = same
maybe_bytes-Decides (Some s) (Some t) = field (λ x. Some x) (bytes_eq-Decides s t) (λ e. cc)
maybe_bytes-Decides _ _ = (λ h. absurd (false≢true h), λ e. cc)

path-Decides : (a b : Option (String Global)) →
    Decides (option_eq string_eq a b) (option_map string_bytes a ≡ option_map string_bytes b)
path-Decides None None = same
path-Decides (Some s) (Some t) = field (λ x. Some x) (text-Decides s t) (λ e. cc)
path-Decides _ _ = (λ h. absurd (false≢true h), λ e. cc)

pub returns : goal.returns
returns c (rust.User s) (rust.User t) = field spec.User (bytes_eq-Decides s t) (λ e. cc)
returns c (rust.Pass s) (rust.Pass t) = field spec.Pass (bytes_eq-Decides s t) (λ e. cc)
returns c (rust.Acct s) (rust.Acct t) = field spec.Acct (bytes_eq-Decides s t) (λ e. cc)
returns c rust.Syst rust.Syst = same
returns c (rust.Stat s) (rust.Stat t) = field spec.Stat (maybe_bytes-Decides s t) (λ e. cc)
returns c rust.TypeCode rust.TypeCode = same
returns c (rust.Stru s) (rust.Stru t) = field spec.Stru (choice-Decides StruParam.the_type tt s t)
    (λ e. cc)
returns c (rust.Mode s) (rust.Mode t) = field spec.Mode (choice-Decides ModeParam.the_type tt s t)
    (λ e. cc)
returns c rust.Help rust.Help = same
returns c rust.Noop rust.Noop = same
returns c rust.Pasv rust.Pasv = same
returns c rust.Epsv rust.Epsv = same
returns c (rust.Port s) (rust.Port t) = field spec.Port (text-Decides s t) (λ e. cc)
returns c (rust.Retr s) (rust.Retr t) = field spec.Retr (text-Decides s t) (λ e. cc)
returns c (rust.Stor s) (rust.Stor t) = field spec.Stor (text-Decides s t) (λ e. cc)
returns c (rust.Appe s) (rust.Appe t) = field spec.Appe (text-Decides s t) (λ e. cc)
returns c (rust.List s u) (rust.List t w) = fields spec.List (path-Decides s t) (path-Decides u w)
    (λ e. (cc, cc))
returns c (rust.Nlst s) (rust.Nlst t) = field spec.Nlst (path-Decides s t) (λ e. cc)
returns c (rust.Mlst s) (rust.Mlst t) = field spec.Mlst (path-Decides s t) (λ e. cc)
returns c (rust.Mlsd s) (rust.Mlsd t) = field spec.Mlsd (path-Decides s t) (λ e. cc)
returns c rust.Feat rust.Feat = same
returns c rust.Pwd rust.Pwd = same
returns c (rust.Cwd s) (rust.Cwd t) = field spec.Cwd (text-Decides s t) (λ e. cc)
returns c rust.Cdup rust.Cdup = same
returns c (rust.Opts s) (rust.Opts t) = field spec.Opts (option-Decides s t) (λ e. cc)
returns c (rust.Dele s) (rust.Dele t) = field spec.Dele (text-Decides s t) (λ e. cc)
returns c (rust.Rmd s) (rust.Rmd t) = field spec.Rmd (text-Decides s t) (λ e. cc)
returns c rust.Quit rust.Quit = same
returns c (rust.Mkd s) (rust.Mkd t) = field spec.Mkd (text-Decides s t) (λ e. cc)
returns c rust.Allo rust.Allo = same
returns c rust.Abor rust.Abor = same
returns c rust.Stou rust.Stou = same
returns c (rust.Rnfr s) (rust.Rnfr t) = field spec.Rnfr (text-Decides s t) (λ e. cc)
returns c (rust.Rnto s) (rust.Rnto t) = field spec.Rnto (text-Decides s t) (λ e. cc)
returns c (rust.Auth s) (rust.Auth t) = field spec.Auth (choice-Decides AuthParam.the_type tt s t)
    (λ e. cc)
returns c rust.Ccc rust.Ccc = same
returns c rust.Pbsz rust.Pbsz = same
returns c (rust.Prot s) (rust.Prot t) = field spec.Prot (choice-Decides ProtParam.the_type tt s t)
    (λ e. cc)
returns c (rust.Size s) (rust.Size t) = field spec.Size (text-Decides s t) (λ e. cc)
returns c (rust.Rest s) (rust.Rest t) = field spec.Rest (Decides-eqb s t) (λ e. cc)
returns c (rust.Mdtm s) (rust.Mdtm t) = field spec.Mdtm (text-Decides s t) (λ e. cc)
returns c (rust.Md5 s) (rust.Md5 t) = field spec.Md5 (text-Decides s t) (λ e. cc)
returns c (rust.Site s u) (rust.Site t w) = fields spec.Site (text-Decides s t) (text-Decides u w)
    (λ e. (cc, cc))
returns c (rust.Other s u) (rust.Other t w) =
    fields spec.Other (text-Decides s t) (text-Decides u w) (λ e. (cc, cc))
returns c a b = (
  λ h. absurd (false≢true h),
  λ e. absurd (true≢false (ap (λ x. command_number x == command_number (command_of a)) e)),
)
