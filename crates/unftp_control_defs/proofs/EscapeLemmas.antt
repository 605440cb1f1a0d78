-- A text that is escaped and ended by CR LF is read back.
use Rattle.std.proofs.Common.{◌≡◌, ◌≢◌, ℕ, Bool, true, false, [], ◌∷◌, ◌++◌, ◌⊎◌, Some, Ok, refl, ap, ◌∙◌, inl, inr, ne_eqb, codes, decimal, arith}
use Rattle.std.specs.Str.{is_utf8, chars}
use Rattle.std.proofs.lemmas.Bool.{cases_eq}
use Rattle.unftp_control_defs.specs.Bytes.{Bytes, LF, CR, SP, crlf, Lacks}
use Rattle.unftp_control_defs.specs.Values.{ReadsLater, ends_crlf, cr_nul, byte, Reads, ended_crlf, first_cr_nul, first_byte, escaped}
use Rattle.unftp_control_defs.specs.ComputedValue.{value_of}
use Rattle.unftp_control_defs.specs.FtpCommand.{User, command_by, maybe_raw, unless_empty}
use Rattle.unftp_control_defs.specs.Rules.{taken}
use Rattle.unftp_control_defs.specs.declared.verb.Kind.TheVariants as kinds
use Rattle.unftp_control_defs.specs.declared.verb.Verb.TheVariants as verb
use Rattle.unftp_control_defs.specs.Outcome.{outcome, value_outcome}
use Rattle.unftp_control_defs.proofs.LackLemmas.{Lacks-decimal}
use Rattle.unftp_control_defs.proofs.LineEndLemmas.{not_cr}
use Rattle.unftp_control_defs.proofs.ValueLemmas.{value_of-Reads}

escaped_later : {fresh : Bool} (text : Bytes) → Lacks LF text
    → ReadsLater fresh (escaped text ++ crlf) text
escaped_later [] h = ends_crlf
escaped_later {fresh} (b ∷ text) h =
    by_byte (cases_eq b CR) (escaped_later text h.1) (escaped_later text h.1)
  where
    by_byte : (b ≡ CR) ⊎ (b ≢ CR) → ReadsLater true (escaped text ++ crlf) text
        → ReadsLater false (escaped text ++ crlf) text
        → ReadsLater fresh (escaped (b ∷ text) ++ crlf) (b ∷ text)
    by_byte (inl e) fresh_back plain_back = rw e (cr_nul fresh_back)
    by_byte (inr ne) fresh_back plain_back =
        rw (ne_eqb b CR ne) (byte ne (λ e. absurd (h.0 e)) plain_back)

escaped_back : (text : Bytes) → Lacks LF text → Reads (escaped text ++ crlf) text
escaped_back [] h = ended_crlf
escaped_back (b ∷ text) h = by_byte (cases_eq b CR)
  where
    by_byte : (b ≡ CR) ⊎ (b ≢ CR) → Reads (escaped (b ∷ text) ++ crlf) (b ∷ text)
    by_byte (inl e) = rw e (first_cr_nul (escaped_later text h.1))
    by_byte (inr ne) = rw (ne_eqb b CR ne) (first_byte h.0
        (λ rest. not_cr ne) (escaped_later text h.1))

-- the value of an escaped text
pub value_of-escaped : (text : Bytes) → Lacks LF text → value_of (escaped text ++ crlf) ≡ Some text
value_of-escaped text h = value_of-Reads (escaped_back text h)

-- a text without a CR needs no escape
escaped-without_cr : (text : Bytes) → Lacks CR text → escaped text ≡ text
escaped-without_cr [] h = refl
escaped-without_cr (b ∷ text) h =
    rw (ne_eqb b CR h.0) (ap (λ t. b ∷ t) (escaped-without_cr text h.1))

pub escaped-decimal : (n : ℕ) → escaped (decimal n) ≡ decimal n
escaped-decimal n = escaped-without_cr (decimal n) (Lacks-decimal CR n (omega arith))

user_line : (parameter : Bytes) → outcome (codes "USER" ++ SP ∷ parameter)
    ≡ value_outcome (taken kinds.Raw verb.User []) (value_of parameter)
unfolding is_utf8 chars lib.Utf8.encode
user_line parameter = refl

-- a name that is sent so is read back
pub outcome-escaped : (name : Bytes) → Lacks LF name
    → outcome (codes "USER " ++ escaped name ++ crlf) ≡ Ok (User name)
outcome-escaped name h = user_line (escaped name ++ crlf)
    ∙ ap (value_outcome (taken kinds.Raw verb.User [])) (value_of-escaped name h) ∙ user name
  where
    user : (name : Bytes) → command_by verb.User [] (maybe_raw (unless_empty name)) ≡ Ok (User name)
    user [] = refl
    user (b ∷ name) = refl
