-- A path of LIST is read back, also one that begins with a dash.
use Rattle.std.proofs.Common.{◌≡◌, ℕ, [], ◌∷◌, ◌++◌, ◌==◌, ◌⊎◌, Option, Some, None, Ok, refl, ap, ◌∙◌, inl, inr, ne_eqb, eq-eqb, codes}
use Rattle.std.specs.Str.{IsUtf8, is_utf8, chars}
use Rattle.std.proofs.lemmas.Bool.{cases_eq, cond_both}
use Rattle.std.proofs.lemmas.Str.{utf8_lossy-IsUtf8, IsUtf8-append, IsUtf8-nil, IsUtf8-from_is_utf8}
use Rattle.unftp_control_defs.specs.Bytes.{Bytes, LF, DASH, Lacks}
use Rattle.unftp_control_defs.specs.Paths.{path_of}
use Rattle.unftp_control_defs.specs.FtpCommand.{List as Listing, by_optional_text, maybe_text, unless_empty}
use Rattle.unftp_control_defs.specs.Said.{IsMaybeUtf8}
use Rattle.unftp_control_defs.specs.Rules.{taken}
use Rattle.unftp_control_defs.specs.declared.verb.Kind.TheVariants as kinds
use Rattle.unftp_control_defs.specs.declared.verb.Verb.TheVariants as verb
use Rattle.unftp_control_defs.specs.Outcome.{outcome}
use Rattle.unftp_control_defs.specs.Canonical.{with_option_end, canonical_line, IsOptionalText}
use Rattle.unftp_control_defs.proofs.LackLemmas.{Lacks-test, Lacks-append}
use Rattle.unftp_control_defs.proofs.PathLemmas.{plain_path}
use Rattle.unftp_control_defs.proofs.CommandRoundTripLemmas.{by_escaped, unless_empty-some}

-- a marked path is not taken for options
marked_path : (b : ℕ) (path : Bytes) → (b ≡ DASH) ⊎ (b ≡ DASH → ⊥)
    → path_of (with_option_end (b ∷ path)) ≡ b ∷ path
marked_path b path (inl e) = rw (eq-eqb b DASH e)
marked_path b path (inr ne) = rw (ne_eqb b DASH ne) (plain_path (b ∷ path) (λ letters e. ne cc))

path_of-with_option_end : (path : Bytes) → path_of (with_option_end path) ≡ path
path_of-with_option_end [] = refl
path_of-with_option_end (b ∷ path) = marked_path b path (cases_eq b DASH)

pub Lacks-with_option_end : (path : Bytes) → Lacks LF path → Lacks LF (with_option_end path)
Lacks-with_option_end [] h = tt
Lacks-with_option_end (b ∷ path) h = cond_both (b == DASH) (codes "-- " ++ b ∷ path) (b ∷ path)
    (Lacks LF) (λ _. Lacks-append LF (codes "-- ") (b ∷ path) (Lacks-test LF (codes "-- ") refl) h)
    (λ _. h)

IsUtf8-with_option_end : (path : Bytes) → IsUtf8 path → IsUtf8 (with_option_end path)
unfolding is_utf8 chars lib.Utf8.encode
IsUtf8-with_option_end [] utf8 = utf8
IsUtf8-with_option_end (b ∷ path) utf8 = cond_both (b == DASH) (codes "-- " ++ b ∷ path)
    (b ∷ path) IsUtf8
    (λ _. IsUtf8-append (codes "-- ") (b ∷ path) (IsUtf8-from_is_utf8 (codes "-- ") refl) utf8)
    (λ _. utf8)

pub listing_back : (path : Option Bytes) → IsOptionalText path → IsMaybeUtf8 path
    → outcome (canonical_line (Listing None path)) ≡ Ok (Listing None path)
unfolding is_utf8 chars lib.Utf8.encode
listing_back None optional utf8 =
    ap (λ t. by_optional_text (Listing None) [] (maybe_text (unless_empty (path_of t))))
    (utf8_lossy-IsUtf8 [] IsUtf8-nil)
listing_back (Some path) named utf8 =
    by_escaped (taken kinds.Listing verb.List []) (with_option_end path)
    (Lacks-with_option_end path named.1)
    ∙ rw (
      utf8_lossy-IsUtf8 (with_option_end path) (IsUtf8-with_option_end path utf8),
      path_of-with_option_end path,
      unless_empty-some path named.0,
    ) refl
