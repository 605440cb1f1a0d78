-- Names: upper-cased texts without separators.
use Rattle.std.proofs.Common.{◌≡◌, ℕ, false, [], ◌∷◌, refl, ◌∙◌, arith}
use Rattle.std.specs.Char.{is_ascii_lowercase, to_ascii_uppercase}
use Rattle.std.specs.List.{AllByRecursion}
use Rattle.std.proofs.lemmas.Bool.Decides.{nat_tests}
use Rattle.unftp_control_defs.specs.Bytes.{Bytes}
use Rattle.unftp_control_defs.specs.Verbs.{is_separator, upper}
use Rattle.unftp_control_defs.specs.Canonical.{IsUpperCaseName}

uppercased_byte : (b : ℕ) → is_ascii_lowercase b ≡ false → to_ascii_uppercase b ≡ b
uppercased_byte b h = grind (arith, nat_tests)

separator-uppercased : (b : ℕ) → is_separator (to_ascii_uppercase b) ≡ is_separator b
separator-uppercased b = grind (arith, nat_tests)

no_lowercase : (b : ℕ) → is_ascii_lowercase (to_ascii_uppercase b) ≡ false
no_lowercase b = grind (arith, nat_tests)

-- a name is in upper case already
pub upper-IsUpperCaseName : (name : Bytes) → IsUpperCaseName name → upper name ≡ name
upper-IsUpperCaseName [] h = refl
upper-IsUpperCaseName (b ∷ name) h = λ i. uppercased_byte b h.0.1 i ∷ upper-IsUpperCaseName name h.1
    i

pub bare_name : (name : Bytes) → IsUpperCaseName name
    → AllByRecursion (λ b. is_separator b ≡ false) name
bare_name [] h = tt
bare_name (b ∷ name) h = (h.0.0, bare_name name h.1)

-- a text without separators is a name in upper case
pub IsUpperCaseName-upper : (text : Bytes) → AllByRecursion (λ b. is_separator b ≡ false) text
    → IsUpperCaseName (upper text)
IsUpperCaseName-upper [] h = tt
IsUpperCaseName-upper (b ∷ text) h =
    ((separator-uppercased b ∙ h.0, no_lowercase b), IsUpperCaseName-upper text h.1)
