-- The verb of a line (RFC 959, section 5.3).
use Rattle.std.specs.Prelude.{◌≡◌, ℕ, Bool, false, IsTrue, ◌||◌, [], ◌∷◌, ◌++◌, ◌==◌, ◌⊎◌}
use Rattle.std.specs.List.{AllByRecursion, before_first, after_first}
use Rattle.std.specs.Str.{str_to_ascii_uppercase}
use Rattle.unftp_control_defs.specs.Bytes.{Bytes, SP, CR, LF}

-- what ends a verb: one byte, so further spaces belong to the parameter
abbrev pub is_separator : ℕ → Bool
is_separator b = (b == SP) || (b == CR) || (b == LF)

-- The line is just the verb; or the verb, one separator and the parameter bytes.
pub record Cut (line verb parameter : Bytes) : Type 0 where
  pub no_separator : AllByRecursion (λ b. is_separator b ≡ false) verb
  pub whole : ((line ≡ verb) × (parameter ≡ []))
      ⊎ ((b : ℕ) × IsTrue (is_separator b) × (line ≡ verb ++ b ∷ parameter))

-- the verb and the parameter bytes of a line, computed
abbrev pub verb_of : Bytes → Bytes
verb_of line = before_first is_separator line

abbrev pub parameter_of : Bytes → Bytes
parameter_of line = after_first is_separator line

-- `a` to `z` in upper case, all else kept: the case of a verb is ignored (RFC 959, section 5.3),
-- and that of a subcommand of SITE
abbrev pub upper : Bytes → Bytes
upper text = str_to_ascii_uppercase text
