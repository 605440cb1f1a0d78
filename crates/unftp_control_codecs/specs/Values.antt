-- What the parts of a parameter's reading answer.
use Rattle.std.specs.Prelude.{◌≡◌, ℕ, ◌+◌, ◌<◌, ◌≤◌, ◌==◌, ◌||◌, Bool, true, false, ◌&&◌, [], ◌∷◌, ◌++◌, length, take, drop, slice_index, Option, Some, option_map, None}
use Rattle.unftp_control_defs.specs.Bytes.{Bytes, CR, LF, Lacks}
use Rattle.unftp_control_defs.specs.ComputedValue.{Context, first_value, later_value, Fresh, Plain}
use Rattle.unftp_control_message.specs.SentValues.{unescaped}

-- So many bytes are sent for what is read of bytes; there is none before an invalid line ending.
abbrev IsSentLen : (Bytes → Option Bytes) → Bytes → Option ℕ → Type 0
IsSentLen read bytes None = read bytes ≡ None
IsSentLen read bytes (Some n) = (n ≤ length bytes) × (read bytes ≡ Some (unescaped (take n bytes)))

-- what comes directly after the first unit of a value or a CR NUL
abbrev pub IsLaterLen : Bytes → Option ℕ → Type 0
IsLaterLen bytes later = IsSentLen (later_value Fresh) bytes later

-- the value of a parameter that is not empty
abbrev pub first_value_of : Bytes → Option Bytes
first_value_of bytes = first_value (slice_index bytes 0) (drop 1 bytes)

abbrev pub IsFirstLen : Bytes → Option ℕ → Type 0
IsFirstLen bytes len = IsSentLen first_value_of bytes len

-- After so many bytes of a parameter its value goes on as after a CR NUL.
abbrev pub Resumes : Bytes → ℕ → Type 0
Resumes bytes n = (later : Option ℕ) → IsLaterLen (drop n bytes) later
    → IsFirstLen bytes (option_map (λ m. n + m) later)

-- what ends a run of bytes that are written as they are
abbrev pub ends_run : ℕ → Bool
ends_run b = (b == CR) || (b == LF)

-- None of the bytes from i up to j ends a run.
abbrev pub LacksRunEnd : Bytes → ℕ → ℕ → Type 0
LacksRunEnd bytes i j = (k : ℕ) → i ≤ k → k < j → ¬ (ends_run (slice_index bytes k) ≡ true)

-- So many bytes are written as they are, and then there is nothing more or one that ends the run.
pub record IsRunEnd (context : Context) (bytes : Bytes) (n : ℕ) : Type 0 where
  pub within : n ≤ length bytes
  pub goes_on : later_value context bytes
      ≡ option_map (λ w. take n bytes ++ w) (later_value Plain (drop n bytes))
  pub stop : n < length bytes → ends_run (slice_index bytes n) ≡ true
  pub no_return : Lacks CR (take n bytes)

abbrev pub IsPlainEnd : Bytes → ℕ → Type 0
IsPlainEnd bytes n = IsRunEnd Plain bytes n

abbrev pub IsFreshEnd : Bytes → ℕ → Type 0
IsFreshEnd bytes n = IsRunEnd Fresh bytes n

-- the bytes begin with an end of line
abbrev pub begins_with_line_end : Bytes → Bool
begins_with_line_end [] = false
begins_with_line_end (a ∷ []) = a == LF
begins_with_line_end (a ∷ b ∷ bytes) = (a == LF) || ((a == CR) && (b == LF))
