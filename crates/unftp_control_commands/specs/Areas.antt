-- What is in an area of a caller's, a part of memory that has some length, while a text is written
-- to it.
use Rattle.std.specs.Prelude.{◌≡◌, ◌≤◌, ◌-◌, ◌^◌, ℕ, ◌++◌, length, drop, min}
use Rattle.unftp_control_defs.specs.Bytes.{Bytes}

-- the text is at the start, and what follows it stays
abbrev pub overwritten : Bytes → Bytes → Bytes
overwritten text area = text ++ drop (length text) area

-- how long a text is, or the greatest number that there is where it is longer
abbrev pub counted : Bytes → ℕ
counted text = min (length text) (2 ^ 64 - 1)

-- The area, which had other bytes, has the text at its start where it has room for all of it; the
-- number is the text's length.
pub record HasText (start text area : Bytes) (len : ℕ) : Type 0 where
  pub same_length : length area ≡ length start
  pub counts : len ≡ counted text
  pub is : length text ≤ length start → area ≡ overwritten text start
