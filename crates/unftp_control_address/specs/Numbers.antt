-- Numbers in decimal, of which the addresses of data connections are made.
use Rattle.std.specs.Prelude.{ℕ, Bool, not, ◌==◌, ◌&&◌, nat_le, nat_lt, if◌then◌else◌, List, [], ◌∷◌, length, Option, Some, None}
use Rattle.std.specs.Char.{is_ascii_digit}
use Rattle.std.specs.List.{list_all, slice_split}
use Rattle.std.specs.Str.Parse.{digits_value}
use Rattle.unftp_control_defs.specs.Bytes.{Bytes}

-- digits of ASCII, at least one and at most so many
abbrev pub is_number : ℕ → Bytes → Bool
is_number most text =
    (not (length text == 0) && nat_le (length text) most) && list_all is_ascii_digit text

-- the number that the text spells, of at most so many digits and below the bound
abbrev pub number_below : ℕ → ℕ → Bytes → Option ℕ
number_below most bound text = if is_number most text && nat_lt (digits_value 10 text) bound
    then Some (digits_value 10 text) else None

-- a number of 8 bits: one to three digits
abbrev pub octet : Bytes → Option ℕ
octet text = number_below 3 256 text

-- a number of 16 bits, such as a port: one to five digits
abbrev pub short : Bytes → Option ℕ
short text = number_below 5 65536 text

-- one more number before others, where all are numbers
abbrev pub onto : Option ℕ → Option (List ℕ) → Option (List ℕ)
onto (Some n) (Some ns) = Some (n ∷ ns)
onto _ _ = None

-- each text as a number of 8 bits, where all are
abbrev pub octets : List Bytes → Option (List ℕ)
octets [] = Some []
octets (text ∷ texts) = onto (octet text) (octets texts)

-- the numbers between the separators, where there is nothing else
abbrev pub octets_between : ℕ → Bytes → Option (List ℕ)
octets_between separator text = octets (slice_split (λ b. b == separator) text)

-- the list where it has this length
abbrev pub of_length : ℕ → Option (List ℕ) → Option (List ℕ)
of_length n None = None
of_length n (Some ns) = if length ns == n then Some ns else None
