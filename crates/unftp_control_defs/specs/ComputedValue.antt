-- The value of a parameter, computed from the left: the only one, by the law `one_value`.
use Rattle.std.specs.Prelude.{ℕ, Bool, true, false, ◌==◌, ◌&&◌, not, if◌then◌else◌, [], ◌∷◌, Option, Some, None, option_map, bytes_eq}
use Rattle.unftp_control_defs.specs.Bytes.{Bytes, NUL, LF, CR}

-- where a later byte is: after the first unit or CR NUL, where an LF is data (fresh); after another
-- byte; or after a CR
pub data Context : Type 0 where
  After : Bool → Context
  Returning : Context

abbrev pub Fresh : Context
Fresh = After true

abbrev pub Plain : Context
Plain = After false

-- the byte before the rest of the value, if there is one
abbrev pub byte_then : ℕ → Option Bytes → Option Bytes
byte_then b rest = option_map (λ v. b ∷ v) rest

abbrev pub later_value : Context → Bytes → Option Bytes
later_value context [] = None
later_value (After fresh) (b ∷ bytes) =
    if b == CR then later_value Returning bytes
    else (if not fresh && (b == LF) then Some [] else byte_then b (later_value (After false) bytes))
later_value Returning (b ∷ bytes) =
    if b == LF then Some []
    else (if b == NUL then byte_then CR (later_value (After true) bytes) else None)

-- from the first byte on
abbrev pub first_value : ℕ → Bytes → Option Bytes
first_value a [] = None
first_value a (b ∷ bytes) = if (a == CR) && (b == NUL)
    then byte_then CR (later_value (After true) bytes)
    else byte_then a (later_value (After true) (b ∷ bytes))

abbrev pub value_of : Bytes → Option Bytes
value_of [] = Some []
value_of (a ∷ bytes) = if a == LF then Some []
    else (if bytes_eq bytes (LF ∷ []) then Some (if a == CR then [] else a ∷ [])
    else first_value a bytes)
