-- The path of LIST: the words at its start that begin with a dash are options for a listing, as those
-- of `ls`, and are dropped (no RFC has them; clients send them). `--` ends the options, and is dropped
-- too. One space ends each word; further spaces are part of the path.
use Rattle.std.specs.Prelude.{◌≡◌, ◌≢◌, Bool, true, false, not, ◌==◌, if◌then◌else◌, List, [], ◌∷◌, ◌++◌, flat_map, ◌⊎◌, bytes_eq, nat_eq, drop}
use Rattle.std.specs.List.{AllByRecursion, starts_with}
use Rattle.unftp_control_defs.specs.Bytes.{Bytes, SP, DASH, Lacks}

-- begins with '-', has no space and is not "--"
pub record IsOptionWord (word : Bytes) : Type 0 where
  pub letters : Bytes
  pub dash : word ≡ DASH ∷ letters
  pub one_word : Lacks SP word
  pub not_end : word ≢ DASH ∷ DASH ∷ []

abbrev pub with_space : Bytes → Bytes
with_space word = word ++ SP ∷ []

-- what comes after the option words: a path that does not begin with a dash; "-- " and a path; or
-- one more word with a dash, and no path
abbrev pub EndsInPath : Bytes → Bytes → Type 0
EndsInPath tail path = ((tail ≡ path) × ((letters : Bytes) → path ≢ DASH ∷ letters))
    ⊎ ((tail ≡ DASH ∷ DASH ∷ SP ∷ path)
    ⊎ ((path ≡ []) × (IsOptionWord tail ⊎ (tail ≡ DASH ∷ DASH ∷ []))))

pub record ListPath (text path : Bytes) : Type 0 where
  pub options : List Bytes
  pub tail : Bytes
  pub each : AllByRecursion IsOptionWord options
  pub whole : text ≡ flat_map with_space options ++ tail
  pub end : EndsInPath tail path

-- The path of LIST, computed; in_word: within an option word, up to the space after it.
abbrev pub path_from : Bool → Bytes → Bytes
path_from in_word [] = []
path_from true (b ∷ bytes) = path_from (not (b == SP)) bytes
path_from false (b ∷ bytes) = if not (b == DASH) then b ∷ bytes
    else (if bytes_eq bytes (DASH ∷ []) then []
    else (if starts_with nat_eq bytes (DASH ∷ SP ∷ []) then drop 2 bytes
    else path_from true bytes))

abbrev pub path_of : Bytes → Bytes
path_of text = path_from false text
