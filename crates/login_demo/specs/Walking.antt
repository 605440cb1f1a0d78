-- Where a path leads, and how a path is shown.
use Rattle.std.specs.Prelude.{ℕ, ◌-◌, ◌==◌, ◌||◌, bytes_eq, if◌then◌else◌, List, [], ◌∷◌, ◌++◌, flat_map, length, take, codes}
use Rattle.std.specs.List.{fold, slice_split}
use Rattle.unftp_control_defs.specs.Bytes.{Bytes}

abbrev pub SLASH : ℕ
SLASH = 47

-- The names of the parent. The root is its own, as in POSIX.
abbrev pub parent_names : List Bytes → List Bytes
parent_names names = take (length names - 1) names

-- an empty name and `.` lead nowhere else, and `..` leads to the parent
abbrev pub entered : List Bytes → Bytes → List Bytes
entered names name =
    if bytes_eq name [] || bytes_eq name (codes ".") then names
    else if bytes_eq name (codes "..") then parent_names names
    else names ++ name ∷ []

-- a path that begins with a slash leads from the root, and any other from the directory
abbrev pub start_names : List Bytes → Bytes → List Bytes
start_names directory [] = directory
start_names directory (b ∷ path) = if b == SLASH then [] else directory

-- the names to which a path leads from a directory
abbrev pub walked : List Bytes → Bytes → List Bytes
walked directory path =
    fold entered (start_names directory path) (slice_split (λ b. b == SLASH) path)

-- the path from the root
abbrev pub path_text : List Bytes → Bytes
path_text [] = codes "/"
path_text (name ∷ names) = flat_map (λ name. SLASH ∷ name) (name ∷ names)
