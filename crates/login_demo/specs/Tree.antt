-- The tree: its directories and files, each by its names from the root.
use Rattle.std.specs.Prelude.{ℕ, Bool, bytes_eq, List, [], ◌∷◌, Option, codes}
use Rattle.std.specs.List.{find}
use Rattle.std.specs.Cmp.Lexicographic.{pointwise}
use Rattle.unftp_control_defs.specs.Bytes.{Bytes}
use Rattle.login_demo.specs.declared.tree.Directory.TheVariants.{Root, Pub, Notes, Quoted}
use Rattle.login_demo.specs.declared.tree.File.{File}
use Rattle.login_demo.specs.declared.tree.File.TheVariants.{Readme, Today}
use Rattle.login_demo.specs.declared.tree.Entry.{Entry}
use Rattle.login_demo.specs.declared.tree.Entry.TheVariants as entry

-- the names of an entry from the root
abbrev pub entry_names : Entry → List Bytes
entry_names (entry.Directory Root) = []
entry_names (entry.Directory Pub) = codes "pub" ∷ []
entry_names (entry.Directory Notes) = codes "pub" ∷ codes "notes" ∷ []
entry_names (entry.Directory Quoted) = codes "pub" ∷ codes "a \"quoted\" name" ∷ []
entry_names (entry.File Readme) = codes "pub" ∷ codes "readme.txt" ∷ []
entry_names (entry.File Today) = codes "pub" ∷ codes "notes" ∷ codes "today.txt" ∷ []

abbrev pub all_entries : List Entry
all_entries =
    entry.Directory Root ∷ entry.Directory Pub ∷ entry.Directory Notes ∷ entry.Directory Quoted
    ∷ entry.File Readme ∷ entry.File Today ∷ []

-- whether these are the entry's names from the root
abbrev pub has_names : List Bytes → Entry → Bool
has_names names one = pointwise bytes_eq (entry_names one) names

-- the entry with these names, if there is one
abbrev pub entry_at : List Bytes → Option Entry
entry_at names = find (has_names names) all_entries

-- the size of a file in bytes
abbrev pub file_size : File → ℕ
file_size Readme = 1234
file_size Today = 0

-- the second of UTC in which it was last modified, as YYYYMMDDHHMMSS (RFC 3659, section 2.3)
abbrev pub file_time : File → Bytes
file_time Readme = codes "20240229123456"
file_time Today = codes "20260101000000"
