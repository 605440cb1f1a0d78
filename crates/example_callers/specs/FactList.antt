-- Which facts OPTS MLST asks for (RFC 3659, section 7.9).
use Rattle.std.specs.Prelude.{ℕ, Bool, ◌==◌, if◌then◌else◌, [], ◌∷◌, ◌++◌, take, drop, Option, Some, None, option_map, bytes_eq, codes}
use Rattle.std.specs.List.{list_any, slice_split}
use Rattle.std.specs.Str.{str_to_ascii_lowercase}
use Rattle.unftp_control_defs.specs.Bytes.{Bytes, SP}
use Rattle.example_callers.specs.declared.fact_list.Facts.{Facts}

-- the case of letters is ignored (RFC 959, section 5.3)
abbrev pub same_letters : Bytes → Bytes → Bool
same_letters name other = bytes_eq (str_to_ascii_lowercase name) (str_to_ascii_lowercase other)

abbrev pub SEMICOLON : ℕ
SEMICOLON = 59

-- a name of the list, in which semicolons divide them, is this one: the last may lack the semicolon
-- that the standard puts after each
abbrev pub names : Bytes → Bytes → Bool
names list fact = list_any (λ name. same_letters name fact)
    (slice_split (λ byte. byte == SEMICOLON) list)

-- those of the facts that this server has
abbrev pub facts_in : Bytes → Facts
facts_in list = record {
  kind = names list (codes "type");
  size = names list (codes "size");
  modify = names list (codes "modify");
}

-- after the words: nothing, or a space and the list
abbrev pub list_after : Bytes → Option Bytes
list_after [] = Some []
list_after (byte ∷ list) = if byte == SP then Some list else None

abbrev pub facts_asked : Bytes → Option Facts
facts_asked text = if same_letters (take 9 text) (codes "OPTS MLST")
    then option_map facts_in (list_after (drop 9 text)) else None

-- The reply names the facts that listings will have.
abbrev pub name_where : Bool → Bytes → Bytes
name_where is_wanted name = if is_wanted then name else []

abbrev pub after_space_if_any : Bytes → Bytes
after_space_if_any [] = []
after_space_if_any (byte ∷ list) = SP ∷ byte ∷ list

abbrev pub facts_text : Facts → Bytes
facts_text facts = codes "MLST OPTS" ++ after_space_if_any (name_where facts.kind (codes "type;")
    ++ name_where facts.size (codes "size;") ++ name_where facts.modify (codes "modify;"))
