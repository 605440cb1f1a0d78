-- Each verb makes sound commands of what is read, and so of a value without LF.
use Rattle.std.proofs.Common.{◌≡◌, ◌≢◌, true, false, Bool, cond, List, [], ◌∷◌, Some, None, option_map, find, bytes_eq, codes, refl, sym, subst}
use lib.Pointwise.{bytes_decides}
use Rattle.std.specs.List.{AllByRecursion}
use Rattle.std.specs.Str.{IsUtf8}
use Rattle.std.proofs.lemmas.Str.{IsUtf8-nil}
use Rattle.unftp_control_defs.specs.Bytes.{Bytes}
use Rattle.unftp_control_defs.specs.FtpCommand.{Auth, Mode, Opts, Other, Pbsz, Prot, Site, Stru, Chosen, by_buffer_size, by_mechanism, by_mode, by_protection, by_setting, by_structure, command_by, verbs}
use Rattle.unftp_control_defs.specs.Rules.{row_of}
use Rattle.unftp_control_defs.specs.declared.parameters.Choice.TheVariants as choices
use Rattle.unftp_control_defs.specs.declared.verb.Verb.{Verb}
use Rattle.unftp_control_defs.specs.declared.verb.Verb.TheVariants as verb
use Rattle.unftp_control_defs.specs.Canonical.{IsUpperCaseName}
use Rattle.unftp_control_defs.proofs.SoundLemmas.{IsTyped-raw, Makes, named_text_makes, nothing_makes, number_makes, optional_raw_makes, optional_text_makes, raw_makes, sound, text_makes}

-- the row that is found, with its name
pub found : {A : Type 0} (P : Bytes → A → Type 0) (name : Bytes) (rows : List (Bytes × A)) {x : A}
    → AllByRecursion (λ row. P row.0 row.1) rows → row_of name rows ≡ Some x → P name x
found P name [] each e = cc
found P name (row ∷ rows) {x} each e =
    by_test (bytes_eq name row.0) refl (λ q. found P name rows each.1 q) e
  where
    by_test : (test : Bool) → bytes_eq name row.0 ≡ test → (row_of name rows ≡ Some x → P name x)
        → option_map (λ r. r.1) (cond test (Some row) (find (λ r. bytes_eq name r.0) rows)) ≡ Some x
        → P name x
    by_test true t more q =
        let same : row.1 ≡ x = cc in
        subst (P name) same
        (subst (λ n. P n row.1) (sym ((bytes_decides name row.0).0 t)) each.0)
    by_test false t more q = more q

-- the names that a verb's commands may have
abbrev pub IsNameOf : Verb → Bytes → Type 0
IsNameOf verb.Site name = IsUpperCaseName name × (name ≢ codes "MD5") × IsUtf8 name
IsNameOf verb.Other name = IsUpperCaseName name × (row_of name verbs ≡ None) × IsUtf8 name
IsNameOf _ name = name ≡ []

by_structure_makes : (name : Bytes) → Makes (by_structure name)
by_structure_makes name (Chosen (choices.Structure structure)) command is e = sound (Stru structure) command (tt, tt) e
by_structure_makes name value command is e = cc

by_mode_makes : (name : Bytes) → Makes (by_mode name)
by_mode_makes name (Chosen (choices.Mode mode)) command is e = sound (Mode mode) command (tt, tt) e
by_mode_makes name value command is e = cc

by_protection_makes : (name : Bytes) → Makes (by_protection name)
by_protection_makes name (Chosen (choices.Protection protection)) command is e = sound (Prot protection) command (tt, tt) e
by_protection_makes name value command is e = cc

by_mechanism_makes : (name : Bytes) → Makes (by_mechanism name)
by_mechanism_makes name (Chosen (choices.Mechanism mechanism)) command is e = sound (Auth mechanism) command (tt, tt) e
by_mechanism_makes name value command is e = cc

by_setting_makes : (name : Bytes) → Makes (by_setting name)
by_setting_makes name (Chosen (choices.Setting setting)) command is e = sound (Opts setting) command (tt, tt) e
by_setting_makes name value command is e = cc

by_buffer_size_makes : (name : Bytes) → Makes (by_buffer_size name)
by_buffer_size_makes name (Chosen choices.NoBuffer) command is e = sound Pbsz command (tt, tt) e
by_buffer_size_makes name value command is e = cc

pub verb_makes : (verb : Verb) (name : Bytes) → IsNameOf verb name → Makes (command_by verb name)
verb_makes verb.Site name is = named_text_makes Site name
    (λ text h utf8. ((is.0, is.1, h), (is.2, utf8)))
verb_makes verb.Other name is = named_text_makes Other name
    (λ text h utf8. ((is.0, is.1, h), (is.2, utf8)))
verb_makes verb name is = search (
  nothing_makes,
  raw_makes,
  optional_raw_makes,
  text_makes,
  optional_text_makes,
  number_makes,
  IsTyped-raw,
  by_structure_makes,
  by_mode_makes,
  by_protection_makes,
  by_mechanism_makes,
  by_setting_makes,
  by_buffer_size_makes,
)

empty_name : IsNameOf verb.Site []
empty_name = (tt, (λ e. cc), IsUtf8-nil)

all_unnamed : AllByRecursion (λ row. IsNameOf row.1 []) verbs
all_unnamed = search empty_name

-- the verb of a word has no name
pub unnamed : (word : Bytes) {verb : Verb} → row_of word verbs ≡ Some verb → IsNameOf verb []
unnamed word is = found (λ word verb. IsNameOf verb []) word verbs all_unnamed is
