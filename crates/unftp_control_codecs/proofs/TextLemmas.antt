-- The text of a value, and the path of LIST in it.
use Rattle.std.proofs.Common.{◌≡◌, ◌<◌, [], ◌∷◌, Some, length, option_map, sym, ap, subst, ◌∙◌, arith}
use Rattle.std.specs.Str.Lossy.{utf8_lossy}
use Rattle.std.proofs.lemmas.Str.{utf8_lossy-IsUtf8, utf8_lossy_empty}
use Rattle.unftp_control_defs.specs.Bytes.{Bytes}
use Rattle.unftp_control_defs.specs.FtpCommand.{maybe_text, unless_empty}
use Rattle.unftp_control_defs.specs.Rules.{optional_text}
use Rattle.unftp_control_defs.specs.Paths.{path_of}
use Rattle.unftp_control_defs.specs.Said.{KindSaysBack, SaysBack}
use Rattle.unftp_control_defs.specs.declared.verb.Kind.TheVariants as kinds
use Rattle.unftp_control_defs.specs.declared.verb.Verb.{Verb}
use Rattle.unftp_control_message.proofs.SentLemmas.{some_lossy}
use Rattle.unftp_control_codecs.proofs.LossyPathLemmas.{path_of-utf8_lossy}

-- what is read of a text
pub text_of : (v : Bytes) → optional_text v ≡ maybe_text (unless_empty (utf8_lossy v))
text_of v = ap maybe_text (by_bytes v)
  where
    by_text : (t : Bytes) → 0 < length t → Some t ≡ unless_empty t
    by_text [] some = absurd (omega arith)
    by_text (b ∷ t) some = λ i. Some (b ∷ t)

    by_bytes : (v : Bytes) → option_map utf8_lossy (unless_empty v) ≡ unless_empty (utf8_lossy v)
    by_bytes [] = ap unless_empty (sym (utf8_lossy_empty [] (λ i. 0)))
    by_bytes (b ∷ v) = by_text (utf8_lossy (b ∷ v)) (some_lossy (b ∷ v) (omega arith))

pub optional_says : (verb : Verb) (name : Bytes) → KindSaysBack kinds.OptionalText verb name → (v : Bytes)
    → SaysBack verb name (optional_text v)
optional_says verb name fits v =
    subst (SaysBack verb name) (sym (text_of v)) (fits (utf8_lossy v))

-- the path of LIST
pub path_text : (v : Bytes) → optional_text (path_of v)
    ≡ maybe_text (unless_empty (path_of (utf8_lossy v)))
path_text v = text_of (path_of v) ∙ ap (λ t. maybe_text (unless_empty t)) (sym (path_of-utf8_lossy v))

pub ruleset texts = (optional_says, path_text, utf8_lossy-IsUtf8)
