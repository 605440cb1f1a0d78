use Rattle.std.proofs.Common.{◌∷◌, [], refl}
use Rattle.std.specs.Str.{chars, is_utf8}
use Rattle.std.proofs.lemmas.Bool.{false≢true}
use Rattle.std.proofs.lemmas.Str.{is_utf8-from_IsUtf8}
use Rattle.unftp_control_c.proofs.examples.some_values_are_texts.Goals as goal

pub returns-clause-ill_formed_value : goal.returns-clause-ill_formed_value
unfolding is_utf8 chars lib.Utf8.encode
returns-clause-ill_formed_value c = λ texts.
    false≢true (is_utf8-from_IsUtf8 (255 ∷ []) (texts.1 refl))

pub returns-clause-ill_formed_name : goal.returns-clause-ill_formed_name
unfolding is_utf8 chars lib.Utf8.encode
returns-clause-ill_formed_name c = λ texts.
    false≢true (is_utf8-from_IsUtf8 (255 ∷ []) texts.0)
