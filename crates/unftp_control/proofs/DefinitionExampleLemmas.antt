-- What the examples share.
use Rattle.std.proofs.Common.{[], ◌∷◌, refl, sym, true≢false, IsUtf8}
use Rattle.std.specs.Str.{is_utf8, chars}
use Rattle.std.proofs.lemmas.Str.{IsUtf8-from_is_utf8, is_utf8-from_IsUtf8}

-- U+00E9, and a byte that no character has
pub letter_IsUtf8 : IsUtf8 (195 ∷ 169 ∷ [])
unfolding is_utf8 chars lib.Utf8.encode
letter_IsUtf8 = IsUtf8-from_is_utf8 (195 ∷ 169 ∷ []) refl

pub not_IsUtf8 : ¬ IsUtf8 (255 ∷ [])
unfolding is_utf8 chars lib.Utf8.encode
not_IsUtf8 utf8 = true≢false (sym (is_utf8-from_IsUtf8 (255 ∷ []) utf8))
