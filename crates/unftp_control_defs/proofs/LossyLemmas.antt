-- A text whose ill-formed UTF-8 is replaced is UTF-8, and empty only where it was; the path of LIST
-- in UTF-8 is UTF-8.
use Rattle.std.proofs.Common.{◌≡◌, ◌≢◌, ◌≤◌, ◌<◌, ◌+◌, ◌*◌, ℕ, zero, suc, [], ◌∷◌, ◌++◌, length, take, drop, length-drop, refl, sym, subst, ⊎_elim, arith, append_assoc, take_all, drop_at, IsCharBoundary}
use Rattle.std.specs.Str.{IsUtf8, is_utf8, chars}
use Rattle.std.specs.Str.Lossy.{utf8_lossy, utf8_valid_len, valid_len_up_to, after_first_chunk, replacement_bytes, utf8_invalid_len, utf8_error_len}
use Rattle.std.proofs.lemmas.Bool.{cases_eq, cond_both}
use Rattle.std.proofs.lemmas.Bool.Decides.{nat_tests}
use Rattle.std.proofs.lemmas.Grind.{common_steps}
use Rattle.std.proofs.lemmas.List.{get_or_at, length_push, length-append, length-take}
use Rattle.std.proofs.lemmas.Str.{IsUtf8-nil, IsUtf8-append, IsUtf8-from_is_utf8, IsUtf8-drop, IsCharBoundary-after_ascii, utf8_valid_len_le, utf8_lossy-IsUtf8, utf8_lossy_step}
use Rattle.unftp_control_defs.specs.Bytes.{Bytes, SP}
use Rattle.unftp_control_defs.specs.Paths.{path_of}
use Rattle.unftp_control_defs.proofs.PathLemmas.{path_of-keeps}

-- the front that is UTF-8
valid_up_to : (text : Bytes) (n : ℕ) → IsUtf8 (take (valid_len_up_to text n) text)
valid_up_to text zero = IsUtf8-nil
valid_up_to text (suc n) = cond_both (is_utf8 (take (suc n) text)) (suc n) (valid_len_up_to text n)
    (λ k. IsUtf8 (take k text))
    (λ e. IsUtf8-from_is_utf8 (take (suc n) text) e) (λ _. valid_up_to text n)

valid_front : (text : Bytes) → IsUtf8 (take (utf8_valid_len text) text)
unfolding utf8_valid_len
valid_front text = valid_up_to text (length text)

mark : IsUtf8 replacement_bytes
unfolding is_utf8 chars lib.Utf8.encode
mark = IsUtf8-from_is_utf8 replacement_bytes refl

-- an ill-formed part has a byte
fault_has_byte : (text : Bytes) → 0 < length text → 0 < utf8_invalid_len text
unfolding utf8_error_len
fault_has_byte text some = grind (arith, common_steps, nat_tests)

shorter : (text : Bytes) → ¬ (utf8_valid_len text ≡ length text)
    → utf8_valid_len text + length (after_first_chunk text) < length text
shorter text faulty =
    let n : ℕ = utf8_valid_len text in
    let within : n ≤ length text = utf8_valid_len_le text in
    let invalid : 0 < utf8_invalid_len (drop n text) =
    fault_has_byte (drop n text) (omega (arith, length-drop n text)) in
    omega (arith, length-drop (n + utf8_invalid_len (drop n text)) text)

whole_text : (text : Bytes) → utf8_valid_len text ≡ length text → IsUtf8 text
whole_text text e = subst IsUtf8 (take_all (utf8_valid_len text) text (omega arith))
    (valid_front text)

-- What is so of a text in UTF-8, and of one whose first ill-formed part is replaced where it is so
-- of what follows, is so of every text whose ill-formed parts are.
module _ (P : Bytes → Bytes → Type 0) (whole : (text : Bytes) → IsUtf8 text → P text text)
    (faulty : (text more : Bytes)
    → utf8_valid_len text + length (after_first_chunk text) < length text
    → P (after_first_chunk text) more
    → P text (take (utf8_valid_len text) text ++ (replacement_bytes ++ more))) where
  lossy_whole : (text : Bytes) → utf8_valid_len text ≡ length text → P text (utf8_lossy text)
  lossy_whole text e = let utf8 = whole_text text e in
      subst (P text) (sym (utf8_lossy-IsUtf8 text utf8)) (whole text utf8)

  lossy_up_to : (k : ℕ) (text : Bytes) → length text ≤ k → P text (utf8_lossy text)
  lossy_up_to zero text h = lossy_whole text (omega (arith, h, utf8_valid_len_le text))
  lossy_up_to (suc k) text h = ⊎_elim (lossy_whole text)
      (λ fault. let less = shorter text fault in
      subst (P text) (sym (utf8_lossy_step text fault))
      (faulty text (utf8_lossy (after_first_chunk text)) less
      (lossy_up_to k (after_first_chunk text) (omega (arith, h, less)))))
      (cases_eq (utf8_valid_len text) (length text))

  pub utf8_lossy-keeps : (text : Bytes) → P text (utf8_lossy text)
  utf8_lossy-keeps text = lossy_up_to (length text) text (omega arith)

pub IsUtf8-utf8_lossy : (text : Bytes) → IsUtf8 (utf8_lossy text)
IsUtf8-utf8_lossy text = utf8_lossy-keeps (λ text found. IsUtf8 found) (λ text utf8. utf8)
    (λ text more less utf8.
    IsUtf8-append (take (utf8_valid_len text) text) (replacement_bytes ++ more) (valid_front text)
    (IsUtf8-append replacement_bytes more mark utf8)) text

not_ended : (front : Bytes) (b : ℕ) (more : Bytes) → front ++ b ∷ more ≢ []
not_ended [] b more e = cc
not_ended (a ∷ front) b more e = cc

pub kept-utf8_lossy : (text : Bytes) → text ≢ [] → utf8_lossy text ≢ []
kept-utf8_lossy text = utf8_lossy-keeps (λ text found. text ≢ [] → found ≢ []) (λ text utf8 some. some)
    (λ text more less kept some. not_ended (take (utf8_valid_len text) text) 239 (191 ∷ 189 ∷ more)) text

-- an ill-formed part has a byte at least, and three are written for it
pub length-utf8_lossy : (text : Bytes) → length (utf8_lossy text) ≤ 3 * length text
length-utf8_lossy text = utf8_lossy-keeps (λ text found. length found ≤ 3 * length text)
    (λ text utf8. omega arith)
    (λ text more less short.
    let n : ℕ = utf8_valid_len text in
    let rest = after_first_chunk text in
    let whole : length (take n text ++ (replacement_bytes ++ more))
    ≡ length (take n text) + (3 + length more) = simp length-append refl in
    let front = length-take n text in
    let back = length-drop (n + utf8_invalid_len (drop n text)) text in
    omega (arith, whole, front, back, less, short)) text

lossy_after_space : (front path : Bytes) → IsUtf8 (front ++ SP ∷ path) → IsUtf8 path
lossy_after_space front path u =
    let text : Bytes = front ++ SP ∷ path in
    let n : ℕ = length front in
    let space : IsCharBoundary text (n + 1) =
    IsCharBoundary-after_ascii text n u (omega (arith, length-append front (SP ∷ path)))
    (omega (arith, get_or_at front SP path 0 n refl)) in
    let rest : drop (n + 1) text ≡ path =
    rw (← append_assoc front (SP ∷ []) path)
    (drop_at (front ++ SP ∷ []) path (n + 1) (length_push front SP)) in
    subst IsUtf8 rest (IsUtf8-drop text (n + 1) u space)

pub IsUtf8-path_of : (text : Bytes) → IsUtf8 text → IsUtf8 (path_of text)
IsUtf8-path_of text u = path_of-keeps IsUtf8 IsUtf8-nil lossy_after_space text u
