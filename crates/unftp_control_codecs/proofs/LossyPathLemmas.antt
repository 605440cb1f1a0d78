-- The path of LIST in a text whose ill-formed UTF-8 is replaced is the text of that in the bytes.
use Rattle.std.proofs.Common.{◌≡◌, ◌⊎◌, inl, inr, ℕ, zero, suc, ◌+◌, ◌-◌, ◌≤◌, ◌<◌, true, [], ◌∷◌, ◌++◌, length, take, drop, get_or, refl, sym, ap, subst, ◌∙◌, arith, append_assoc, length-append, length-drop, take_all, ⊎_elim}
use Rattle.std.specs.Str.{IsUtf8, is_utf8, IsValidUpTo}
use Rattle.std.specs.Str.Lossy.{utf8_lossy, utf8_valid_len, valid_len_up_to, replacement_bytes, utf8_invalid_len, utf8_error_len}
use Rattle.std.proofs.lemmas.Bool.{cases_eq, cases_lt, cond_both, false≢true}
use Rattle.std.proofs.lemmas.Bool.Decides.{nat_tests}
use Rattle.std.proofs.lemmas.Grind.{common_steps}
use Rattle.std.proofs.lemmas.List.{take_at, drop_at, take-append-le, drop-append-le, get_or_at}
use Rattle.std.proofs.Math.Seq.{take-append-add, drop-append-add}
use Rattle.std.proofs.lemmas.Str.{IsUtf8-nil, IsUtf8-append, IsUtf8-encode, IsUtf8-take, IsUtf8-drop, IsUtf8-from_is_utf8, is_utf8-from_IsUtf8, IsCharBoundary-before_ascii, IsCharBoundary-from_take, utf8_valid_len-IsUtf8, utf8_valid_len-IsValidUpTo, utf8_lossy-IsUtf8, utf8_lossy_empty, utf8_lossy_step, encode_ascii}
use lib.Utf8.{low_scalar}
use Rattle.unftp_control_defs.specs.Bytes.{Bytes, SP, DASH}
use Rattle.unftp_control_defs.specs.Paths.{path_of}
use Rattle.unftp_control_defs.proofs.LackLemmas.{Lacks-utf8_lossy}
use Rattle.unftp_control_defs.proofs.LossyLemmas.{kept-utf8_lossy, utf8_lossy-keeps}
use Rattle.unftp_control_codecs.proofs.SentPathLemmas.{path_of-kept}

-- a front that is UTF-8, and no longer one is
longest_front : (text : Bytes) (m : ℕ) → IsUtf8 (take (valid_len_up_to text m) text)
    × ((k : ℕ) → valid_len_up_to text m < k → k ≤ m → ¬ (IsUtf8 (take k text)))
longest_front text zero = (IsUtf8-nil, λ k above within. absurd (omega arith))
longest_front text (suc m) =
    cond_both (is_utf8 (take (suc m) text)) (suc m) (valid_len_up_to text m)
    (λ n. IsUtf8 (take n text) × ((k : ℕ) → n < k → k ≤ suc m → ¬ (IsUtf8 (take k text))))
    (λ utf8. (IsUtf8-from_is_utf8 (take (suc m) text) utf8, λ k above within. absurd (omega arith)))
    (λ ill. let shorter = longest_front text m in (
      shorter.0,
      λ k above within utf8. ⊎_elim
          (λ same. false≢true (sym ill ∙ subst (λ k. is_utf8 (take k text) ≡ true) same
          (is_utf8-from_IsUtf8 (take k text) utf8)))
          (λ other. shorter.1 k above (omega arith) utf8)
          (cases_eq k (suc m)),
    ))

text_or_fault : (text : Bytes) → IsUtf8 text ⊎ IsValidUpTo text (utf8_valid_len text)
unfolding utf8_valid_len
text_or_fault text = let front = longest_front text (length text) in ⊎_elim
    (λ short. inr (record {
      short = short;
      front = front.0;
      longest = λ m above utf8. ⊎_elim
          (λ past. front.1 (length text) short (omega arith) (subst IsUtf8
          (take_all m text (omega arith) ∙ sym (take_all (length text) text (omega arith))) utf8))
          (λ within. front.1 m above within utf8)
          (cases_lt (length text) m);
    }))
    (λ whole. inl (subst IsUtf8 (take_all _ text whole) front.0))
    (cases_lt (utf8_valid_len text) (length text))

-- where its first ill-formed part is at n
lossy_at : (text : Bytes) (n : ℕ) → IsValidUpTo text n → utf8_lossy text ≡ take n text
    ++ (replacement_bytes ++ utf8_lossy (drop (n + utf8_invalid_len (drop n text)) text))
lossy_at text n v =
    let at = utf8_valid_len-IsValidUpTo text n v in
    utf8_lossy_step text (λ e. omega (arith, v.short, at, e))
    ∙ ap (λ n. take n text
    ++ (replacement_bytes ++ utf8_lossy (drop (n + utf8_invalid_len (drop n text)) text))) at

-- after a front that is UTF-8
module _ (front : Bytes) (utf8 : IsUtf8 front) where
  utf8_after : (more : Bytes) → IsUtf8 (front ++ more) → IsUtf8 more
  utf8_after more whole = subst IsUtf8 (drop_at front more (length front) refl)
      (IsUtf8-drop (front ++ more) (length front) whole
      (IsCharBoundary-from_take (front ++ more) (length front) whole
      (omega (arith, length-append front more))
      (subst IsUtf8 (sym (take_at front more (length front) refl)) utf8)))

  fault_later : (more : Bytes) (n : ℕ) → IsValidUpTo more n
      → IsValidUpTo (front ++ more) (length front + n)
  fault_later more n v = record {
    short = omega (arith, length-append front more, v.short);
    front = subst IsUtf8 (sym (take-append-add front more n))
        (IsUtf8-append front (take n more) utf8 v.front);
    longest = λ m above text.
        let rest : ℕ = m - length front in
        let sum : length front + rest ≡ m = omega arith in
        v.longest rest (omega arith) (utf8_after (take rest more) (subst IsUtf8
        (ap (λ n. take n (front ++ more)) (sym sum) ∙ take-append-add front more rest) text));
  }

  utf8_lossy-front : (more : Bytes) → utf8_lossy (front ++ more) ≡ front ++ utf8_lossy more
  utf8_lossy-front more = ⊎_elim
      (λ text. utf8_lossy-IsUtf8 (front ++ more) (IsUtf8-append front more utf8 text)
      ∙ ap (λ t. front ++ t) (sym (utf8_lossy-IsUtf8 more text)))
      (λ v.
      let n = utf8_valid_len more in
      let k = utf8_invalid_len (drop n more) in
      let sum : length front + n + k ≡ length front + (n + k) = omega arith in
      let rest : drop (length front + n + k) (front ++ more) ≡ drop (n + k) more =
      ap (λ j. drop j (front ++ more)) sum ∙ drop-append-add front more (n + k) in
      lossy_at (front ++ more) (length front + n) (fault_later more n v)
      ∙ ap (λ x. take (length front + n) (front ++ more) ++ (replacement_bytes
      ++ utf8_lossy (drop (length front + n + utf8_invalid_len x) (front ++ more))))
      (drop-append-add front more n)
      ∙ (λ i. take-append-add front more n i ++ (replacement_bytes ++ utf8_lossy (rest i)))
      ∙ append_assoc front (take n more) (replacement_bytes ++ utf8_lossy (drop (n + k) more))
      ∙ ap (λ t. front ++ t) (sym (lossy_at more n v)))
      (text_or_fault more)

-- A byte of ASCII is no part of another character, nor of what U+FFFD replaces.
module _ (b : ℕ) (low : b < 128) (more : Bytes) where
  record SameFault (rest : Bytes) : Type 0 where
    within : utf8_invalid_len rest ≤ length rest
    same : utf8_invalid_len (rest ++ b ∷ more) ≡ utf8_invalid_len rest

  same_fault : (rest : Bytes) → 0 < length rest → SameFault rest
  unfolding utf8_error_len
  same_fault [] some = absurd (omega arith)
  same_fault (x ∷ []) some = record {
    within = grind (arith, common_steps, nat_tests);
    same = grind (arith, common_steps, nat_tests);
  }
  same_fault (x ∷ y ∷ []) some = record {
    within = grind (arith, common_steps, nat_tests);
    same = grind (arith, common_steps, nat_tests);
  }
  same_fault (x ∷ y ∷ z ∷ []) some = record {
    within = grind (arith, common_steps, nat_tests);
    same = grind (arith, common_steps, nat_tests);
  }
  same_fault (x ∷ y ∷ z ∷ w ∷ rest) some = record {
    within = grind (arith, common_steps, nat_tests);
    same = grind (arith, common_steps, nat_tests);
  }

  fault_before : (text : Bytes) (n : ℕ) → IsValidUpTo text n → IsValidUpTo (text ++ b ∷ more) n
  fault_before text n v =
      let short = v.short in
      record {
        short = omega (arith, length-append text (b ∷ more));
        front = subst IsUtf8 (sym (take-append-le n text (b ∷ more) (omega arith))) v.front;
        longest = λ m above utf8. ⊎_elim
            (λ past.
            let i : ℕ = m - length text - 1 in
            let sum : length text + suc i ≡ m = omega arith in
            let x : Bytes = take i more in
            let whole : IsUtf8 (text ++ b ∷ x) = subst IsUtf8
            (ap (λ m. take m (text ++ b ∷ more)) (sym sum)
            ∙ take-append-add text (b ∷ more) (suc i)) utf8 in
            let before = IsCharBoundary-before_ascii (text ++ b ∷ x) (length text)
            (omega (arith, length-append text (b ∷ x)))
            (omega (arith, get_or_at text b x 0 (length text) refl, low)) in
            v.longest (length text) short (subst IsUtf8
            (take_at text (b ∷ x) (length text) refl
            ∙ sym (take_all (length text) text (omega arith)))
            (IsUtf8-take (text ++ b ∷ x) (length text) whole before)))
            (λ within. v.longest m above
            (subst IsUtf8 (take-append-le m text (b ∷ more) within) utf8))
            (cases_lt (length text) m);
      }

  pub utf8_lossy-split : (text : Bytes)
      → utf8_lossy (text ++ b ∷ more) ≡ utf8_lossy text ++ b ∷ utf8_lossy more
  utf8_lossy-split = utf8_lossy-keeps
      (λ text found. utf8_lossy (text ++ b ∷ more) ≡ found ++ b ∷ utf8_lossy more)
      (λ text utf8. ap utf8_lossy (sym (append_assoc text (b ∷ []) more))
      ∙ utf8_lossy-front (text ++ b ∷ []) (IsUtf8-append text (b ∷ []) utf8
      (subst IsUtf8 (encode_ascii b low) (IsUtf8-encode b (low_scalar b (omega arith))))) more
      ∙ append_assoc text (b ∷ []) (utf8_lossy more))
      (λ text found less is. ⊎_elim
      (λ utf8. absurd (omega (arith, utf8_valid_len-IsUtf8 text utf8, less)))
      (λ v.
      let whole = text ++ b ∷ more in
      let n = utf8_valid_len text in
      let k = utf8_invalid_len (drop n text) in
      let short = v.short in
      let fault = same_fault (drop n text) (omega (arith, length-drop n text)) in
      let within : n + k ≤ length text = omega (arith, fault.within, length-drop n text) in
      let rest = ap (λ x. drop (n + utf8_invalid_len x) whole)
      (drop-append-le n text (b ∷ more) (omega arith))
      ∙ ap (λ k. drop (n + k) whole) fault.same ∙ drop-append-le (n + k) text (b ∷ more) within in
      lossy_at whole n (fault_before text n v)
      ∙ (λ i. take-append-le n text (b ∷ more) (omega arith) i
      ++ (replacement_bytes ++ utf8_lossy (rest i)))
      ∙ ap (λ t. take n text ++ (replacement_bytes ++ t)) is
      ∙ sym (append_assoc (take n text) (replacement_bytes ++ found) (b ∷ utf8_lossy more)))
      (text_or_fault text))

utf8_lossy-ascii : (b : ℕ) (t : Bytes) → b < 128 → utf8_lossy (b ∷ t) ≡ b ∷ utf8_lossy t
utf8_lossy-ascii b t low = utf8_lossy-split b low t []
    ∙ ap (λ none. none ++ b ∷ utf8_lossy t) (utf8_lossy_empty [] refl)

first_high : (text : Bytes) → 128 ≤ get_or text 0 0 → 128 ≤ get_or (utf8_lossy text) 0 0
first_high = utf8_lossy-keeps (λ text found. 128 ≤ get_or text 0 0 → 128 ≤ get_or found 0 0)
    (λ text utf8 high. high)
    (λ text found less kept high. front (utf8_valid_len text) text found high)
  where
    front : (n : ℕ) (text found : Bytes) → 128 ≤ get_or text 0 0
        → 128 ≤ get_or (take n text ++ (replacement_bytes ++ found)) 0 0
    front zero text found high = omega arith
    front (suc n) [] found high = absurd (omega arith)
    front (suc n) (b ∷ text) found high = high

first_dash : (t letters : Bytes) → utf8_lossy t ≡ DASH ∷ letters
    → (more : Bytes) × (t ≡ DASH ∷ more)
first_dash [] letters e = let none = utf8_lossy_empty [] refl in cc
first_dash (b ∷ t) letters e = ⊎_elim
    (λ low.
    let step = utf8_lossy-ascii b t low in
    let is : b ≡ DASH = cc in
    (t, ap (λ b. b ∷ t) is))
    (λ high. absurd (omega (arith, first_high (b ∷ t) high, ap (λ t. get_or t 0 0) e)))
    (cases_lt b 128)

ended : (t : Bytes) → utf8_lossy t ≡ [] → t ≡ []
ended [] e = refl
ended (b ∷ t) e = absurd (kept-utf8_lossy (b ∷ t) (λ none. cc) e)

pub path_of-utf8_lossy : (bytes : Bytes) → path_of (utf8_lossy bytes) ≡ utf8_lossy (path_of bytes)
path_of-utf8_lossy = path_of-kept utf8_lossy (record {
  nothing = utf8_lossy_empty [] refl;
  dash = λ t. utf8_lossy-ascii DASH t (omega arith);
  space = λ front more. utf8_lossy-split SP (omega arith) more front;
  no_space = Lacks-utf8_lossy SP (omega arith);
  first = first_dash;
  ended = ended;
})
