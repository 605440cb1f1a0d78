-- Runs of bytes that are written as they are, and what comes after them.
use Rattle.std.proofs.Common.{Bool, not, ◌≡◌, ℕ, zero, suc, ◌+◌, ◌*◌, ◌&&◌, cond, ◌<◌, ◌≤◌, true, false, ◌==◌, if◌then◌else◌, [], ◌∷◌, ◌++◌, length, take, drop, get_or, Option, Some, None, option_map, refl, sym, ap, subst, ◌∙◌, ⊎_elim, append_assoc, append-nil, length-drop, get_or-drop, arith, eqb-true}
use Rattle.std.proofs.lemmas.List.{drop-drop}
use Rattle.std.proofs.lemmas.Bool.{false_from_ne_true, or_cases, or_parts}
use Rattle.std.proofs.Math.Bool.{and-false}
use Rattle.std.proofs.Math.Seq.{take-add}
use Rattle.unftp_control_defs.specs.Bytes.{Bytes, NUL, LF, CR, crlf}
use Rattle.unftp_control_defs.specs.ComputedValue.{After, Fresh, Plain, byte_then, later_value, value_of}
use Rattle.unftp_control_message.specs.SentValues.{begins_with_cr_nul, cr_nul_count, unescaped}
use Rattle.unftp_control_message.proofs.SentLemmas.{cr_nul_front, lacks_before, unescaped_front, unescaped_lacking}
use Rattle.unftp_control_codecs.specs.Values.{ends_run, begins_with_line_end, IsFirstLen, IsLaterLen, IsPlainEnd, IsRunEnd, LacksRunEnd, Resumes}

option_nil : (o : Option Bytes) → o ≡ option_map (λ w. [] ++ w) o
option_nil None = refl
option_nil (Some v) = refl

option_joined : (v w : Bytes) (o : Option Bytes)
    → option_map (λ x. v ++ x) (option_map (λ x. w ++ x) o) ≡ option_map (λ x. (v ++ w) ++ x) o
option_joined v w None = refl
option_joined v w (Some x) = ap Some (sym (append_assoc v w x))

skip : (bytes : Bytes) (n : ℕ) → n ≤ length bytes → LacksRunEnd bytes 0 n
    → later_value Plain bytes ≡ option_map (λ w. take n bytes ++ w)
    (later_value Plain (drop n bytes))
skip bytes zero h none = option_nil (later_value Plain bytes)
skip [] (suc n) h none = absurd (omega arith)
skip (b ∷ bytes) (suc n) h none =
    let on = or_parts (b == CR) (b == LF)
    (false_from_ne_true (ends_run b) (none 0 (omega arith) (omega arith))) in
    let more = skip bytes n (omega arith) (λ k _ lt. none (suc k) (omega arith) (omega arith)) in
    rw (on.0, on.1) (ap (byte_then b) more
    ∙ option_joined (b ∷ []) (take n bytes) (later_value Plain (drop n bytes)))

-- a run that ends at the first byte that stops one
pub run_end : (bytes : Bytes) (n : ℕ) → n ≤ length bytes → LacksRunEnd bytes 0 n
    → (n < length bytes → ends_run (get_or bytes n 0) ≡ true) → IsPlainEnd bytes n
run_end bytes n within none stop = record {
  within = within;
  goes_on = skip bytes n within none;
  stop = stop;
  no_return = lacks_before ends_run refl bytes n within none;
}

-- a value with no CR and no LF, and its line end
later_value-usual : (fresh : Bool) (value : Bytes) → LacksRunEnd value 0 (length value)
    → later_value (After fresh) (value ++ crlf) ≡ Some value
later_value-usual fresh [] none = refl
later_value-usual fresh (b ∷ value) none =
    let on = or_parts (b == CR) (b == LF)
    (false_from_ne_true (ends_run b) (none 0 (omega arith) (omega arith))) in
    rw (on.0, on.1, and-false (not fresh)) (ap (byte_then b) (later_value-usual false value
    (λ k _ lt. none (suc k) (omega arith) (omega arith))))

pub value_of-usual : (value : Bytes) → LacksRunEnd value 0 (length value)
    → value_of (value ++ crlf) ≡ Some value
value_of-usual [] none = refl
value_of-usual (a ∷ []) none =
    let on = or_parts (a == CR) (a == LF)
    (false_from_ne_true (ends_run a) (none 0 (omega arith) (omega arith))) in
    rw (on.0, on.1) refl
value_of-usual (a ∷ b ∷ value) none =
    let on = or_parts (a == CR) (a == LF)
    (false_from_ne_true (ends_run a) (none 0 (omega arith) (omega arith))) in
    let next = or_parts (b == CR) (b == LF)
    (false_from_ne_true (ends_run b) (none 1 (omega arith) (omega arith))) in
    rw (on.0, on.1, next.1) (ap (byte_then a) (later_value-usual true (b ∷ value)
    (λ k _ lt. none (suc k) (omega arith) (omega arith))))

-- at the end of the bytes, or at one that stops a run
abbrev Ends : Bytes → Type 0
Ends rest = later_value Plain rest ≡ (if begins_with_line_end rest then Some []
    else (if begins_with_cr_nul rest then byte_then CR (later_value Fresh (drop 2 rest)) else None))

ends_at_cr : (rest : Bytes) → Ends (CR ∷ rest)
ends_at_cr [] = refl
ends_at_cr (b ∷ rest) = refl

ends_at_lf : (rest : Bytes) → Ends (LF ∷ rest)
ends_at_lf [] = refl
ends_at_lf (b ∷ rest) = refl

ends : (rest : Bytes) → (0 < length rest → ends_run (get_or rest 0 0) ≡ true) → Ends rest
ends [] stop = refl
ends (a ∷ rest) stop = ⊎_elim
    (λ t. subst (λ b. Ends (b ∷ rest)) (sym (eqb-true a CR t)) (ends_at_cr rest))
    (λ t. subst (λ b. Ends (b ∷ rest)) (sym (eqb-true a LF t)) (ends_at_lf rest))
    (or_cases (a == CR) (a == LF) (stop (omega arith)))

module _ (bytes : Bytes) (n : ℕ) (run : IsRunEnd Fresh bytes n) where
  abbrev rest : Bytes
  rest = drop n bytes

  stop : 0 < length rest → ends_run (get_or rest 0 0) ≡ true
  stop some = let k : n + 0 ≡ n = omega arith in
      ap ends_run (get_or-drop n bytes 0 0 ∙ ap (λ k. get_or bytes k 0) k)
      ∙ run.stop (omega (arith, length-drop n bytes, some))

  goes_on : later_value Fresh bytes ≡ option_map (λ w. take n bytes ++ w)
      (if begins_with_line_end rest then Some []
      else (if begins_with_cr_nul rest then byte_then CR (later_value Fresh (drop 2 rest))
      else None))
  goes_on = run.goes_on ∙ ap (option_map (λ w. take n bytes ++ w)) (ends rest stop)

  pub later_value-line_end : begins_with_line_end rest ≡ true
      → later_value Fresh bytes ≡ Some (take n bytes)
  later_value-line_end line_end = goes_on ∙ rw line_end (ap Some (append-nil (take n bytes)))

  pub IsLaterLen-line_end : begins_with_line_end rest ≡ true → IsLaterLen bytes (Some n)
  IsLaterLen-line_end line_end = (
    run.within,
    later_value-line_end line_end
        ∙ ap Some (sym (unescaped_lacking (take n bytes) run.no_return)),
  )

  module _ (no_end : begins_with_line_end rest ≡ false) where
    pub IsLaterLen-invalid : begins_with_cr_nul rest ≡ false → IsLaterLen bytes None
    IsLaterLen-invalid no_cr_nul = goes_on ∙ rw (no_end, no_cr_nul) refl

    pub IsLaterLen-cr_nul : begins_with_cr_nul rest ≡ true → (later : Option ℕ)
        → IsLaterLen (drop 2 rest) later → IsLaterLen bytes (option_map (λ m. n + 2 + m) later)
    IsLaterLen-cr_nul cr_nul None is = goes_on ∙ rw (no_end, cr_nul, is) refl
    IsLaterLen-cr_nul cr_nul (Some m) is =
        let front = cr_nul_front rest cr_nul in
        let sum : n + 2 + m ≡ n + suc (suc m) = omega arith in
        let sent : take (n + 2 + m) bytes ≡ take n bytes ++ CR ∷ NUL ∷ take m (drop 2 rest) =
        ap (λ k. take k bytes) sum ∙ take-add n (suc (suc m)) bytes
        ∙ ap (λ t. take n bytes ++ t) (ap (take (suc (suc m))) front) in (
          omega (arith, is.0, ap length front, length-drop n bytes, run.within),
          goes_on ∙ rw (no_end, cr_nul, is.1) (ap Some (sym (ap unescaped sent
              ∙ unescaped_front (take n bytes) (CR ∷ NUL ∷ take m (drop 2 rest)) run.no_return))),
        )

-- a CR NUL that comes first
pub IsLaterLen-cr_nul_first : (bytes : Bytes) → begins_with_cr_nul bytes ≡ true
    → (later : Option ℕ) → IsLaterLen (drop 2 bytes) later
    → IsLaterLen bytes (option_map (λ m. 2 + m) later)
IsLaterLen-cr_nul_first bytes begins later is =
    let front = cr_nul_front bytes begins in
    subst (λ b. IsLaterLen b (option_map (λ m. 2 + m) later)) (sym front)
    (IsLaterLen-cr_nul (CR ∷ NUL ∷ drop 2 bytes) 0 (record {
      within = omega arith;
      goes_on = option_nil (later_value Plain (CR ∷ NUL ∷ drop 2 bytes));
      stop = λ some. refl;
      no_return = tt;
    }) refl refl later is)

-- bytes before such a length
pub lens_added : (len n : ℕ) (later : Option ℕ)
    → option_map (λ m. len + m) (option_map (λ m. n + m) later)
    ≡ option_map (λ m. len + n + m) later
lens_added len n None = refl
lens_added len n (Some m) = ap Some (omega arith)

len_nil : (later : Option ℕ) → later ≡ option_map (λ m. 0 + m) later
len_nil None = refl
len_nil (Some m) = ap Some (omega arith)

-- a run of CR NUL that comes first
pub IsLaterLen-run : (bytes : Bytes) (later : Option ℕ)
    → IsLaterLen (drop (2 * cr_nul_count bytes) bytes) later
    → IsLaterLen bytes (option_map (λ m. 2 * cr_nul_count bytes + m) later)
IsLaterLen-run [] later is = subst (IsLaterLen []) (len_nil later) is
IsLaterLen-run (a ∷ []) later is = subst (IsLaterLen (a ∷ [])) (len_nil later) is
IsLaterLen-run (a ∷ b ∷ bytes) later is =
    by_test (IsLaterLen-run bytes later) ((a == CR) && (b == NUL)) refl is
  where
    by_test : (IsLaterLen (drop (2 * cr_nul_count bytes) bytes) later
        → IsLaterLen bytes (option_map (λ m. 2 * cr_nul_count bytes + m) later))
        → (test : Bool) → ((a == CR) && (b == NUL)) ≡ test
        → IsLaterLen (drop (2 * cond test (1 + cr_nul_count bytes) 0) (a ∷ b ∷ bytes)) later
        → IsLaterLen (a ∷ b ∷ bytes)
        (option_map (λ m. 2 * cond test (1 + cr_nul_count bytes) 0 + m) later)
    by_test more true e is =
        let twice : 2 * (1 + cr_nul_count bytes) ≡ suc (suc (2 * cr_nul_count bytes)) = omega arith in
        let sum : 2 + 2 * cr_nul_count bytes ≡ 2 * (1 + cr_nul_count bytes) = omega arith in
        subst (IsLaterLen (a ∷ b ∷ bytes))
        (lens_added 2 (2 * cr_nul_count bytes) later
        ∙ ap (λ n. option_map (λ m. n + m) later) sum)
        (IsLaterLen-cr_nul_first (a ∷ b ∷ bytes) e _ (more (rw twice at is)))
    by_test more false e is = subst (IsLaterLen (a ∷ b ∷ bytes)) (len_nil later) is

-- and bytes after it
pub IsLaterLen-after_run : (bytes part : Bytes) (n : ℕ) → n ≡ cr_nul_count bytes
    → part ≡ drop (2 * n) bytes → (later : Option ℕ) → IsLaterLen part later
    → IsLaterLen bytes (option_map (λ m. 2 * n + m) later)
IsLaterLen-after_run bytes part n count is later known =
    rw count (IsLaterLen-run bytes later (rw (is, count) at known))

-- a value goes on after a CR NUL that comes first
pub Resumes-cr_nul : (parameter : Bytes) → begins_with_cr_nul parameter ≡ true → Resumes parameter 2
Resumes-cr_nul parameter begins later is = subst
    (λ bytes. IsFirstLen bytes (option_map (λ m. 2 + m) later))
    (sym (cr_nul_front parameter begins)) (after later is)
  where
    after : (later : Option ℕ) → IsLaterLen (drop 2 parameter) later
        → IsFirstLen (CR ∷ NUL ∷ drop 2 parameter) (option_map (λ m. 2 + m) later)
    after None is = ap (byte_then CR) is
    after (Some n) is = let sum : 2 + n ≡ suc (suc n) = omega arith in
        (omega (arith, is.0), ap (byte_then CR) is.1 ∙ rw sum refl)

-- after another first byte it goes on as after a CR NUL
pub Resumes-byte : (parameter : Bytes) → begins_with_cr_nul parameter ≡ false → Resumes parameter 1
Resumes-byte [] unread None is = refl
Resumes-byte [] unread (Some n) is = let none = is.1 in cc
Resumes-byte (a ∷ []) unread None is = refl
Resumes-byte (a ∷ []) unread (Some n) is = let none = is.1 in cc
Resumes-byte (a ∷ b ∷ bytes) unread None is = rw unread (ap (byte_then a) is)
Resumes-byte (a ∷ b ∷ bytes) unread (Some zero) is =
    (omega arith, rw unread (ap (byte_then a) is.1))
Resumes-byte (a ∷ b ∷ bytes) unread (Some (suc n)) is =
    let sum : 1 + suc n ≡ suc (suc n) = omega arith in
    (omega (arith, is.0), rw (sum, unread) (ap (byte_then a) is.1))

-- a value goes on after a part that is written as it is, and CR NUL
pub Resumes-part : (parameter : Bytes) (n : ℕ) → begins_with_cr_nul parameter ≡ false
    → IsRunEnd Fresh (drop 1 parameter) n → begins_with_line_end (drop (1 + n) parameter) ≡ false
    → begins_with_cr_nul (drop (1 + n) parameter) ≡ true → Resumes parameter (1 + n + 2)
Resumes-part parameter n unread run no_end cr_nul later is =
    let back = drop-drop n 1 parameter in
    let sum : 1 + (n + 2) ≡ 1 + n + 2 = omega arith in
    subst (IsFirstLen parameter)
    (lens_added 1 (n + 2) later ∙ ap (λ front. option_map (λ m. front + m) later) sum)
    (Resumes-byte parameter unread (option_map (λ m. n + 2 + m) later)
    (IsLaterLen-cr_nul (drop 1 parameter) n run (rw back no_end) (rw back cr_nul) later
    (rw (back, drop-drop 2 (1 + n) parameter) is)))
