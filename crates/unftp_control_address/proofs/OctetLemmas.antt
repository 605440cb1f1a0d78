-- Numbers between separators.
use Rattle.std.proofs.Common.{◌≡◌, ◌≢◌, ◌<◌, ◌≤◌, ◌+◌, ◌==◌, ℕ, true, false, length, take, set, get_or, List, [], ◌∷◌, ◌++◌, Option, Some, None, option_map, refl, sym, ◌∙◌, ap, arith, rules, tests, ne_eqb, eq-eqb, ◌⊎◌, inl, inr, length-append, append_assoc, length-set}
use Rattle.std.specs.Char.{is_ascii_digit}
use Rattle.std.specs.Int.{IsInRange}
use Rattle.std.specs.List.{All, slice_split, before_first, after_first, position_or_len}
use Rattle.std.proofs.lemmas.Str.Parse.{digit_at}
use Rattle.std.proofs.lemmas.List.{take_all, take_more_set}
use Rattle.std.proofs.lemmas.Bool.{cases_lt}
use Rattle.std.proofs.lemmas.List.Elements.{All-from_get_or}
use Rattle.std.proofs.lemmas.List.Splits.{slice_split_none, slice_split_first, length-slice_split}
use Rattle.std.proofs.lemmas.List.Sums.{fails_before_first}
use Rattle.unftp_control_address.specs.Numbers.{is_number, octet, octets, octets_between, of_length, onto}
use Rattle.unftp_control_address.proofs.NumberLemmas.{digits_of, own, AreDigits}
use Rattle.unftp_control_defs.specs.Bytes.{Bytes}

onto_len : (n : Option ℕ) (more : Option (List ℕ)) (texts : List Bytes)
    → ((ms : List ℕ) → more ≡ Some ms → length ms ≡ length texts)
    → (ns : List ℕ) → onto n more ≡ Some ns → length ns ≡ length texts + 1
onto_len (Some n) (Some ms) texts h ns e = search (rules, arith, h ms refl)
onto_len (Some n) None texts h ns e = search (rules, arith)
onto_len None more texts h ns e = search (rules, arith)

octets_len : (texts : List Bytes) (ns : List ℕ) → octets texts ≡ Some ns → length ns ≡ length texts
octets_len [] ns e = search (rules, arith)
octets_len (text ∷ texts) ns e = omega (arith, onto_len (octet text) (octets texts) texts (octets_len texts) ns e)

pub unsplit : (separator : ℕ) (text : Bytes)
    → length text ≤ position_or_len (λ b. b == separator) text
    → slice_split (λ b. b == separator) text ≡ text ∷ []
unsplit separator text past = slice_split_none (λ b. b == separator) text
    (All-from_get_or (λ b. (b == separator) ≡ false) text 0
    (λ i within. fails_before_first (λ b. b == separator) text i 0 (omega (arith, past, within))))

-- there is no separator
pub no_front : (separator : ℕ) (text : Bytes) (ns : List ℕ)
    → length text ≤ position_or_len (λ b. b == separator) text
    → octets_between separator text ≡ Some ns → length ns ≤ 1
no_front separator text ns past e =
    omega (arith, octets_len (text ∷ []) ns (ap octets (sym (unsplit separator text past)) ∙ e))

split_first : (separator : ℕ) (text : Bytes)
    → position_or_len (λ b. b == separator) text < length text
    → octets_between separator text
    ≡ onto (octet (before_first (λ b. b == separator) text)) (octets_between separator (after_first (λ b. b == separator) text))
split_first separator text within =
    ap octets (slice_split_first (λ b. b == separator) text 0 within)

-- what is before the separator is no number
pub bad_front : (separator : ℕ) (text : Bytes)
    → position_or_len (λ b. b == separator) text < length text
    → octet (before_first (λ b. b == separator) text) ≡ None
    → octets_between separator text ≡ None
bad_front separator text within e = split_first separator text within ∙ rw e refl

onto_some : (n : ℕ) (more : Option (List ℕ)) → onto (Some n) more ≡ option_map (λ ns. n ∷ ns) more
onto_some n None = refl
onto_some n (Some ns) = refl

pub front : (separator : ℕ) (text : Bytes) (n : ℕ)
    → position_or_len (λ b. b == separator) text < length text
    → octet (before_first (λ b. b == separator) text) ≡ Some n
    → octets_between separator text ≡ option_map (λ ns. n ∷ ns) (octets_between separator (after_first (λ b. b == separator) text))
front separator text n within e = split_first separator text within
    ∙ ap (λ first. onto first (octets_between separator (after_first (λ b. b == separator) text))) e
    ∙ onto_some n _

octet_digits : (text : Bytes) (n : ℕ) → octet text ≡ Some n → is_number 3 text ≡ true
octet_digits text n e = search (rules, tests, arith)

pub not_there : (separator b : ℕ) → is_ascii_digit separator ≡ false → IsInRange 48 57 b → (b == separator) ≡ false
not_there separator b h digit = search (rules, tests, arith)

pub digits_unsplit : (separator : ℕ) (text : Bytes) → is_ascii_digit separator ≡ false → AreDigits text
    → All (λ b. (b == separator) ≡ false) text
digits_unsplit separator text h digits =
    All-from_get_or (λ b. (b == separator) ≡ false) text 0
    (λ i within. not_there separator (get_or text i 0) h (digit_at text i (own.to text digits) within))

pub one : (separator : ℕ) (text : Bytes) (n : ℕ) → is_ascii_digit separator ≡ false → octet text ≡ Some n
    → octets_between separator text ≡ Some (n ∷ [])
one separator text n h e =
    let digits = digits_of 3 text (octet_digits text n e) in
    ap octets (slice_split_none (λ b. b == separator) text (digits_unsplit separator text h digits.0))
    ∙ rw e refl

none_some : (ns : List ℕ) → None ≡ Some ns → ⊥
none_some ns e = search (rules, arith)

not_one_of : (separator : ℕ) (text : Bytes) (ns : List ℕ) (place : ℕ)
    → place ≡ position_or_len (λ b. b == separator) text → (place < length text) ⊎ (length text ≤ place)
    → octet text ≡ None → octets_between separator text ≡ Some ns → length ns ≢ 1
not_one_of separator text ns place is (inl within) none e single =
    let all = octets_len
    (before_first (λ b. b == separator) text ∷ slice_split (λ b. b == separator) (after_first (λ b. b == separator) text)) ns (sym (ap octets (slice_split_first (λ b. b == separator) text 0 (omega (arith, is, within)))) ∙ e) in
    let later = length-slice_split (λ b. b == separator) (after_first (λ b. b == separator) text) in
    omega (arith, all, later, single)
not_one_of separator text ns place is (inr past) none e single =
    let all : octets_between separator text ≡ onto (octet text) (Some []) =
    ap octets (unsplit separator text (omega (arith, is, past))) in
    none_some ns (sym (all ∙ ap (λ n. onto n (Some [])) none) ∙ e)

pub not_one : (separator : ℕ) (text : Bytes) (ns : List ℕ) → octet text ≡ None
    → octets_between separator text ≡ Some ns → length ns ≢ 1
not_one separator text ns none e =
    not_one_of separator text ns _ refl (cases_lt (position_or_len (λ b. b == separator) text) (length text)) none e

-- the loop over the numbers before the last
pub too_few : (n place : ℕ) (front : List ℕ) (more : Option (List ℕ)) → length front ≡ place → place + 1 < n
    → ((ns : List ℕ) → more ≡ Some ns → length ns ≤ 1)
    → of_length n (option_map (λ ns. front ++ ns) more) ≡ None
too_few n place front None len small h = refl
too_few n place front (Some ns) len small h =
    rw (ne_eqb (length (front ++ ns)) n (λ e. omega (arith, e, length-append front ns, len, small, h ns refl))) refl

pub not_last : (n : ℕ) (front : List ℕ) (more : Option (List ℕ)) → length front + 1 ≡ n
    → ((ns : List ℕ) → more ≡ Some ns → length ns ≢ 1)
    → of_length n (option_map (λ ns. front ++ ns) more) ≡ None
not_last n front None len h = refl
not_last n front (Some ns) len h =
    rw (ne_eqb (length (front ++ ns)) n (λ e. h ns refl (omega (arith, e, length-append front ns, len)))) refl

append_map : (front : List ℕ) (n : ℕ) (more : Option (List ℕ))
    → option_map (λ ns. front ++ ns) (option_map (λ ns. n ∷ ns) more)
    ≡ option_map (λ ns. (front ++ n ∷ []) ++ ns) more
append_map front n None = refl
append_map front n (Some ns) = ap Some (sym (append_assoc front (n ∷ []) ns))

pub one_more : (place n : ℕ) (octets : List ℕ) (more : Option (List ℕ)) → place < length octets
    → option_map (λ ns. take place octets ++ ns) (option_map (λ ns. n ∷ ns) more)
    ≡ option_map (λ ns. take (place + 1) (set octets place n) ++ ns) more
one_more place n octets more within = append_map (take place octets) n more
    ∙ ap (λ front. option_map (λ ns. front ++ ns) more) (sym (take_more_set octets place n within))

whole : (last n : ℕ) (octets : List ℕ) → last + 1 ≡ length octets
    → take last octets ++ n ∷ [] ≡ set octets last n
whole last n octets len = sym (take_more_set octets last n (omega (arith, len)))
    ∙ take_all (last + 1) (set octets last n) (omega (arith, len, length-set octets last n))

is_full : (n : ℕ) (octets : List ℕ) → length octets ≡ n → of_length n (Some octets) ≡ Some octets
is_full n octets len = rw (eq-eqb (length octets) n len) refl

pub full : (place last n count : ℕ) (octets : List ℕ) → length octets ≡ count → place ≡ last → last + 1 ≡ count
    → of_length count (Some (take place octets ++ n ∷ [])) ≡ Some (set octets last n)
full place last n count octets len same end =
    ap (λ i. of_length count (Some (take i octets ++ n ∷ []))) same
    ∙ ap (λ ns. of_length count (Some ns)) (whole last n octets (omega (arith, len, end)))
    ∙ is_full count (set octets last n) (length-set octets last n ∙ len)
