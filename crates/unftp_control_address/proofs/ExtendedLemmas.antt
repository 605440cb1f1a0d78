-- The texts of EPRT.
use Rattle.std.proofs.Common.{not, append_assoc, if◌then◌else◌, ◌+◌, ◌++◌, drop, take, ◌≡◌, ◌≢◌, ◌<◌, ◌≤◌, ◌==◌, ℕ, true, length, List, [], ◌∷◌, Some, None, decimal, refl, sym, ◌∙◌, ap, arith, lit<, lit≤, eq-eqb}
use Rattle.std.specs.List.{after_first, before_first, join_with_byte, list_all, position_or_len, slice_split}
use Rattle.std.proofs.lemmas.List.Splits.{slice_split_first, join_with_byte-slice_split}
use Rattle.std.proofs.Math.Seq.{drop-append-add, take-append_seam}
use Rattle.std.proofs.lemmas.List.Sums.{list_all-from_AllPass}
use Rattle.std.proofs.lemmas.Fmt.{length-decimal-le}
use Rattle.unftp_control_address.specs.Numbers.{short}
use Rattle.unftp_control_address.proofs.TextLemmas.{each_digit, number_decimal}
use Rattle.unftp_control_address.specs.Extended.{BAR, LEFT, RIGHT, begins_with_right, bracketed_port, ended_port, extended_port, extended_port_text, fields, is_delimiter, three_fields}
use Rattle.unftp_control_address.proofs.NumberLemmas.{and_parts}
use Rattle.unftp_control_address.proofs.OctetLemmas.{not_there, unsplit}
use Rattle.unftp_control_defs.specs.Bytes.{Bytes}

-- no delimiter
pub no_more : (d : ℕ) (text : Bytes) → length text ≤ position_or_len (λ b. b == d) text
    → slice_split (λ b. b == d) text ≡ text ∷ []
no_more d text past = unsplit d text past

-- a field, and the delimiter after it
pub field : (d : ℕ) (text front later : Bytes) → position_or_len (λ b. b == d) text < length text
    → front ≡ before_first (λ b. b == d) text → later ≡ after_first (λ b. b == d) text
    → slice_split (λ b. b == d) text ≡ front ∷ slice_split (λ b. b == d) later
field d text front later within e f = slice_split_first (λ b. b == d) text 0 within
    ∙ ap (λ more. before_first (λ b. b == d) text ∷ slice_split (λ b. b == d) more) (sym f)
    ∙ ap (λ first. first ∷ slice_split (λ b. b == d) later) (sym e)

not_alone : (d b : ℕ) (text : Bytes) → slice_split (λ x. x == d) (b ∷ text) ≢ [] ∷ []
not_alone d b text e = omega (arith, ap length (sym (join_with_byte-slice_split d (b ∷ text)) ∙ ap (join_with_byte d) e))

not_three : (protocol host port : Bytes) (parts : List Bytes) → parts ≢ [] ∷ []
    → three_fields (protocol ∷ host ∷ port ∷ parts) ≡ None
not_three protocol host port [] h = refl
not_three protocol host port ([] ∷ []) h = absurd (h refl)
not_three protocol host port ((b ∷ text) ∷ parts) h = refl
not_three protocol host port ([] ∷ part ∷ parts) h = refl

-- three fields, and what is after the last delimiter
pub not_ended : (d : ℕ) (protocol host port end : Bytes) → 0 < length end
    → three_fields (protocol ∷ host ∷ port ∷ slice_split (λ b. b == d) end) ≡ None
not_ended d protocol host port [] some = absurd (omega (arith, some))
not_ended d protocol host port (b ∷ end) some =
    not_three protocol host port (slice_split (λ x. x == d) (b ∷ end)) (not_alone d b end)

pub ended : (d : ℕ) (protocol host port end : Bytes) → length end ≡ 0
    → three_fields (protocol ∷ host ∷ port ∷ slice_split (λ b. b == d) end)
    ≡ Some (record { protocol = protocol; host = host; port = port })
ended d protocol host port [] empty = refl
ended d protocol host port (b ∷ end) empty = absurd (omega (arith, empty))

pub short_decimal : (port : ℕ) → port < 65536 → short (decimal port) ≡ Some port
short_decimal port small = number_decimal 5 65536 port small (lit≤ tt)
    (length-decimal-le 5 port (lit< tt) (omega (arith, small)) (omega (arith, small)))

-- what is before and after the first such byte
place_of : (c : ℕ) (before text : Bytes) → list_all (λ b. not (b == c)) before ≡ true
    → position_or_len (λ b. b == c) (before ++ c ∷ text) ≡ length before
place_of c [] text lacks = rw (eq-eqb c c refl) refl
place_of c (b ∷ before) text lacks =
    let both = and_parts (not (b == c)) (list_all (λ x. not (x == c)) before) lacks in
    rw both.0 (omega (arith, place_of c before text both.1))

before_of : (c : ℕ) (before text : Bytes) → list_all (λ b. not (b == c)) before ≡ true
    → before_first (λ b. b == c) (before ++ c ∷ text) ≡ before
before_of c before text lacks = ap (λ n. take n (before ++ c ∷ text)) (place_of c before text lacks)
    ∙ take-append_seam before (c ∷ text)

after_of : (c : ℕ) (before text : Bytes) → list_all (λ b. not (b == c)) before ≡ true
    → after_first (λ b. b == c) (before ++ c ∷ text) ≡ text
after_of c before text lacks = ap (λ n. drop (n + 1) (before ++ c ∷ text)) (place_of c before text lacks)
    ∙ drop-append-add before (c ∷ text) 1

digits_lack : (port : ℕ) → port < 65536 → list_all (λ b. not (b == BAR)) (decimal port) ≡ true
digits_lack port small = list_all-from_AllPass (λ b. not (b == BAR)) (decimal port)
    (each_digit (λ b. not (b == BAR) ≡ true) (λ b r. rw (not_there BAR b refl r) refl) port (omega (arith, small)))

pub port_back : (port : ℕ) → port < 65536 → (before after : Bytes)
    → list_all (λ b. not (b == LEFT)) before ≡ true
    → extended_port (before ++ (extended_port_text port ++ after)) ≡ Some port
port_back port small before after lacks =
    let digits = digits_lack port small in
    let text : Bytes = decimal port ++ BAR ∷ RIGHT ∷ after in
    let same : (decimal port ++ BAR ∷ RIGHT ∷ []) ++ after ≡ text = append_assoc (decimal port) (BAR ∷ RIGHT ∷ []) after in
    ap bracketed_port (after_of LEFT before (BAR ∷ BAR ∷ BAR ∷ ((decimal port ++ BAR ∷ RIGHT ∷ []) ++ after)) lacks)
    ∙ ap (ended_port BAR) same
    ∙ ap (λ t. if begins_with_right t then short (before_first (λ b. b == BAR) text) else None) (after_of BAR (decimal port) (RIGHT ∷ after) digits)
    ∙ ap short (before_of BAR (decimal port) (RIGHT ∷ after) digits)
    ∙ short_decimal port small

pub of_front : (value rest : Bytes) (d : ℕ) → value ≡ d ∷ rest → is_delimiter d ≡ true
    → fields value ≡ three_fields (slice_split (λ b. b == d) rest)
of_front value rest d e may = ap fields e ∙ rw may refl
