-- The first address of a text.
use Rattle.std.proofs.Common.{◌/◌, ◌%◌, ◌++◌, get_or, true, rules, tests, ◌≡◌, ◌<◌, ◌≤◌, ◌+◌, ℕ, false, not, length, take, drop, List, [], ◌∷◌, Option, Some, None, refl, sym, ◌∙◌, ap, arith, drop-drop, ◌⊎◌, inl, inr}
use Rattle.std.specs.Int.{IsInRange}
use Rattle.std.proofs.lemmas.Bool.{cases_lt}
use Rattle.unftp_control_address.proofs.TextLemmas.{each_joined, read_back_of}
use Rattle.unftp_control_address.proofs.NumberLemmas.{and_parts}
use Rattle.std.specs.Prelude.{filter_map, slice_get}
use Rattle.std.specs.List.{slice_split, position_or_len, before_first, after_first, All, list_all}
use Rattle.std.proofs.lemmas.List.{append-nil, take_all}
use Rattle.std.proofs.lemmas.List.Elements.{All-from_get_or}
use Rattle.std.proofs.lemmas.List.Splits.{slice_split_none, slice_split_first, slice_split_at, slice_split-cons_yes}
use Rattle.std.proofs.lemmas.List.Sums.{fails_before_first, prefix_len-le-length}
use Rattle.unftp_control_defs.specs.Bytes.{Bytes}
use Rattle.unftp_control_address.specs.HostPorts.{COMMA, HostPort, begins_outside, first_host_port, host_port, host_port_text, is_outside}

abbrev end : Bytes → ℕ
end text = position_or_len is_outside text

abbrev first_of : List Bytes → Option HostPort
first_of words = slice_get (filter_map host_port words) 0

last_word : (text : Bytes) → length text ≤ end text → slice_split is_outside text ≡ take (end text) text ∷ []
last_word text past = slice_split_none is_outside text
    (All-from_get_or (λ b. is_outside b ≡ false) text 0
    (λ i within. fails_before_first is_outside text i 0 (omega (arith, past, within))))
    ∙ ap (λ word. word ∷ []) (sym (take_all (end text) text past))

some_first : (word : Bytes) (words : List Bytes) (a : HostPort) → host_port word ≡ Some a
    → first_of (word ∷ words) ≡ Some a
some_first word words a e = rw e refl

none_first : (word : Bytes) (words : List Bytes) → host_port word ≡ None
    → first_of (word ∷ words) ≡ first_of words
none_first word words e = rw e refl

found_at : (text : Bytes) (a : HostPort) → (end text < length text) ⊎ (length text ≤ end text)
    → host_port (take (end text) text) ≡ Some a → first_host_port text ≡ Some a
found_at text a (inl within) e = ap first_of (slice_split_first is_outside text 0 within)
    ∙ some_first (before_first is_outside text) (slice_split is_outside (after_first is_outside text)) a e
found_at text a (inr past) e = ap first_of (last_word text past) ∙ some_first (take (end text) text) [] a e

pub found : (text : Bytes) (a : HostPort) → host_port (take (end text) text) ≡ Some a
    → first_host_port text ≡ Some a
found text a e = found_at text a (cases_lt (end text) (length text)) e

pub ended : (text : Bytes) → length text ≤ end text → host_port (take (end text) text) ≡ None
    → first_host_port text ≡ None
ended text past e = ap first_of (last_word text past) ∙ none_first (take (end text) text) [] e

pub later : (text : Bytes) → end text < length text → host_port (take (end text) text) ≡ None
    → first_host_port text ≡ first_host_port (drop (end text + 1) text)
later text within e = ap first_of (slice_split_first is_outside text 0 within)
    ∙ none_first (before_first is_outside text) (slice_split is_outside (after_first is_outside text)) e

pub within : (text : Bytes) {n : ℕ} → n ≡ end text → n ≤ length text
within text e = omega (arith, e, prefix_len-le-length (λ b. not (is_outside b)) text)

-- what is after a word and the byte that ends it
pub after : (text back rest : Bytes) (n : ℕ) → back ≡ drop n text → rest ≡ drop 1 back → n ≡ end text
    → drop (end text + 1) text ≡ rest
after text back rest n e f at = ap (λ m. drop (m + 1) text) (sym at)
    ∙ sym (f ∙ ap (drop 1) e ∙ drop-drop 1 n text ∙ ap (λ m. drop m text) (omega arith))

-- an address that is written is found after other bytes
skipped : (before text : Bytes) → list_all is_outside before ≡ true
    → first_host_port (before ++ text) ≡ first_host_port text
skipped [] text out = refl
skipped (b ∷ before) text out =
    let both = and_parts (is_outside b) (list_all is_outside before) out in
    ap first_of (slice_split-cons_yes is_outside b (before ++ text) both.0) ∙ skipped before text both.1

at_front : (word after : Bytes) (a : HostPort) → All (λ b. is_outside b ≡ false) word
    → begins_outside after ≡ true → host_port word ≡ Some a → first_host_port (word ++ after) ≡ Some a
at_front word [] a inside out e = ap first_host_port (append-nil word)
    ∙ ap first_of (slice_split_none is_outside word inside) ∙ some_first word [] a e
at_front word (b ∷ after) a inside out e = ap first_of (slice_split_at is_outside word b after inside out)
    ∙ some_first word (slice_split is_outside after) a e

digit_inside : (b : ℕ) → IsInRange 48 57 b → is_outside b ≡ false
digit_inside b digit = search (rules, tests, arith)

pub written_found : (host : List ℕ) (port : ℕ) → length host ≡ 4 → ((i : ℕ) → get_or host i 0 < 256)
    → port < 65536 → (before after : Bytes) → list_all is_outside before ≡ true
    → begins_outside after ≡ true
    → first_host_port (before ++ (host_port_text (host, port) ++ after))
    ≡ Some (host, port)
written_found (a ∷ b ∷ c ∷ d ∷ []) port four small fits before after out begins =
    skipped before _ out
    ∙ at_front (host_port_text ((a ∷ b ∷ c ∷ d ∷ [], port))) after _
    (each_joined (λ x. is_outside x ≡ false) digit_inside COMMA refl a
    (b ∷ c ∷ d ∷ (port / 256) ∷ (port % 256) ∷ []) (small 0)
    (small 1, (small 2, (small 3, (omega (arith, fits), (omega (arith, fits), tt))))))
    begins (read_back_of (a ∷ b ∷ c ∷ d ∷ []) port four small fits)
written_found [] port four small fits before after out begins = absurd (omega (arith, four))
written_found (a ∷ []) port four small fits before after out begins = absurd (omega (arith, four))
written_found (a ∷ b ∷ []) port four small fits before after out begins = absurd (omega (arith, four))
written_found (a ∷ b ∷ c ∷ []) port four small fits before after out begins = absurd (omega (arith, four))
written_found (a ∷ b ∷ c ∷ d ∷ e ∷ host) port four small fits before after out begins =
    absurd (omega (arith, four))
