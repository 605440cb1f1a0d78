-- The lines of a reply, at their places.
use Rattle.std.proofs.Common.{◌≡◌, ◌<◌, ◌≤◌, ◌+◌, ◌-◌, ℕ, ◌==◌, ◌||◌, ◌⊎◌, inl, inr, Bool, true, false, List, [], ◌∷◌, ◌++◌, map, length, take, drop, refl, sym, ap, ◌∙◌, append-nil, append_assoc, length-append, length-drop, ne_eqb, eq-eqb, arith}
use Rattle.std.proofs.lemmas.List.{drop-append-le, drop-drop, take-append-le, take_all}
use Rattle.unftp_control_defs.specs.Bytes.{Bytes, SP, DASH, crlf}
use Rattle.unftp_control_defs.specs.ReplyReader.{AreLaterLines, last, goes_on, LacksCrlf, IsReply, code_only, single, several, SpellsCode, with_crlf}
use Rattle.unftp_control_defs.specs.ComputedReply.{cuts_of}
use Rattle.unftp_control_defs.proofs.CrlfLemmas.{LacksCrlf-Lacks, cuts_of-with_crlf, cuts_of-none}
use Rattle.unftp_control_defs.proofs.ReplyLemmas.{Lacks-code}
use Rattle.unftp_control_read.specs.ReplyLines.{AreLinePlaces, text_at, reply_text}
use Rattle.unftp_control_read.specs.declared.places.LinePlace.{LinePlace}

-- what follows a code and one byte
after_code : {digits : Bytes} {code : ℕ} → SpellsCode digits code → (b : ℕ) (text : Bytes)
    → reply_text true (digits ++ b ∷ text) ≡ text
after_code spells b text = rw spells.6 refl

after_only_code : {digits : Bytes} {code : ℕ} → SpellsCode digits code → reply_text true digits ≡ []
after_only_code spells = rw spells.6 refl

-- The first of some places, where this line begins, which these bytes follow.
record Found (bytes : Bytes) (at : ℕ) (line after : Bytes) (places : List LinePlace) : Type 0 where
  place : LinePlace
  later : List LinePlace
  are : places ≡ place ∷ later
  text : text_at bytes place ≡ reply_text (at == 0 || length bytes == place.next) line
  rest : drop place.next bytes ≡ after
  within : 0 < place.next
  ends : (length bytes ≡ place.next) ⊎ (0 < length after)
  found_later : AreLinePlaces bytes place.next later

found : (bytes : Bytes) (at : ℕ) (line after : Bytes) (places : List LinePlace)
    → drop at bytes ≡ with_crlf line ++ after → LacksCrlf line → AreLinePlaces bytes at places
    → Found bytes at line after places
found bytes at line after [] cut is_line are =
    let clash : [] ≡ (line, after) ∷ cuts_of after =
    sym (cuts_of-none (drop at bytes) are) ∙ ap cuts_of cut ∙ cuts_of-with_crlf line after is_line in
    absurd cc
found bytes at line after (place ∷ later) cut is_line (is, are) =
    let both : (is.line, drop place.next bytes) ∷ cuts_of (drop place.next bytes)
    ≡ (line, after) ∷ cuts_of after =
    sym (ap cuts_of is.cut ∙ cuts_of-with_crlf is.line (drop place.next bytes) is.is_line)
    ∙ ap cuts_of cut ∙ cuts_of-with_crlf line after is_line in
    let first : ◌≡◌ {A = Bytes × Bytes} (is.line, drop place.next bytes) (line, after) = cc in
    let same_line : is.line ≡ line = λ i. (first i).0 in
    let same_rest : drop place.next bytes ≡ after = λ i. (first i).1 in
    record {
      place = place;
      later = later;
      are = refl;
      text = is.text ∙ ap (reply_text (at == 0 || length bytes == place.next)) same_line;
      rest = same_rest;
      within = omega (arith, is.in_order.1);
      ends = by_rest after same_rest;
      found_later = are;
    }
  where
    by_rest : (after : Bytes) → drop place.next bytes ≡ after
        → (length bytes ≡ place.next) ⊎ (0 < length after)
    by_rest [] none = inl (omega (arith, is.in_order.2, length-drop place.next bytes, ap length none))
    by_rest (b ∷ more) some = inr (omega arith)

-- no place is found where no byte is left
none_left : (bytes : Bytes) (at : ℕ) (places : List LinePlace) → drop at bytes ≡ []
    → AreLinePlaces bytes at places → places ≡ []
none_left bytes at [] none are = refl
none_left bytes at (place ∷ later) none (is, are) = absurd (omega (
  arith,
  ap length (sym none ∙ is.cut),
  length-append (with_crlf is.line) (drop place.next bytes),
  length-append is.line crlf,
))

-- the last line, which has a code
last_found : (bytes : Bytes) (at : ℕ) (line : Bytes) (places : List LinePlace)
    → drop at bytes ≡ with_crlf line → LacksCrlf line → AreLinePlaces bytes at places
    → map (text_at bytes) places ≡ reply_text true line ∷ []
last_found bytes at line places cut is_line are =
    let f = found bytes at line [] places (cut ∙ sym (append-nil (with_crlf line))) is_line are in
    let ended : length bytes ≡ f.place.next = by_end f.ends in
    ap (map (text_at bytes)) (f.are ∙ ap (λ later. f.place ∷ later)
    (none_left bytes f.place.next f.later f.rest f.found_later))
    ∙ ap (λ text. text ∷ []) (f.text ∙ (λ i. reply_text (has_code (at == 0) (eq-eqb _ _ ended) i) line))
  where
    by_end : {a b : ℕ} → (a ≡ b) ⊎ (0 < 0) → a ≡ b
    by_end (inl same) = same
    by_end (inr none) = absurd (omega (arith, none))

    has_code : (first : Bool) {last : Bool} → last ≡ true → (first || last) ≡ true
    has_code true is = refl
    has_code false is = is

-- the later lines of a reply of several
later_found : (bytes : Bytes) {digits : Bytes} {code : ℕ} → SpellsCode digits code
    → {rest : Bytes} {lines : List Bytes} → AreLaterLines digits rest lines → (at : ℕ) → 0 < at
    → drop at bytes ≡ rest → (places : List LinePlace) → AreLinePlaces bytes at places
    → map (text_at bytes) places ≡ lines
later_found bytes spells (last {text = text} is_line) at passed cut places are =
    last_found bytes at _ places cut is_line are
    ∙ ap (λ t. t ∷ []) (after_code spells SP text)
later_found bytes {digits} spells (goes_on {line = line} {bytes = rest} {lines = lines} is_line goes more)
    at passed cut places are =
    let f = found bytes at line rest places cut is_line are in
    let between : (at == 0 || length bytes == f.place.next) ≡ false =
    neither (ne_eqb at 0 (λ none. omega (arith, none, passed)))
    (ne_eqb (length bytes) f.place.next (λ ended. omega (
      arith,
      ended,
      length-drop f.place.next bytes,
      ap length f.rest,
      some_later more,
    ))) in
    ap (map (text_at bytes)) f.are
    ∙ (λ i. (f.text ∙ ap (λ coded. reply_text coded line) between) i
    ∷ later_found bytes spells more f.place.next f.within f.rest f.later f.found_later i)
  where
    neither : {a b : Bool} → a ≡ false → b ≡ false → (a || b) ≡ false
    neither not_first not_last = rw (not_first, not_last) refl

    some_later : {rest : Bytes} {lines : List Bytes} → AreLaterLines digits rest lines
        → 0 < length rest
    some_later (last {text = text} _) = omega (
      arith,
      length-append (digits ++ SP ∷ text) crlf,
    )
    some_later (goes_on {line = line} {bytes = rest} _ _ _) = omega (
      arith,
      length-append (with_crlf line) rest,
      length-append line crlf,
    )

-- the lines of a reply
pub lines_found : (bytes : Bytes) {code : ℕ} {lines : List Bytes} → IsReply bytes code lines
    → (places : List LinePlace) → AreLinePlaces bytes 0 places
    → map (text_at bytes) places ≡ lines
lines_found bytes (code_only {digits = digits} spells) places are =
    last_found bytes 0 digits places refl (LacksCrlf-Lacks digits (Lacks-code spells)) are
    ∙ ap (λ t. t ∷ []) (after_only_code spells)
lines_found bytes (single {digits = digits} {text = text} spells is_line) places are =
    last_found bytes 0 (digits ++ SP ∷ text) places refl is_line are
    ∙ ap (λ t. t ∷ []) (after_code spells SP text)
lines_found bytes (several {digits = digits} {text = text} {bytes = rest} spells is_line later) places are =
    let f = found bytes 0 (digits ++ DASH ∷ text) rest places refl is_line are in
    ap (map (text_at bytes)) f.are
    ∙ (λ i. (f.text ∙ after_code spells DASH text) i
    ∷ later_found bytes spells later f.place.next f.within f.rest f.later f.found_later i)

-- ---- where a text is

pub text_placed : (bytes : Bytes) (at : ℕ) (line after : Bytes) (code : ℕ)
    → drop at bytes ≡ with_crlf line ++ after → code ≤ length line
    → take (length line - code) (drop (at + code) bytes) ≡ drop code line
text_placed bytes at line after code cut within =
    let rest : drop (at + code) bytes ≡ drop code line ++ (crlf ++ after) =
    sym (drop-drop code at bytes) ∙ ap (drop code) (cut ∙ append_assoc line crlf after)
    ∙ drop-append-le code line (crlf ++ after) within in
    ap (take (length line - code)) rest
    ∙ take-append-le (length line - code) (drop code line) (crlf ++ after) (omega (arith, length-drop code line))
    ∙ take_all (length line - code) (drop code line) (omega (arith, length-drop code line))
