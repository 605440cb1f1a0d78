-- An input has one list of lines and one incomplete line: `lines_of` and `incomplete_line`.
use Rattle.std.proofs.Common.{◌≡◌, ◌≢◌, ◌≤◌, ℕ, Bool, true, false, cond, map, length, ◌==◌, List, [], ◌∷◌, ◌++◌, Option, None, Some, ◌⊎◌, refl, sym, ap, ◌∙◌, inl, inr, append_assoc, eq-eqb, ne_eqb}
use Rattle.std.specs.List.{AllByRecursion, concat}
use Rattle.std.proofs.lemmas.Bool.{cases_eq, le-ltb}
use Rattle.std.proofs.lemmas.List.{map-append}
use Rattle.unftp_control_defs.specs.Bytes.{Bytes, LF, Lacks}
use Rattle.unftp_control_defs.specs.Lines.{IsLine, Lines, onto_line, onto_incomplete_line, lines_of, incomplete_line}
use Rattle.unftp_control_defs.specs.Events.{events, exceeds, event_for}

lf_alone : IsLine (LF ∷ [])
lf_alone = record { body = []; whole = refl; one_end = tt }

longer_line : (b : ℕ) (line : Bytes) → b ≢ LF → IsLine line → IsLine (b ∷ line)
longer_line b line ne l =
    record { body = b ∷ l.body; whole = ap (λ t. b ∷ t) l.whole; one_end = (ne, l.one_end) }

with_byte : {b : ℕ} {bytes : Bytes} (lines : List Bytes) {incomplete : Bytes} → b ≢ LF
    → Lines bytes lines incomplete
    → Lines (b ∷ bytes) (onto_line b lines) (onto_incomplete_line b lines incomplete)
with_byte {b} [] ne l =
    record { whole = ap (λ t. b ∷ t) l.whole; each = tt; unended = (ne, l.unended) }
with_byte {b} (line ∷ lines) ne l =
    record {
      whole = ap (λ t. b ∷ t) l.whole;
      each = (longer_line b line ne l.each.0, l.each.1);
      unended = l.unended;
    }

with_lf : (bytes : Bytes) (lines : List Bytes) (incomplete : Bytes) → Lines bytes lines incomplete
    → Lines (LF ∷ bytes) ((LF ∷ []) ∷ lines) incomplete
with_lf bytes lines incomplete l =
    record { whole = ap (λ t. LF ∷ t) l.whole; each = (lf_alone, l.each); unended = l.unended }

next_byte : {b : ℕ} {bytes : Bytes} {lines : List Bytes} {incomplete : Bytes}
    → Lines bytes lines incomplete
    → (b ≡ LF) ⊎ (b ≢ LF)
    → Lines (b ∷ bytes) (cond (b == LF) ((LF ∷ []) ∷ lines) (onto_line b lines))
    (cond (b == LF) incomplete (onto_incomplete_line b lines incomplete))
next_byte {b} {bytes} {lines} {incomplete} l (inl e) =
    rw (eq-eqb b LF e, e) (with_lf bytes lines incomplete l)
next_byte {b} {lines} l (inr ne) =
    rw (ne_eqb b LF ne) (with_byte lines ne l)

-- what is computed is the pair
pub Lines-lines_of : (bytes : Bytes) → Lines bytes (lines_of bytes) (incomplete_line bytes)
Lines-lines_of [] = record { whole = refl; each = tt; unended = tt }
Lines-lines_of (b ∷ bytes) = next_byte (Lines-lines_of bytes) (cases_eq b LF)

pub lines_of-incomplete : (incomplete : Bytes) → Lacks LF incomplete → lines_of incomplete ≡ []
lines_of-incomplete [] h = refl
lines_of-incomplete (b ∷ incomplete) h = rw (ne_eqb b LF h.0, lines_of-incomplete incomplete h.1)

pub incomplete_line-incomplete : (incomplete : Bytes) → Lacks LF incomplete
    → incomplete_line incomplete ≡ incomplete
incomplete_line-incomplete [] h = refl
incomplete_line-incomplete (b ∷ incomplete) h =
    rw (
      ne_eqb b LF h.0,
      lines_of-incomplete incomplete h.1,
      incomplete_line-incomplete incomplete h.1,
    )

pub lines_of-line : (body more : Bytes) → Lacks LF body
    → lines_of (body ++ LF ∷ more) ≡ (body ++ LF ∷ []) ∷ lines_of more
lines_of-line [] more h = refl
lines_of-line (b ∷ body) more h = rw (ne_eqb b LF h.0, lines_of-line body more h.1)

pub incomplete_line-line : (body more : Bytes) → Lacks LF body → incomplete_line (body ++ LF ∷ more)
    ≡ incomplete_line more
incomplete_line-line [] more h = refl
incomplete_line-line (b ∷ body) more h =
    rw (ne_eqb b LF h.0, lines_of-line body more h.1, incomplete_line-line body more h.1)

pub line_first : (line more : Bytes) → IsLine line
    → (lines_of (line ++ more) ≡ line ∷ lines_of more)
    × (incomplete_line (line ++ more) ≡ incomplete_line more)
line_first line more l =
    let joined : line ++ more ≡ l.body ++ LF ∷ more = ap (λ t. t ++ more) l.whole
    ∙ append_assoc l.body (LF ∷ []) more in (
      ap lines_of joined ∙ lines_of-line l.body more l.one_end
          ∙ ap (λ t. t ∷ lines_of more) (sym l.whole),
      ap incomplete_line joined ∙ incomplete_line-line l.body more l.one_end,
    )

pub lines_of-concat : (lines : List Bytes) (incomplete : Bytes) → AllByRecursion IsLine lines
    → Lacks LF incomplete
    → (lines_of (concat lines ++ incomplete) ≡ lines)
    × (incomplete_line (concat lines ++ incomplete) ≡ incomplete)
lines_of-concat [] incomplete each unended =
    (lines_of-incomplete incomplete unended, incomplete_line-incomplete incomplete unended)
lines_of-concat (line ∷ lines) incomplete each unended =
    let here = line_first line (concat lines ++ incomplete) each.0 in
    let there = lines_of-concat lines incomplete each.1 unended in
    let joined = append_assoc line (concat lines) incomplete in (
      ap lines_of joined ∙ here.0 ∙ ap (λ ls. line ∷ ls) there.0,
      ap incomplete_line joined ∙ here.1
          ∙ there.1,
    )

-- and no other pair is
pub Lines-unique : (bytes : Bytes) (lines : List Bytes) (incomplete : Bytes)
    → Lines bytes lines incomplete → (lines ≡ lines_of bytes) × (incomplete ≡ incomplete_line bytes)
Lines-unique bytes lines incomplete l =
    let same = lines_of-concat lines incomplete l.each l.unended in
    (sym same.0 ∙ ap lines_of (sym l.whole), sym same.1 ∙ ap incomplete_line (sym l.whole))

-- Inputs that are put together.
lines-with_byte : (b : ℕ) (is_lf : Bool) (lines : List Bytes) (incomplete : Bytes)
    {all : List Bytes} (more : Bytes → List Bytes) →
    ((r : Bytes) → more (b ∷ r) ≡ cond is_lf ((LF ∷ []) ∷ more r) (onto_line b (more r)))
    → all ≡ lines ++ more incomplete →
    cond is_lf ((LF ∷ []) ∷ all) (onto_line b all) ≡ cond is_lf ((LF ∷ []) ∷ lines)
    (onto_line b lines)
    ++ more (cond is_lf incomplete (onto_incomplete_line b lines incomplete))
lines-with_byte b true lines incomplete more step e = ap (λ ls. (LF ∷ []) ∷ ls) e
lines-with_byte b false [] incomplete more step e = ap (onto_line b) e ∙ sym (step incomplete)
lines-with_byte b false (line ∷ lines) incomplete more step e = ap (onto_line b) e

pub lines_of-append : (bytes more : Bytes) → lines_of (bytes ++ more) ≡ lines_of bytes ++ lines_of
    (incomplete_line bytes ++ more)
lines_of-append [] more = refl
lines_of-append (b ∷ bytes) more =
    lines-with_byte b (b == LF) (lines_of bytes) (incomplete_line bytes)
    (λ r. lines_of (r ++ more)) (λ r. refl) (lines_of-append bytes more)

incomplete-with_byte : (b : ℕ) (is_lf : Bool) (lines : List Bytes) {incomplete : Bytes}
    {all : List Bytes} {left : Bytes} (lines_with : Bytes → List Bytes) (incomplete_with : Bytes
    → Bytes) →
    ((r : Bytes) → incomplete_with (b ∷ r) ≡ cond is_lf (incomplete_with r)
    (onto_incomplete_line b (lines_with r) (incomplete_with r))) →
    all ≡ lines ++ lines_with incomplete → left ≡ incomplete_with incomplete →
    cond is_lf left (onto_incomplete_line b all left) ≡ incomplete_with
    (cond is_lf incomplete (onto_incomplete_line b lines incomplete))
incomplete-with_byte b true lines lines_with incomplete_with step e h = h
incomplete-with_byte b false [] {incomplete} {left} lines_with incomplete_with step e h =
    ap (λ ls. onto_incomplete_line b ls left) e
    ∙ ap (onto_incomplete_line b (lines_with incomplete)) h ∙ sym (step incomplete)
incomplete-with_byte b false (line ∷ lines) {left} lines_with incomplete_with step e
    h = ap (λ ls. onto_incomplete_line b ls left) e ∙ h

pub incomplete_line-append : (bytes more : Bytes)
    → incomplete_line (bytes ++ more) ≡ incomplete_line (incomplete_line bytes ++ more)
incomplete_line-append [] more = refl
incomplete_line-append (b ∷ bytes) more =
    incomplete-with_byte b (b == LF) (lines_of bytes)
    (λ r. lines_of (r ++ more)) (λ r. incomplete_line (r ++ more)) (λ r. refl)
    (lines_of-append bytes more) (incomplete_line-append bytes more)

-- Events, with a limit or without one.
pub events-append : (limit : Option ℕ) (bytes more : Bytes) →
    events limit (bytes ++ more) ≡ events limit bytes ++ events limit
    (incomplete_line bytes ++ more)
events-append limit bytes more =
    ap (map (event_for limit)) (lines_of-append bytes more)
    ∙ map-append (event_for limit) (lines_of bytes) (lines_of (incomplete_line bytes ++ more))

-- bytes without a line
pub events-incomplete : (limit : Option ℕ) (incomplete : Bytes) → Lacks LF incomplete
    → events limit incomplete ≡ []
events-incomplete limit incomplete h = ap (map (event_for limit)) (lines_of-incomplete incomplete h)

not_exceeding : (limit n : ℕ) → n ≤ limit → exceeds (Some limit) n ≡ false
not_exceeding limit n h = le-ltb limit n h

-- no line is longer than the limit
within : (limit : ℕ) (lines : List Bytes) → AllByRecursion (λ line. length line ≤ limit) lines →
    map (event_for (Some limit)) lines ≡ map (event_for None) lines
within limit [] each = refl
within limit (line ∷ lines) each =
    rw (not_exceeding limit (length line) each.0, within limit lines each.1) refl

pub events-within : (limit : ℕ) (input : Bytes)
    → AllByRecursion (λ line. length line ≤ limit) (lines_of input) →
    events (Some limit) input ≡ events None input
events-within limit input each = within limit (lines_of input) each
