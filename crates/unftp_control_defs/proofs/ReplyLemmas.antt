-- Bytes begin with a reply, or with a part of one, or are malformed, and only one of these holds:
-- `front_of` computes it.
use Rattle.std.proofs.Common.{◌≡◌, ℕ, ◌+◌, ◌-◌, ◌<◌, ◌≤◌, Bool, true, false, ◌==◌, ◌&&◌, List, [], ◌∷◌, ◌++◌, ◌⊎◌, Option, Some, None, length, take, drop, refl, sym, ap, subst, ◌∙◌, inl, inr, eqb-true, append_assoc, append-nil, length-append, take_at, drop_at, arith}
use Rattle.std.specs.Prelude.{nat_le, bytes_eq, ⊤}
use lib.Pointwise.{bytes_decides}
use Rattle.std.specs.Char.{is_ascii_digit}
use Rattle.std.proofs.lemmas.Bool.{and_parts, and_from, le-leb, leb-true}
use Rattle.std.proofs.lemmas.List.{take-append-drop, drop-append-le}
use Rattle.std.proofs.lemmas.Option.{none-some}
use Rattle.unftp_control_defs.specs.Bytes.{Bytes, LF, SP, DASH, crlf, Lacks}
use Rattle.unftp_control_defs.specs.ReplyReader.{LacksCrlf, with_crlf, SpellsCode, GoesOn, AreLaterLines, last, goes_on, IsReply, code_only, single, several, FrontReply, HasFront, IsMalformed, IsPartial, AllReplies}
use Rattle.unftp_control_defs.specs.TakingSteps.{TakesReply}
use Rattle.unftp_control_defs.specs.ComputedReply.{Cuts, cuts_of, code_of, Opening, Nothing, One, Several, opening_by, opening, last_text, later_by, later_lines, Front, Whole, Partial, Malformed, front_after, front_by, front_at, front_of}
use Rattle.unftp_control_defs.proofs.LackLemmas.{Lacks-append}
use Rattle.unftp_control_defs.proofs.CrlfLemmas.{cuts_of-with_crlf, AreCuts, AreCuts-cuts_of, LacksCrlf-Lacks}

-- ---- the text of a last line

pub last_text-of : (digits text : Bytes) → last_text digits (digits ++ SP ∷ text) ≡ Some text
last_text-of digits text =
    let start = digits ++ SP ∷ [] in rw (
      sym (append_assoc digits (SP ∷ []) text),
      take_at start text (length start) refl,
      drop_at start text (length start) refl,
      (bytes_decides start start).1 refl,
    )

abbrev IsLastText : Bytes → Bytes → Option Bytes → Type 0
IsLastText digits line None = GoesOn digits line
IsLastText digits line (Some text) = line ≡ digits ++ SP ∷ text

last_text-is : (digits line : Bytes) → IsLastText digits line (last_text digits line)
last_text-is digits line = by_test (bytes_eq (take (length start) line) start) refl
  where
    start : Bytes
    start = digits ++ SP ∷ []

    by_test : (test : Bool) → bytes_eq (take (length start) line) start ≡ test
        → IsLastText digits line (last_text digits line)
    by_test true e = rw e (sym (take-append-drop (length start) line)
        ∙ ap (λ front. front ++ drop (length start) line)
        ((bytes_decides (take (length start) line) start).0 e)
        ∙ append_assoc digits (SP ∷ []) (drop (length start) line))
    by_test false e = rw e (λ text is. none-some text
        (rw e at (ap (last_text digits) is ∙ last_text-of digits text)))

pub last_text-none : (digits line : Bytes) → GoesOn digits line → last_text digits line ≡ None
last_text-none digits line go = by_text (last_text digits line) (last_text-is digits line)
  where
    by_text : (o : Option Bytes) → IsLastText digits line o → o ≡ None
    by_text None h = refl
    by_text (Some text) h = absurd (go text h)

-- ---- the later lines

later_lines-are : {digits bytes : Bytes} {lines : List Bytes} (rest : Bytes)
    → AreLaterLines digits bytes lines
    → later_lines digits (cuts_of (bytes ++ rest)) ≡ Some (lines, rest)
later_lines-are {digits} rest (last {text} lacks) =
    rw (cuts_of-with_crlf (digits ++ SP ∷ text) rest lacks, last_text-of digits text)
later_lines-are {digits} rest (goes_on {line} {bytes} lacks go more) = rw (
  append_assoc (with_crlf line) bytes rest,
  cuts_of-with_crlf line (bytes ++ rest) lacks,
  last_text-none digits line go,
  later_lines-are rest more,
)

-- what is read, and the bytes after it
abbrev AreRead : Bytes → Bytes → Option (List Bytes × Bytes) → Type 0
AreRead digits bytes None = ⊤
AreRead digits bytes (Some read) =
    (front : Bytes) × (bytes ≡ front ++ read.1) × AreLaterLines digits front read.0

are_read : (digits bytes : Bytes) (cuts : Cuts) → AreCuts bytes cuts
    → AreRead digits bytes (later_lines digits cuts)
are_read digits bytes [] h = tt
are_read digits bytes ((line, rest) ∷ cuts) h =
    by_text (last_text digits line) (last_text-is digits line) (later_lines digits cuts)
    (are_read digits rest cuts h.2)
  where
    by_text : (o : Option Bytes) → IsLastText digits line o → (more : Option (List Bytes × Bytes))
        → AreRead digits rest more → AreRead digits bytes (later_by o (line, rest) more)
    by_text (Some text) is more m = (
      with_crlf (digits ++ SP ∷ text),
      h.0 ∙ ap (λ l. with_crlf l ++ rest) is,
      last (subst LacksCrlf is h.1),
    )
    by_text None go None m = tt
    by_text None go (Some read) m = (
      with_crlf line ++ m.0,
      h.0 ∙ ap (λ t. with_crlf line ++ t) m.1 ∙ sym (append_assoc (with_crlf line) m.0 read.1),
      goes_on h.1 go m.2,
    )

-- ---- the code

pub digit_is_digit : (d : ℕ) → d < 10 → is_ascii_digit (48 + d) ≡ true
digit_is_digit d h = and_from _ _ (le-leb 48 (48 + d) (omega arith)) (le-leb (48 + d) 57 (omega arith))

digit_is : (b : ℕ) → is_ascii_digit b ≡ true → (b - 48 < 10) × (b ≡ 48 + (b - 48))
digit_is b h =
    let parts = and_parts (nat_le 48 b) (nat_le b 57) h in
    let low = leb-true 48 b parts.0 in
    let high = leb-true b 57 parts.1 in (omega (arith, low, high), omega (arith, low, high))

pub code_of-SpellsCode : {digits : Bytes} {code : ℕ} → SpellsCode digits code
    → code_of digits ≡ Some code
code_of-SpellsCode s = rw (
  s.6,
  digit_is_digit s.0 s.3,
  digit_is_digit s.1 s.4,
  digit_is_digit s.2 s.5,
)
    (ap Some (omega (arith, s.7)))

abbrev IsCode : Bytes → Option ℕ → Type 0
IsCode digits None = ⊤
IsCode digits (Some code) = SpellsCode digits code

code_of-is : (digits : Bytes) → IsCode digits (code_of digits)
code_of-is [] = tt
code_of-is (a ∷ []) = tt
code_of-is (a ∷ b ∷ []) = tt
code_of-is (a ∷ b ∷ c ∷ d ∷ rest) = tt
code_of-is (a ∷ b ∷ c ∷ []) =
    by_test (is_ascii_digit a && (is_ascii_digit b && is_ascii_digit c)) refl
  where
    by_test : (test : Bool) → (is_ascii_digit a && (is_ascii_digit b && is_ascii_digit c)) ≡ test
        → IsCode (a ∷ b ∷ c ∷ []) (code_of (a ∷ b ∷ c ∷ []))
    by_test false e = rw e tt
    by_test true e =
        let first = and_parts (is_ascii_digit a) (is_ascii_digit b && is_ascii_digit c) e in
        let second = and_parts (is_ascii_digit b) (is_ascii_digit c) first.1 in
        let x = digit_is a first.0 in
        let y = digit_is b second.0 in
        let z = digit_is c second.1 in
        let digits : a ∷ b ∷ c ∷ [] ≡ (48 + (a - 48)) ∷ (48 + (b - 48)) ∷ (48 + (c - 48)) ∷ [] =
        λ i. x.1 i ∷ (y.1 i ∷ (z.1 i ∷ [])) in
        rw e (a - 48, b - 48, c - 48, x.0, y.0, z.0, digits, refl)

pub code_length : {digits : Bytes} {code : ℕ} → SpellsCode digits code → length digits ≡ 3
code_length s = ap length s.6

-- ---- the first line

pub opening-code : {line digits : Bytes} {code : ℕ} (after : Bytes) → SpellsCode digits code
    → line ≡ digits ++ after → (opening line ≡ opening_by (Some code) after) × (take 3 line ≡ digits)
opening-code {line} {digits} {code} after s is =
    let three = code_length s in
    let front : take 3 line ≡ digits = ap (take 3) is ∙ take_at digits after 3 three in
    let back : drop 3 line ≡ after = ap (drop 3) is ∙ drop_at digits after 3 three in (
      (λ i. opening_by (code_of (front i)) (back i))
          ∙ ap (λ code. opening_by code after) (code_of-SpellsCode s),
      front,
    )

-- digits, and a text without LF after them
pub Lacks-code : {digits : Bytes} {code : ℕ} → SpellsCode digits code → Lacks LF digits
Lacks-code s = subst (Lacks LF) (sym s.6)
    ((λ e. omega (arith, e)), ((λ e. omega (arith, e)), ((λ e. omega (arith, e)), tt)))

pub lacks_code : {digits : Bytes} (text : Bytes) {code : ℕ} → SpellsCode digits code → Lacks LF text
    → LacksCrlf (digits ++ text)
lacks_code {digits} text s h =
    LacksCrlf-Lacks (digits ++ text) (Lacks-append LF digits text (Lacks-code s) h)

-- what a line opens
abbrev IsOpened : Bytes → Opening → Type 0
IsOpened line Nothing = ⊤
IsOpened line (One code text) = IsReply (with_crlf line) code (text ∷ [])
IsOpened line (Several code text) = SpellsCode (take 3 line) code
    × (line ≡ take 3 line ++ DASH ∷ text)

is_opened : (line : Bytes) → LacksCrlf line → IsOpened line (opening line)
is_opened line lacks = by_code (code_of (take 3 line)) (code_of-is (take 3 line)) (drop 3 line) refl
  where
    whole : {after : Bytes} → drop 3 line ≡ after → line ≡ take 3 line ++ after
    whole f = sym (take-append-drop 3 line) ∙ ap (λ t. take 3 line ++ t) f

    by_code : (o : Option ℕ) → IsCode (take 3 line) o → (after : Bytes) → drop 3 line ≡ after
        → IsOpened line (opening_by o after)
    by_code None s after f = tt
    by_code (Some code) s [] f =
        subst (λ l. IsReply (with_crlf l) code ([] ∷ []))
        (sym (whole f ∙ append-nil (take 3 line))) (code_only s)
    by_code (Some code) s (b ∷ text) f = by_sign (b == SP) refl (b == DASH) refl
      where
        by_sign : (space : Bool) → (b == SP) ≡ space → (dash : Bool) → (b == DASH) ≡ dash
            → IsOpened line (opening_by (Some code) (b ∷ text))
        by_sign true g dash k =
            let is = whole f ∙ ap (λ b. take 3 line ++ b ∷ text) (eqb-true b SP g) in
            rw g (subst (λ l. IsReply (with_crlf l) code (text ∷ [])) (sym is)
            (single s (subst LacksCrlf is lacks)))
        by_sign false g true k =
            rw (g, k) (s, whole f ∙ ap (λ b. take 3 line ++ b ∷ text) (eqb-true b DASH k))
        by_sign false g false k = rw (g, k) tt

-- ---- what is computed is the reply

pub front_of-line : (line after : Bytes) {bytes : Bytes} → bytes ≡ with_crlf line ++ after
    → LacksCrlf line → front_of bytes ≡ front_by (opening line) (take 3 line) after (cuts_of after)
front_of-line line after cut is_line =
    ap front_at (ap cuts_of cut ∙ cuts_of-with_crlf line after is_line)

front_of-IsReply : {front : Bytes} {code : ℕ} {lines : List Bytes} (rest : Bytes)
    → IsReply front code lines → front_of (front ++ rest) ≡ Whole code lines rest
front_of-IsReply rest (code_only {digits} s) =
    front_of-line digits rest refl (subst LacksCrlf (append-nil digits) (lacks_code [] s tt))
    ∙ rw (opening-code [] s (sym (append-nil digits))).0
front_of-IsReply rest (single {digits} {text} s lacks) =
    front_of-line (digits ++ SP ∷ text) rest refl lacks ∙ rw (opening-code (SP ∷ text) s refl).0
front_of-IsReply rest (several {digits} {text} {bytes} s lacks later) =
    let opened = opening-code (DASH ∷ text) s refl in
    front_of-line (digits ++ DASH ∷ text) (bytes ++ rest)
    (append_assoc (with_crlf (digits ++ DASH ∷ text)) bytes rest) lacks
    ∙ rw (opened.0, opened.1, later_lines-are rest later)

pub front_of-FrontReply : {bytes : Bytes} {code : ℕ} {lines : List Bytes} {used : ℕ}
    → (f : FrontReply bytes code lines used) → front_of bytes ≡ Whole code lines f.rest
front_of-FrontReply f = ap front_of f.cut ∙ front_of-IsReply f.rest f.reply

-- a reply of these bytes is found, and these are after it
abbrev IsFound : Bytes → Front → Type 0
IsFound bytes (Whole code lines rest) =
    (front : Bytes) × (bytes ≡ front ++ rest) × IsReply front code lines
IsFound bytes _ = ⊤

is_found : (bytes : Bytes) (cuts : Cuts) → AreCuts bytes cuts → IsFound bytes (front_at cuts)
is_found bytes [] h = tt
is_found bytes ((line, rest) ∷ cuts) h = by_opening (opening line) (is_opened line h.1)
  where
    by_opening : (o : Opening) → IsOpened line o
        → IsFound bytes (front_by o (take 3 line) rest cuts)
    by_opening Nothing p = tt
    by_opening (One code text) p = (with_crlf line, h.0, p)
    by_opening (Several code text) (s, is) =
        by_later (later_lines (take 3 line) cuts) (are_read (take 3 line) rest cuts h.2)
      where
        by_later : (o : Option (List Bytes × Bytes)) → AreRead (take 3 line) rest o
            → IsFound bytes (front_after code (text ∷ []) o)
        by_later None m = tt
        by_later (Some read) m = (
          with_crlf line ++ m.0,
          h.0 ∙ ap (λ t. with_crlf line ++ t) m.1 ∙ sym (append_assoc (with_crlf line) m.0 read.1),
          subst (λ l. IsReply (with_crlf l ++ m.0) code (text ∷ read.0)) (sym is)
              (several s (subst LacksCrlf is h.1) m.2),
        )

pub FrontReply-front_of : {bytes : Bytes} {code : ℕ} {lines : List Bytes} {rest : Bytes}
    → front_of bytes ≡ Whole code lines rest
    → FrontReply bytes code lines (length bytes - length rest)
FrontReply-front_of {bytes} {rest = rest} e =
    let found = subst (IsFound bytes) e (is_found bytes (cuts_of bytes) (AreCuts-cuts_of bytes)) in
    record {
      front = found.0;
      rest = rest;
      cut = found.1;
      reply = found.2;
      length_is = omega (arith, ap length found.1, length-append found.0 rest);
    }

-- one code, one list of lines and one number of bytes
pub FrontReply-unique : {bytes : Bytes} {m n : ℕ} {ks ls : List Bytes} {used taken : ℕ}
    → FrontReply bytes m ks used → FrontReply bytes n ls taken
    → (m ≡ n) × (ks ≡ ls) × (used ≡ taken)
FrontReply-unique {m = m} {n = n} {ks = ks} {ls = ls} f g =
    let same : Whole m ks f.rest ≡ Whole n ls g.rest =
    sym (front_of-FrontReply f) ∙ front_of-FrontReply g in
    let rest : f.rest ≡ g.rest = cc in (
      cc,
      cc,
      omega (
        arith,
        f.length_is,
        g.length_is,
        ap length rest,
        ap length f.cut,
        ap length g.cut,
        length-append f.front f.rest,
        length-append g.front g.rest,
      ),
    )

-- ---- malformed, or partial

pub front_is_formed : (bytes : Bytes) → HasFront bytes → ¬ IsMalformed bytes
front_is_formed bytes front m = m.opens_none (m.rest, subst HasFront m.cut front)

nothing_opened : (o : Opening) (digits rest : Bytes) (cuts : Cuts)
    → front_by o digits rest cuts ≡ Malformed → o ≡ Nothing
nothing_opened Nothing digits rest cuts e = refl
nothing_opened (One code text) digits rest cuts e = absurd (cc)
nothing_opened (Several code text) digits rest cuts e = by_later (later_lines digits cuts) e
  where
    by_later : (o : Option (List Bytes × Bytes)) → front_after code (text ∷ []) o ≡ Malformed
        → Several code text ≡ Nothing
    by_later None f = absurd (let clash : Partial ≡ Malformed = f in cc)
    by_later (Some read) f = absurd (cc)

-- bytes that are one reply, and others after them
pub IsReply-front : {front : Bytes} {code : ℕ} {lines : List Bytes} → IsReply front code lines
    → (rest : Bytes) → FrontReply (front ++ rest) code lines (length front)
IsReply-front {front} reply rest =
    record { front = front; rest = rest; cut = refl; reply = reply; length_is = refl }

front_of-IsMalformed : {bytes : Bytes} → IsMalformed bytes → front_of bytes ≡ Malformed
front_of-IsMalformed m = front_of-line m.first m.rest m.cut m.is_line
    ∙ by_opening (opening m.first) (is_opened m.first m.is_line)
  where
    by_opening : (o : Opening) → IsOpened m.first o
        → front_by o (take 3 m.first) m.rest (cuts_of m.rest) ≡ Malformed
    by_opening Nothing p = refl
    by_opening (One code text) p =
        absurd (m.opens_none ([], (code, text ∷ [], _, IsReply-front p [])))
    by_opening (Several code text) (s, is) =
        let end = take 3 m.first ++ SP ∷ [] in
        let later = last (lacks_code (SP ∷ []) s ((λ e. omega (arith, e)), tt)) in
        let reply = subst (λ l. IsReply (with_crlf l ++ with_crlf end) code (text ∷ [] ∷ []))
        (sym is) (several s (subst LacksCrlf is m.is_line) later) in
        absurd (m.opens_none (
          with_crlf end,
          subst HasFront
              (append-nil (with_crlf m.first ++ with_crlf end))
              (code, text ∷ [] ∷ [], _, IsReply-front reply []),
        ))

pub IsMalformed-front_of : (bytes : Bytes) → front_of bytes ≡ Malformed → IsMalformed bytes
IsMalformed-front_of bytes e = by_cuts (cuts_of bytes) (AreCuts-cuts_of bytes) e
  where
    by_cuts : (cuts : Cuts) → AreCuts bytes cuts → front_at cuts ≡ Malformed → IsMalformed bytes
    by_cuts [] h f = absurd (let clash : Partial ≡ Malformed = f in cc)
    by_cuts ((line, rest) ∷ cuts) h f = record {
      first = line;
      rest = rest;
      cut = h.0;
      is_line = h.1;
      opens_none = λ (following, (code, lines, used, g)).
          let clash : Malformed ≡ Whole code lines g.rest =
          sym (front_of-line line following refl h.1
          ∙ rw (nothing_opened (opening line) (take 3 line) rest cuts f)) ∙ front_of-FrontReply g
          in cc;
    }

pub IsPartial-front_of : (bytes : Bytes) → front_of bytes ≡ Partial → IsPartial bytes
IsPartial-front_of bytes e = (no_front, formed)
  where
    no_front : ¬ HasFront bytes
    no_front (code, lines, used, f) =
        let clash : Partial ≡ Whole code lines f.rest = sym e ∙ front_of-FrontReply f in cc

    formed : ¬ IsMalformed bytes
    formed m = let clash : Partial ≡ Malformed = sym e ∙ front_of-IsMalformed m in cc

-- one of the three holds
pub some_reading : (bytes : Bytes) → HasFront bytes ⊎ (IsPartial bytes ⊎ IsMalformed bytes)
some_reading bytes = by_front (front_of bytes) refl
  where
    by_front : (front : Front) → front_of bytes ≡ front
        → HasFront bytes ⊎ (IsPartial bytes ⊎ IsMalformed bytes)
    by_front (Whole code lines rest) e = inl (code, lines, _, FrontReply-front_of e)
    by_front Partial e = inr (inl (IsPartial-front_of bytes e))
    by_front Malformed e = inr (inr (IsMalformed-front_of bytes e))

-- ---- what takes bytes

pub front_within : (bytes : Bytes) (code : ℕ) (lines : List Bytes) (used : ℕ)
    → FrontReply bytes code lines used → (0 < used) × (used ≤ length bytes)
front_within bytes code lines used f = (
  omega (arith, f.length_is, some f.reply),
  omega (arith, f.length_is, ap length f.cut, length-append f.front f.rest),
)
  where
    some : {front : Bytes} {code : ℕ} {lines : List Bytes} → IsReply front code lines
        → 0 < length front
    some (code_only {digits} s) = omega (arith, length-append digits crlf)
    some (single {digits} {text} s lacks) = omega (arith, length-append (digits ++ SP ∷ text) crlf)
    some (several {digits} {text} {bytes} s lacks later) = omega (
      arith,
      length-append (with_crlf (digits ++ DASH ∷ text)) bytes,
      length-append (digits ++ DASH ∷ text) crlf,
    )

pub none_of_nothing : ¬ HasFront []
none_of_nothing (code, lines, used, front) =
    let within = front_within [] code lines used front in omega (arith, within.0, within.1)

-- so bytes have one list of replies
pub AllReplies-unique : (bytes : Bytes) (ps qs : List (ℕ × List Bytes)) → AllReplies bytes ps
    → AllReplies bytes qs → ps ≡ qs
AllReplies-unique bytes [] [] h k = refl
AllReplies-unique bytes [] (q ∷ qs) h k =
    absurd (none_of_nothing (subst HasFront h (q.0, q.1, k.0, k.1)))
AllReplies-unique bytes (p ∷ ps) [] h k =
    absurd (none_of_nothing (subst HasFront k (p.0, p.1, h.0, h.1)))
AllReplies-unique bytes (p ∷ ps) (q ∷ qs) h k =
    let same = FrontReply-unique h.1 k.1 in
    let more = AllReplies-unique (drop h.0 bytes) ps qs h.2
    (subst (λ n. AllReplies (drop n bytes) qs) (sym same.2) k.2) in
    λ i. (same.0 i, same.1 i) ∷ more i

-- ---- bytes that others are appended to

pub FrontReply-append : (bytes more : Bytes) (code : ℕ) (lines : List Bytes) (used : ℕ)
    → FrontReply bytes code lines used → FrontReply (bytes ++ more) code lines used
FrontReply-append bytes more code lines used f = record {
  front = f.front;
  rest = f.rest ++ more;
  cut = ap (λ b. b ++ more) f.cut ∙ append_assoc f.front f.rest more;
  reply = f.reply;
  length_is = f.length_is;
}

pub IsMalformed-append : (bytes more : Bytes) → IsMalformed bytes → IsMalformed (bytes ++ more)
IsMalformed-append bytes more m = record {
  first = m.first;
  rest = m.rest ++ more;
  cut = ap (λ b. b ++ more) m.cut ∙ append_assoc (with_crlf m.first) m.rest more;
  is_line = m.is_line;
  opens_none = m.opens_none;
}

pub TakesReply-append : {before : Bytes} (more : Bytes) {reply : ℕ × List Bytes} {after : Bytes}
    → TakesReply before reply after → TakesReply (before ++ more) reply (after ++ more)
TakesReply-append {before} more {reply} t = record {
  used = t.used;
  front = FrontReply-append before more reply.0 reply.1 t.used t.front;
  after_is = ap (λ b. b ++ more) t.after_is
      ∙ sym (drop-append-le t.used before more
      (front_within before reply.0 reply.1 t.used t.front).1);
}
