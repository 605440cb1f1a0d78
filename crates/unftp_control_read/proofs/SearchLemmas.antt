-- A search for the reply at the start that goes on where it stopped.
use Rattle.std.proofs.Common.{◌≡◌, ℕ, suc, ◌-◌, ◌≤◌, ◌==◌, Bool, true, false, if◌then◌else◌, Option, Some, None, List, [], ◌∷◌, ◌++◌, length, take, drop, refl, sym, ap, subst, ◌∙◌, append_assoc, append-nil, length-append, length-drop, drop_at, arith, option_map}
use Rattle.std.proofs.lemmas.List.{take-append-le, take-append-drop, drop-append-le, get_or_append_left}
use Rattle.unftp_control_defs.specs.Bytes.{Bytes, SP, DASH, crlf}
use Rattle.unftp_control_defs.specs.ReplyReader.{LacksCrlf, with_crlf, GoesOn, FrontReply, IsPartial, IsMalformed}
use Rattle.unftp_control_defs.specs.ComputedReply.{Opening, Nothing, One, Several, code_of, opening, opening_by, cuts_of, last_text, later_by, later_lines, Whole, front_after, front_by, front_at, front_of}
use Rattle.unftp_control_defs.proofs.CrlfLemmas.{cuts_of-with_crlf, cuts_of-none}
use Rattle.unftp_control_defs.proofs.ReplyLemmas.{last_text-of, last_text-none, FrontReply-front_of, IsMalformed-front_of, IsPartial-front_of, front_of-line, front_within}
use Rattle.unftp_control_read.specs.Reading.{ReturnsFound}
use Rattle.unftp_control_read.specs.Search.{GoesOnIn, LacksCrlfUpTo, IsBegun, IsSearched, IsAtLine, begun_at}
use Rattle.unftp_control_read.specs.declared.search.Search.{Search}
use Rattle.unftp_control_read.specs.declared.FoundReply.TheVariants as found

-- ---- how far it has come

pub nothing_searched : (bytes : Bytes) → IsSearched bytes (begun_at 0 0)
nothing_searched bytes = record {
  within = (omega arith, omega arith);
  begun = refl;
  lacks = λ k less. absurd (omega (arith, less));
}

-- more bytes at the end change nothing
begun-append : (bytes piece : Bytes) (is_first : Bool) (rest : Bytes)
    → IsBegun is_first bytes rest → IsBegun is_first (bytes ++ piece) (rest ++ piece)
begun-append bytes piece true rest h = ap (λ b. b ++ piece) h
begun-append bytes piece false rest (code, three, opens, lines, front) =
    let same : take 3 (bytes ++ piece) ≡ take 3 bytes = take-append-le 3 bytes piece three
    in (
      code,
      omega (arith, three, length-append bytes piece),
      ap code_of same ∙ opens,
      lines,
      λ more. ap front_of (append_assoc bytes piece more) ∙ front (piece ++ more)
          ∙ (λ i. front_after code lines
          (later_lines (sym same i) (cuts_of (sym (append_assoc rest piece more) i)))),
    )

pub still_searched : (bytes piece : Bytes) (s : Search) → IsSearched bytes s
    → IsSearched (bytes ++ piece) s
still_searched bytes piece s h =
    let line_within : s.line ≤ length bytes = omega (arith, h.within.0, h.within.1) in
    let rest : drop s.line (bytes ++ piece) ≡ drop s.line bytes ++ piece =
    drop-append-le s.line bytes piece line_within in
    let searched : s.offset - s.line ≤ length (drop s.line bytes) =
    omega (arith, h.within.0, h.within.1, length-drop s.line bytes) in
    record {
      within = (h.within.0, omega (arith, h.within.1, length-append bytes piece));
      begun = subst (IsBegun (s.line == 0) (bytes ++ piece)) (sym rest)
          (begun-append bytes piece (s.line == 0) (drop s.line bytes) h.begun);
      lacks = subst (LacksCrlfUpTo (s.offset - s.line)) (sym rest) (λ k less is_cr is_lf. h.lacks k less
          (sym (get_or_append_left (drop s.line bytes) piece 0 k (omega (arith, less, searched)))
          ∙ is_cr)
          (sym (get_or_append_left (drop s.line bytes) piece 0 (suc k) (omega (arith, less, searched)))
          ∙ is_lf));
    }

-- the whole rest
pub all_searched : (bytes : Bytes) (is_first : Bool) (rest : Bytes)
    → IsBegun is_first bytes rest → LacksCrlf rest → IsPartial bytes
all_searched bytes true rest h lacks =
    IsPartial-front_of bytes (ap front_at (ap cuts_of (sym h) ∙ cuts_of-none _ lacks))
all_searched bytes false rest (code, three, opens, lines, front) lacks = IsPartial-front_of bytes
    (ap front_of (sym (append-nil bytes)) ∙ front []
    ∙ ap (λ cuts. front_after code lines (later_lines (take 3 bytes) cuts))
    (ap cuts_of (append-nil rest) ∙ cuts_of-none rest lacks))

-- where the bytes after a line begin
pub after_is_drop : (bytes : Bytes) (line : Bytes) {after : Bytes} (at : ℕ)
    → drop at bytes ≡ with_crlf line ++ after
    → after ≡ drop (length bytes - length after) bytes
after_is_drop bytes line {after} at cut =
    let front = take at bytes ++ with_crlf line in
    let whole : bytes ≡ front ++ after = sym (take-append-drop at bytes)
    ∙ ap (λ b. take at bytes ++ b) cut
    ∙ sym (append_assoc (take at bytes) (with_crlf line) after) in
    sym (ap (drop (length bytes - length after)) whole
    ∙ drop_at front after (length bytes - length after)
    (omega (arith, ap length whole, length-append front after)))

-- ---- what a line does

found_whole : {bytes : Bytes} {code used : ℕ} {lines : List Bytes}
    → FrontReply bytes code lines used → ReturnsFound bytes (found.Whole code used)
found_whole {bytes} {code} {used} {lines} front =
    let within = front_within bytes code lines used front in ((lines, front), within.0, within.1)

-- a first line of several begins with their code
opening_code : (read : Option ℕ) (after : Bytes) {code : ℕ} {text : Bytes}
    → opening_by read after ≡ Several code text → read ≡ Some code
opening_code None after is = cc
opening_code (Some code) [] is = cc
opening_code (Some code) (b ∷ text) is = by_sign (b == SP) (b == DASH) is
  where
    by_sign : (space dash : Bool) {m : ℕ} {t : Bytes}
        → (if space then One code text else (if dash then Several code text else Nothing)) ≡ Several m t
        → Some code ≡ Some m
    by_sign true dash is = cc
    by_sign false true is = cc
    by_sign false false is = cc

-- the first line
module _ {bytes line after : Bytes} (h : IsAtLine bytes true line after) where
  cut : bytes ≡ with_crlf line ++ after
  cut = sym h.begun ∙ h.cut

  first : {o : Opening} → opening line ≡ o
      → front_of bytes ≡ front_by o (take 3 line) after (cuts_of after)
  first is = front_of-line line after cut h.is_line
      ∙ ap (λ o. front_by o (take 3 line) after (cuts_of after)) is

  pub first_malformed : opening line ≡ Nothing → IsMalformed bytes
  first_malformed is = IsMalformed-front_of bytes (first is)

  pub first_whole : {code : ℕ} {text : Bytes} → opening line ≡ One code text
      → ReturnsFound bytes (found.Whole code (length bytes - length after))
  first_whole is = found_whole (FrontReply-front_of (first is))

  pub first_begins : {code : ℕ} {text : Bytes} → opening line ≡ Several code text
      → 3 ≤ length line → GoesOnIn bytes after
  first_begins {code} {text} is three =
      let same : take 3 bytes ≡ take 3 line = ap (take 3) (cut ∙ append_assoc line crlf after)
      ∙ take-append-le 3 line (crlf ++ after) three in (
        code,
        omega (arith, three, ap length cut, length-append (with_crlf line) after, length-append line crlf),
        ap code_of same ∙ opening_code (code_of (take 3 line)) (drop 3 line) is,
        text ∷ [],
        λ more. front_of-line line (after ++ more)
            (ap (λ b. b ++ more) cut ∙ append_assoc (with_crlf line) after more) h.is_line
            ∙ (λ i. front_by (is i) (sym same i) (after ++ more) (cuts_of (after ++ more))),
      )

-- one line after the first
pub later_lines-cut : (digits line after : Bytes) {rest : Bytes} → rest ≡ with_crlf line ++ after
    → LacksCrlf line → later_lines digits (cuts_of rest)
    ≡ later_by (last_text digits line) (line, after) (later_lines digits (cuts_of after))
later_lines-cut digits line after cut is_line =
    ap (later_lines digits) (ap cuts_of cut ∙ cuts_of-with_crlf line after is_line)

pub front_after-more : (code : ℕ) (lines : List Bytes) (line : Bytes) (o : Option (List Bytes × Bytes))
    → front_after code lines (option_map (λ read. (line ∷ read.0, read.1)) o)
    ≡ front_after code (lines ++ line ∷ []) o
front_after-more code lines line None = refl
front_after-more code lines line (Some read) =
    ap (λ read-lines. Whole code read-lines read.1) (sym (append_assoc lines (line ∷ []) read.0))

module _ {bytes line after : Bytes} (h : IsAtLine bytes false line after) where
  abbrev code : ℕ
  code = h.begun.0

  abbrev lines : List Bytes
  lines = h.begun.3

  abbrev later : Bytes → Option (List Bytes × Bytes)
  later more = later_lines (take 3 bytes) (cuts_of (after ++ more))

  at_line : {text : Option Bytes} (more : Bytes) → last_text (take 3 bytes) line ≡ text
      → front_of (bytes ++ more)
      ≡ front_after code lines (later_by text (line, after ++ more) (later more))
  at_line more is = h.begun.4 more
      ∙ ap (front_after code lines) (later_lines-cut (take 3 bytes) line (after ++ more)
      (ap (λ r. r ++ more) h.cut ∙ append_assoc (with_crlf line) after more) h.is_line)
      ∙ ap (λ text. front_after code lines (later_by text (line, after ++ more) (later more))) is

  pub line_goes_on : GoesOn (take 3 bytes) line → GoesOnIn bytes after
  line_goes_on goes = (
    code,
    h.begun.1,
    h.begun.2,
    lines ++ line ∷ [],
    λ more. at_line more (last_text-none (take 3 bytes) line goes)
        ∙ front_after-more code lines line (later more),
  )

  pub line_ends : {m : ℕ} → code_of (take 3 bytes) ≡ Some m → (last : Bytes)
      → line ≡ take 3 bytes ++ SP ∷ last
      → ReturnsFound bytes (found.Whole m (length bytes - length after))
  line_ends {m} opens last is =
      let both : Some code ≡ Some m = sym h.begun.2 ∙ opens in
      let same : code ≡ m = cc in
      found_whole (FrontReply-front_of
      (ap front_of (sym (append-nil bytes))
      ∙ at_line [] (ap (last_text (take 3 bytes)) is ∙ last_text-of (take 3 bytes) last)
      ∙ (λ i. Whole (same i) (lines ++ last ∷ []) (append-nil after i))))
