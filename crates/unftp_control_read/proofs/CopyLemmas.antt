-- The lines that are copied.
use Rattle.std.proofs.Common.{◌≡◌, ℕ, Option, List, [], ◌∷◌, ◌++◌, map, take, Vec, Global, sym, ap, ◌∙◌}
use Rattle.std.proofs.lemmas.List.{map-append}
use Rattle.unftp_control_defs.specs.Bytes.{Bytes, SP}
use Rattle.unftp_control_defs.specs.ReplyReader.{LacksCrlf, with_crlf, GoesOn, FrontReply}
use Rattle.unftp_control_defs.specs.ComputedReply.{Opening, One, Several, opening, cuts_of, last_text, later_by, later_lines, Whole, Partial, front_after, front_by}
use Rattle.unftp_control_defs.proofs.CrlfLemmas.{cuts_of-none}
use Rattle.unftp_control_defs.proofs.ReplyLemmas.{front_of-FrontReply, front_of-line, last_text-of, last_text-none}
use Rattle.unftp_control_read.specs.Reading.{contents}
use Rattle.unftp_control_read.proofs.SearchLemmas.{front_after-more, later_lines-cut}

pub contents_more : (lines more : Vec (Vec ℕ Global) Global) (line : Vec ℕ Global) {bytes : Bytes}
    → more.items ≡ lines.items ++ line ∷ [] → line.items ≡ bytes
    → contents more ≡ contents lines ++ bytes ∷ []
contents_more lines more line e f =
    ap (λ (l : List (Vec ℕ Global)). map (λ (v : Vec ℕ Global). v.items) l) e
    ∙ map-append (λ (v : Vec ℕ Global). v.items) lines.items (line ∷ [])
    ∙ ap (λ b. contents lines ++ b ∷ []) f

-- the lines so far, and what is read of the rest, are what is read of these bytes
abbrev pub Copied : Bytes → Bytes → Bytes → Bytes → List Bytes → Type 0
Copied digits first bytes rest copied = (opened : ℕ)
    → front_after opened (first ∷ []) (later_lines digits (cuts_of bytes))
    ≡ front_after opened copied (later_lines digits (cuts_of rest))

module _ (digits first bytes rest : Bytes) (copied : List Bytes)
    (h : Copied digits first bytes rest copied) where
  -- the rest has no whole line
  pub copied_none : LacksCrlf rest → (opened code : ℕ) (lines : List Bytes) (end : Bytes)
      → front_after opened (first ∷ []) (later_lines digits (cuts_of bytes)) ≡ Whole code lines end
      → ⊥
  copied_none lacks opened code lines end e =
      let clash : Partial ≡ Whole code lines end =
      sym (h opened ∙ ap (λ cuts. front_after opened copied (later_lines digits cuts))
      (cuts_of-none rest lacks)) ∙ e in cc

  module _ (line after : Bytes) (cut : rest ≡ with_crlf line ++ after) (is_line : LacksCrlf line)
    where
      at_line : (code : ℕ) {text : Option Bytes} → last_text digits line ≡ text
          → front_after code (first ∷ []) (later_lines digits (cuts_of bytes)) ≡ front_after code
          copied (later_by text (line, after) (later_lines digits (cuts_of after)))
      at_line code is = h code ∙ ap (front_after code copied) (later_lines-cut digits line after cut is_line
          ∙ ap (λ text. later_by text (line, after) (later_lines digits (cuts_of after))) is)

      pub copied_last : (last : Bytes) → line ≡ digits ++ SP ∷ last → {more : List Bytes}
          → more ≡ copied ++ last ∷ [] → (opened code : ℕ) (lines : List Bytes) (end : Bytes)
          → front_after opened (first ∷ []) (later_lines digits (cuts_of bytes)) ≡ Whole code lines end
          → more ≡ lines
      copied_last last is more_is opened code lines end e =
          let same : Whole opened (copied ++ last ∷ []) after ≡ Whole code lines end =
          sym (at_line opened (ap (last_text digits) is ∙ last_text-of digits last)) ∙ e in
          let whole : copied ++ last ∷ [] ≡ lines = cc in more_is ∙ whole

      pub copied_more : GoesOn digits line → {more : List Bytes} → more ≡ copied ++ line ∷ []
          → Copied digits first bytes after more
      copied_more goes is code = at_line code (last_text-none digits line goes)
          ∙ front_after-more code copied line (later_lines digits (cuts_of after))
          ∙ ap (λ lines. front_after code lines (later_lines digits (cuts_of after))) (sym is)

-- ---- the whole reply

pub first_copied : (line after : Bytes) {bytes : Bytes} → bytes ≡ with_crlf line ++ after
    → LacksCrlf line → {o : Opening} → opening line ≡ o → {code : ℕ} {lines : List Bytes} {used : ℕ}
    → (f : FrontReply bytes code lines used)
    → front_by o (take 3 line) after (cuts_of after) ≡ Whole code lines f.rest
first_copied line after cut is_line is f =
    ap (λ o. front_by o (take 3 line) after (cuts_of after)) (sym is)
    ∙ sym (front_of-line line after cut is_line) ∙ front_of-FrontReply f

module _ (line after : Bytes) {bytes : Bytes} (cut : bytes ≡ with_crlf line ++ after)
    (is_line : LacksCrlf line) where
  pub one_copied : {m : ℕ} {text : Bytes} → opening line ≡ One m text → {code : ℕ}
      {lines : List Bytes} {used : ℕ} → FrontReply bytes code lines used → text ∷ [] ≡ lines
  one_copied {m} {text} is {code} {lines} f =
      let same : Whole m (text ∷ []) after ≡ Whole code lines f.rest =
      first_copied line after cut is_line is f in cc

  pub several_copied : {digits : Bytes} → digits ≡ take 3 line → {m : ℕ} {first : Bytes}
      → opening line ≡ Several m first → {code : ℕ} {lines : List Bytes} {used : ℕ}
      → (f : FrontReply bytes code lines used)
      → front_after m (first ∷ []) (later_lines digits (cuts_of after)) ≡ Whole code lines f.rest
  several_copied same {m} {first} is f =
      ap (λ digits. front_after m (first ∷ []) (later_lines digits (cuts_of after))) same
      ∙ first_copied line after cut is_line is f
