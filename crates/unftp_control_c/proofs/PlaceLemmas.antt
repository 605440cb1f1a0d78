-- Where the name and the value of a line are found.
use Rattle.std.proofs.Common.{◌≡◌, ℕ, Bool, true, false, ◌+◌, ◌-◌, ◌<◌, [], ◌∷◌, ◌++◌, length, take, drop, refl, sym, ap, subst, ◌∙◌, arith, append_assoc, length-append}
use Rattle.std.specs.Prelude.{if◌then◌else◌, nat_lt}
use Rattle.std.proofs.lemmas.Bool.{cond_both, ltb-true}
use Rattle.std.proofs.Math.Seq.{drop-append_seam, take-append_seam}
use Rattle.std.proofs.lemmas.List.{drop-take, length-take-le, take-take}
use lib.Pointwise.{bytes_decides}
use Rattle.unftp_control_codecs.specs.WordsMeaning.{EndsAfterByte}
use Rattle.unftp_control_commands.specs.Areas.{overwritten}
use Rattle.unftp_control_defs.specs.Bytes.{Bytes, crlf}
use Rattle.unftp_control_c.specs.Next.{NextCall, Given, given_left, has_end, line_text, name_in, value_place, value_in}
use Rattle.unftp_control_c.proofs.AreaLemmas.{parts_apart}

-- bytes that a line begins
module _ (bytes line : Bytes) (front : take (length line) bytes ≡ line) where
  abbrev text_len : ℕ
  text_len = length line - (if has_end line crlf then 2 else 1)

  text_in : line_text line ≡ take text_len bytes
  text_in = ap (take text_len) (sym front)
      ∙ take-take text_len (length line) bytes (omega arith)

  -- a value at the end of its text is found in them
  end_found : (value : Bytes) → has_end (line_text line) value ≡ true
      → 0 < length (line_text line) - length value
      → take (length value) (drop (length (line_text line) - length value) bytes) ≡ value
  end_found value ends some =
      let at : ℕ = length (line_text line) - length value in
      let long : length (line_text line) ≡ text_len =
      length-take-le text_len line (omega arith) in
      let whole : text_len ≡ at + length value = omega (arith, long, some) in
      let in_text : value ≡ drop at (line_text line) =
      (bytes_decides value (drop at (line_text line))).0 ends in
      sym (in_text ∙ ap (drop at) (text_in ∙ ap (λ n. take n bytes) whole)
      ∙ drop-take at (length value) bytes)

  place_found : (value : Bytes) → 0 < value_place line value
      → take (length value) (drop (value_place line value) bytes) ≡ value
  place_found [] = λ some. refl
  place_found (b ∷ value) = cond_both (has_end (line_text line) (b ∷ value))
      (length (line_text line) - length (b ∷ value)) 0
      (λ at. 0 < at → take (length (b ∷ value)) (drop at bytes) ≡ b ∷ value)
      (end_found (b ∷ value)) (λ _ some. absurd (omega (arith, some)))

-- a value right before a CR LF, after another byte, is in place
module _ (line value : Bytes) (some : 0 < length value) (end : EndsAfterByte line (value ++ crlf)) where
  abbrev front : Bytes
  front = end.0

  ends : (front end : Bytes) → has_end (front ++ end) end ≡ true
  ends front end =
      let at : length (front ++ end) - length end ≡ length front =
      omega (arith, length-append front end) in
      (bytes_decides end (drop (length (front ++ end) - length end) (front ++ end))).1
      (sym (ap (λ n. drop n (front ++ end)) at ∙ drop-append_seam front end))

  whole : line ≡ (front ++ value) ++ crlf
  whole = end.1 ∙ sym (append_assoc front value crlf)

  text : line_text line ≡ front ++ value
  text =
      let long : length line - 2 ≡ length (front ++ value) =
      omega (arith, ap length whole, length-append (front ++ value) crlf) in
      rw (subst (λ line. has_end line crlf ≡ true) (sym whole)
      (ends (front ++ value) crlf))
      ((λ i. take (long i) (whole i)) ∙ take-append_seam (front ++ value) crlf)

  front_long : length line ≡ length front + length value + 2
  front_long = omega (
    arith,
    ap length whole,
    length-append (front ++ value) crlf,
    length-append front value,
  )

  some_front : 0 < length front
  some_front = end.2 (omega (arith, some, length-append value crlf))

  -- by its bytes, since only some have a place
  some_place : (v : Bytes) → 0 < length v → has_end (line_text line) v ≡ true
      → value_place line v ≡ length (line_text line) - length v
  some_place [] none ends = absurd (omega (arith, none))
  some_place (b ∷ v) some ends = rw ends refl

  pub usual_place : value_place line value ≡ length line - 2 - length value
  usual_place = some_place value some
      (subst (λ text. has_end text value ≡ true) (sym text) (ends front value))
      ∙ omega (arith, ap length text, front_long, length-append front value)

  pub usual_some : 0 < length line - 2 - length value
  usual_some = omega (arith, front_long, some_front)

-- the name and the value of a line that was given
module _ (call : NextCall) (line : Bytes) (front : take (length line) call.bytes ≡ line)
    (given : Given) where
  abbrev at : ℕ
  at = value_place line given.value

  abbrev area_after : Bool → Bytes
  area_after stays = overwritten (given.name ++ (if stays then [] else given.value)) call.area

  found_where : (stays : Bool)
      → (stays ≡ true → take (length given.value) (drop at call.bytes) ≡ given.value)
      → (take (length given.name) (area_after stays) ≡ given.name)
      × (take (length given.value) (if stays then drop at call.bytes
      else drop (length given.name) (area_after stays)) ≡ given.value)
  found_where true found = (
    (parts_apart given.name [] (drop (length (given.name ++ [])) call.area)).0,
    found refl,
  )
  found_where false found = parts_apart given.name given.value
      (drop (length (given.name ++ given.value)) call.area)

  pub given_found : (name_in (given_left call line given) ≡ given.name)
      × (value_in call.bytes (given_left call line given) ≡ given.value)
  given_found = found_where (nat_lt 0 at)
      (λ some. place_found call.bytes line front given.value (ltb-true 0 at some))
