-- What is written for a plain reply is read back as what it shows, whatever follows.
use Rattle.std.proofs.Common.{◌≡◌, ◌≢◌, ℕ, ◌+◌, ◌/◌, ◌%◌, ◌^◌, ◌<◌, ◌≤◌, Bool, true, false, List, [], ◌∷◌, ◌++◌, flat_map, filter_map, map, drop_at, length, ◌⊎◌, Some, decimal, refl, sym, ap, subst, ◌∙◌, inl, inr, append_assoc, arith, ne_eqb}
use Rattle.std.specs.Char.{is_ascii_digit}
use Rattle.std.specs.List.{AllByRecursion}
use Rattle.std.proofs.lemmas.Bool.{cases_Bool, true≢false}
use Rattle.std.proofs.lemmas.Fmt.{decimal_digit, decimal_step}
use Rattle.std.proofs.lemmas.Option.{same_Some, none-some}
use Rattle.unftp_control_defs.specs.Bytes.{Bytes, LF, SP, DASH, crlf, Lacks}
use Rattle.unftp_control_defs.specs.FtpReply.{FtpReply, Nothing, CodeAndMsg, MultiLine, IsReadable, padded, spaced_line, lines_after_code, encoded, lines_as_read, reply_as_read, HasThreeDigits, IsPlain}
use Rattle.unftp_control_defs.specs.ReplyReader.{LacksCrlf, SpellsCode, GoesOn, AreLaterLines, last, goes_on, IsReply, code_only, single, several, FrontReply, AllReplies, ReadsBack}
use Rattle.unftp_control_defs.proofs.CrlfLemmas.{LacksCrlf-Lacks}
use Rattle.unftp_control_defs.proofs.ReplyLemmas.{AllReplies-unique, IsReply-front, digit_is_digit, lacks_code}

lacks_padded : (line : Bytes) → Lacks LF line → Lacks LF (padded line)
lacks_padded [] h = tt
lacks_padded (b ∷ line) h = by_digit (cases_Bool (is_ascii_digit b))
  where
    by_digit : (is_ascii_digit b ≡ true) ⊎ (is_ascii_digit b ≡ false) → Lacks LF (padded (b ∷ line))
    by_digit (inl e) = rw e ((λ f. omega arith), h)
    by_digit (inr e) = rw e h

-- a padded line begins with no digit
no_digit : (line : Bytes) {b : ℕ} {rest : Bytes} → padded line ≡ b ∷ rest → is_ascii_digit b ≡ false
no_digit [] e = absurd (cc)
no_digit (a ∷ line) {b} {rest} e = by_digit (is_ascii_digit a) refl
  where
    by_digit : (test : Bool) → is_ascii_digit a ≡ test → is_ascii_digit b ≡ false
    by_digit true f = let g : SP ∷ a ∷ line ≡ b ∷ rest = rw f at e in
        let same : SP ≡ b = cc in ap is_ascii_digit (sym same)
    by_digit false f = let g : a ∷ line ≡ b ∷ rest = rw f at e in
        let same : a ≡ b = cc in ap is_ascii_digit (sym same) ∙ f

goes_on_padded : (digits : Bytes) (code : ℕ) → SpellsCode digits code → (line : Bytes)
    → GoesOn digits (padded line)
goes_on_padded digits code spells line text e =
    let clash = no_digit line (e ∙ ap (λ d. d ++ SP ∷ text) spells.6) in
    true≢false (sym (digit_is_digit spells.0 spells.3) ∙ clash)

-- 100 to 999 are written as three digits
pub decimal_spells : (code : ℕ) → HasThreeDigits code → SpellsCode (decimal code) code
decimal_spells code h =
    let tens : 10 ≤ code = omega arith in
    let fits : code < 2 ^ 64 = omega arith in
    let high : 10 ≤ code / 10 = omega arith in
    let high_fits : code / 10 < 2 ^ 64 = omega arith in
    let top : code / 10 / 10 < 10 = omega arith in (
      code / 10 / 10,
      (code / 10) % 10,
      code % 10,
      top,
      omega arith,
      omega arith,
      decimal_step code tens fits ∙ ap (λ d. d ++ (48 + code % 10) ∷ [])
          (decimal_step (code / 10) high high_fits ∙ ap (λ d. d ++ (48 + (code / 10) % 10) ∷ [])
          (decimal_digit (code / 10 / 10) top)),
      omega arith,
    )

module _ (code : ℕ) (three : HasThreeDigits code) where
  spells : SpellsCode (decimal code) code
  spells = decimal_spells code three

  -- a line after the digits and a byte
  lacks_after : {b : ℕ} (text : Bytes) → b ≢ LF → Lacks LF text
      → LacksCrlf (decimal code ++ b ∷ text)
  lacks_after {b} text ne h = lacks_code (b ∷ text) spells (ne, h)

  later_lines : (next : Bytes) (lines : List Bytes) → Lacks LF next → AllByRecursion (Lacks LF) lines
      → AreLaterLines (decimal code) (lines_after_code code next lines)
      (lines_as_read (next ∷ lines))
  later_lines next [] h hs =
      subst (λ b. AreLaterLines (decimal code) b (next ∷ []))
      (append_assoc (decimal code) (SP ∷ next) crlf)
      (last (lacks_after next (λ e. omega (arith, e)) h))
  later_lines next (line ∷ lines) h hs =
      goes_on (LacksCrlf-Lacks (padded next) (lacks_padded next h))
      (goes_on_padded (decimal code) code spells next) (later_lines line lines hs.0 hs.1)

  one_line : (text : Bytes) → Lacks LF text
      → IsReply (decimal code ++ spaced_line text) code (text ∷ [])
  one_line text h = subst (λ b. IsReply b code (text ∷ []))
      (append_assoc (decimal code) (SP ∷ text) crlf)
      (single spells (lacks_after text (λ e. omega (arith, e)) h))

  message : (text : Bytes) → Lacks LF text → IsReply (encoded (CodeAndMsg code text)) code (text ∷ [])
  message [] h = code_only spells
  message (b ∷ text) h = rw (ne_eqb (length (b ∷ text)) 0 (λ e. omega (arith, e)))
      (one_line (b ∷ text) h)

  some_lines : (lines : List Bytes) → AllByRecursion (Lacks LF) lines
      → IsReply (encoded (MultiLine code lines)) code (lines_as_read lines)
  some_lines [] h = one_line [] tt
  some_lines (line ∷ []) h = one_line line h.0
  some_lines (line ∷ next ∷ lines) h =
      subst (λ b. IsReply b code (lines_as_read (line ∷ next ∷ lines)))
      (append_assoc (decimal code ++ DASH ∷ padded line) crlf (lines_after_code code next lines)
      ∙ append_assoc (decimal code) (DASH ∷ padded line) (crlf ++ lines_after_code code next lines)
      ∙ ap (λ t. decimal code ++ DASH ∷ t)
      (sym (append_assoc (padded line) crlf (lines_after_code code next lines))))
      (several spells (lacks_after (padded line) (λ e. omega (arith, e)) (lacks_padded line h.0))
      (later_lines next lines h.1.0 h.1.1))

-- The bytes of a plain reply that writes any are one reply, and what it shows is read.
IsReply-encoded : (reply : FtpReply) → IsPlain reply → {code : ℕ} {lines : List Bytes}
    → reply_as_read reply ≡ Some (code, lines) → IsReply (encoded reply) code lines
IsReply-encoded Nothing h {code} {lines} e = absurd (none-some (code, lines) e)
IsReply-encoded (CodeAndMsg n text) h {code} {lines} e =
    subst (λ (q : ℕ × List Bytes). IsReply (encoded (CodeAndMsg n text)) q.0 q.1)
    (same_Some (n, text ∷ []) (code, lines) e) (message n h.0 text h.1)
IsReply-encoded (MultiLine n ls) h {code} {lines} e =
    subst (λ (q : ℕ × List Bytes). IsReply (encoded (MultiLine n ls)) q.0 q.1)
    (same_Some (n, lines_as_read ls) (code, lines) e) (some_lines n h.0 ls h.1)

-- So it is the front, whatever follows.
pub FrontReply-encoded : (reply : FtpReply) (more : Bytes) → IsPlain reply
    → {code : ℕ} {lines : List Bytes} → reply_as_read reply ≡ Some (code, lines)
    → FrontReply (encoded reply ++ more) code lines (length (encoded reply))
FrontReply-encoded reply more h e = IsReply-front (IsReply-encoded reply h e) more

-- So the bytes of plain replies in a row are read as what they show, and as nothing else
-- (`AllReplies-unique`).
next_reply : (reply : FtpReply) (more : Bytes) (rest : List (ℕ × List Bytes)) {code : ℕ}
    {lines : List Bytes} → IsPlain reply → reply_as_read reply ≡ Some (code, lines)
    → AllReplies more rest → AllReplies (encoded reply ++ more) ((code, lines) ∷ rest)
next_reply reply more rest h e all = (
  length (encoded reply),
  FrontReply-encoded reply more h e,
  subst (λ (t : Bytes). AllReplies t rest)
      (sym (drop_at (encoded reply) more (length (encoded reply)) refl)) all,
)

AllReplies-encoded : (replies : List FtpReply) → AllByRecursion IsPlain replies
    → AllReplies (flat_map encoded replies) (filter_map reply_as_read replies)
AllReplies-encoded [] h = refl
AllReplies-encoded (Nothing ∷ replies) h = AllReplies-encoded replies h.1
AllReplies-encoded (CodeAndMsg code text ∷ replies) h =
    next_reply (CodeAndMsg code text) (flat_map encoded replies) (filter_map reply_as_read replies)
    h.0 refl (AllReplies-encoded replies h.1)
AllReplies-encoded (MultiLine code lines ∷ replies) h =
    next_reply (MultiLine code lines) (flat_map encoded replies) (filter_map reply_as_read replies)
    h.0 refl (AllReplies-encoded replies h.1)

-- So the bytes of plain replies are read as what they show, and as nothing else.
pub ReadsBack-encoded : (replies : List FtpReply) → AllByRecursion IsPlain replies
    → ReadsBack (flat_map encoded replies) replies
ReadsBack-encoded replies plain =
    let read = AllReplies-encoded replies plain in (
      read,
      λ others h. AllReplies-unique (flat_map encoded replies) others
          (filter_map reply_as_read replies) h read,
    )

-- what readable replies show
pub are_plain : (replies : List FtpReply) → AllByRecursion IsReadable replies
    → AllByRecursion IsPlain replies
are_plain [] each = tt
are_plain (Nothing ∷ replies) each = absurd each.0
are_plain (CodeAndMsg code text ∷ replies) each = (each.0, are_plain replies each.1)
are_plain (MultiLine code lines ∷ replies) each = (each.0, are_plain replies each.1)

pub are_shown : (replies : List FtpReply) → AllByRecursion IsReadable replies
    → map Some (filter_map reply_as_read replies) ≡ map reply_as_read replies
are_shown [] each = refl
are_shown (Nothing ∷ replies) each = absurd each.0
are_shown (CodeAndMsg code text ∷ replies) each =
    ap (λ more. Some (code, text ∷ []) ∷ more) (are_shown replies each.1)
are_shown (MultiLine code lines ∷ replies) each =
    ap (λ more. Some (code, lines_as_read lines) ∷ more) (are_shown replies each.1)
