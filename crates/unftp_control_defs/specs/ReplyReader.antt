-- Replies as a client reads them (RFC 959, section 4.2). A line of only three digits is a reply
-- too, whose text is empty.
use Rattle.std.specs.Prelude.{◌≡◌, ◌≢◌, ℕ, ◌<◌, ◌+◌, ◌*◌, ⊤, List, [], ◌∷◌, ◌++◌, length, drop, filter_map}
use Rattle.unftp_control_defs.specs.Bytes.{Bytes, CR, LF, SP, DASH, crlf}
use Rattle.unftp_control_defs.specs.FtpReply.{FtpReply, reply_as_read}

-- there is no CR LF in the text
abbrev pub LacksCrlf : Bytes → Type 0
LacksCrlf [] = ⊤
LacksCrlf (a ∷ []) = ⊤
LacksCrlf (a ∷ b ∷ text) = (a ≡ CR → b ≢ LF) × LacksCrlf (b ∷ text)

abbrev pub with_crlf : Bytes → Bytes
with_crlf line = line ++ crlf

-- the three digits of a code
abbrev pub SpellsCode : Bytes → ℕ → Type 0
SpellsCode digits code = (a : ℕ) × (b : ℕ) × (c : ℕ) × (a < 10) × (b < 10) × (c < 10)
    × (digits ≡ (48 + a) ∷ (48 + b) ∷ (48 + c) ∷ []) × (code ≡ a * 100 + b * 10 + c)

-- the line doesn't begin with these digits and a space
abbrev pub GoesOn : Bytes → Bytes → Type 0
GoesOn digits line = (text : Bytes) → line ≢ digits ++ SP ∷ text

-- The bytes are the later lines of a reply of several, and are read as these: lines that don't
-- begin with the digits and a space, and then one that does.
pub data AreLaterLines (digits : Bytes) : Bytes → List Bytes → Type 0 where
  last : {text : Bytes} → LacksCrlf (digits ++ SP ∷ text)
      → AreLaterLines digits (with_crlf (digits ++ SP ∷ text)) (text ∷ [])
  goes_on : {line bytes : Bytes} {lines : List Bytes} → LacksCrlf line → GoesOn digits line
      → AreLaterLines digits bytes lines → AreLaterLines digits (with_crlf line ++ bytes) (line ∷ lines)

-- The bytes are one reply of this code, and are read as these lines: just the digits; or the
-- digits, a space and a text; or the digits, a dash and a text, and later lines.
pub data IsReply : Bytes → ℕ → List Bytes → Type 0 where
  code_only : {digits : Bytes} {code : ℕ} → SpellsCode digits code
      → IsReply (with_crlf digits) code ([] ∷ [])
  single : {digits text : Bytes} {code : ℕ} → SpellsCode digits code
      → LacksCrlf (digits ++ SP ∷ text) → IsReply (with_crlf (digits ++ SP ∷ text)) code (text ∷ [])
  several : {digits text bytes : Bytes} {code : ℕ} {lines : List Bytes} → SpellsCode digits code
      → LacksCrlf (digits ++ DASH ∷ text) → AreLaterLines digits bytes lines
      → IsReply (with_crlf (digits ++ DASH ∷ text) ++ bytes) code (text ∷ lines)

-- The bytes begin with a reply, which takes `used` of them.
pub record FrontReply (bytes : Bytes) (code : ℕ) (lines : List Bytes) (used : ℕ) : Type 0 where
  pub front : Bytes
  pub rest : Bytes
  pub cut : bytes ≡ front ++ rest
  pub reply : IsReply front code lines
  pub length_is : used ≡ length front

-- the bytes begin with a reply
abbrev pub HasFront : Bytes → Type 0
HasFront bytes = (code : ℕ) × (lines : List Bytes) × (used : ℕ) × FrontReply bytes code lines used

-- some reply begins with the line
abbrev pub Opens : Bytes → Type 0
Opens line = (following : Bytes) × HasFront (with_crlf line ++ following)

-- the bytes begin with a whole line that no reply begins with
pub record IsMalformed (bytes : Bytes) : Type 0 where
  pub first : Bytes
  pub rest : Bytes
  pub cut : bytes ≡ with_crlf first ++ rest
  pub is_line : LacksCrlf first
  pub opens_none : ¬ Opens first

-- the bytes don't begin with a reply, and are not malformed: more of them are needed
abbrev pub IsPartial : Bytes → Type 0
IsPartial bytes = (¬ HasFront bytes) × (¬ IsMalformed bytes)

-- the bytes are replies one after the other, to the end, with these codes and lines
abbrev pub AllReplies : Bytes → List (ℕ × List Bytes) → Type 0
AllReplies bytes [] = bytes ≡ []
AllReplies bytes (reply ∷ replies) =
    (used : ℕ) × FrontReply bytes reply.0 reply.1 used × AllReplies (drop used bytes) replies

-- the bytes are read as what these replies show, and as nothing else
abbrev pub ReadsBack : Bytes → List FtpReply → Type 0
ReadsBack bytes replies = AllReplies bytes (filter_map reply_as_read replies)
    × ((others : List (ℕ × List Bytes)) → AllReplies bytes others
    → others ≡ filter_map reply_as_read replies)
