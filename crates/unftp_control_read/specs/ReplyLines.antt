-- Where the lines of a reply are in its bytes (RFC 959, section 4.2).
use Rattle.std.specs.Prelude.{◌≡◌, ◌≤◌, ◌+◌, ◌==◌, ◌||◌, ℕ, Bool, true, false, List, [], ◌∷◌, take, drop, length, ◌++◌, Option, Some, None}
use Rattle.unftp_control_defs.specs.Bytes.{Bytes}
use Rattle.unftp_control_defs.specs.ReplyReader.{LacksCrlf, with_crlf}
use Rattle.unftp_control_read.specs.declared.places.LinePlace.{LinePlace}

-- The text of a line. With a code it is what comes after the code and the byte that follows that.
abbrev pub reply_text : Bool → Bytes → Bytes
reply_text true line = drop 4 line
reply_text false line = line

-- the text that is at this place
abbrev pub text_at : Bytes → LinePlace → Bytes
text_at bytes place = take place.text_len (drop place.text_at bytes)

-- A line begins at `at`, and this is its place: the next line begins where it ends, and its text is
-- right before its CR LF. The first line, and one that no byte follows, has a code.
pub record IsLineAt (bytes : Bytes) (at : ℕ) (place : LinePlace) : Type 0 where
  pub line : Bytes
  pub is_line : LacksCrlf line
  pub cut : drop at bytes ≡ with_crlf line ++ drop place.next bytes
  pub text : text_at bytes place ≡ reply_text (at == 0 || length bytes == place.next) line
  pub in_order : (at ≤ place.text_at) × (place.text_at + place.text_len + 2 ≡ place.next)
      × (place.next ≤ length bytes)

-- the line that begins there, or no line that begins there is complete
abbrev pub FindsLine : Bytes → ℕ → Option LinePlace → Type 0
FindsLine bytes at (Some place) = IsLineAt bytes at place
FindsLine bytes at None = LacksCrlf (drop at bytes)

-- These places are found one after the other, from this one on to the end.
abbrev pub AreLinePlaces : Bytes → ℕ → List LinePlace → Type 0
AreLinePlaces bytes at [] = FindsLine bytes at None
AreLinePlaces bytes at (place ∷ places) =
    FindsLine bytes at (Some place) × AreLinePlaces bytes place.next places
