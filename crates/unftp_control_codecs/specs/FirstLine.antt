-- What a codec finds at the start of its bytes, and where it goes on.
use Rattle.std.specs.Prelude.{◌≡◌, ℕ, ◌+◌, ◌-◌, ◌≤◌, Bool, true, false, if◌then◌else◌, [], length, take, Option, None, Some}
use Rattle.unftp_control_defs.specs.Bytes.{Bytes, LF, Lacks}
use Rattle.unftp_control_defs.specs.Events.{exceeds}
use Rattle.unftp_control_codecs.specs.declared.FirstLine.{FirstLine}
use Rattle.unftp_control_codecs.specs.declared.FirstLine.TheVariants.{Incomplete, TooLong, Complete}
use Rattle.unftp_control_codecs.specs.Codec.{Codec, is_too_long}
use Rattle.unftp_control_codecs.specs.LineFeed.{line_feed_from}

-- the first line of so many bytes, which ends there, or isn't complete
abbrev pub first_line_by : Codec → ℕ → Option ℕ → FirstLine
first_line_by codec n None = Incomplete (if is_too_long codec (n + 1) then n else 0)
first_line_by codec n (Some k) =
    if is_too_long codec (k + 1) then TooLong (k + 1) else Complete (k + 1)

abbrev pub first_line : Codec → Bytes → FirstLine
first_line codec bytes =
    first_line_by codec (length bytes) (line_feed_from bytes codec.place)

-- the codec after n bytes without a line feed: at their end, or where they are dropped, after them
abbrev pub after_none : Codec → ℕ → Bool → Codec
after_none codec n too_long = record codec {
  place = if too_long then 0 else n;
  tests = codec.tests + (n - codec.place);
  skipping = too_long;
}

-- the codec after a line that ends at k: at the next line, or where it is not too long, before it
abbrev pub after_line : Codec → ℕ → Bool → Codec
after_line codec k too_long = record codec {
  place = if too_long then 0 else codec.place;
  tests = codec.tests + (k + 1 - codec.place);
  skipping = if too_long then false else codec.skipping;
}

-- where it goes on
abbrev pub goes_on_by : Codec → ℕ → Option ℕ → Codec
goes_on_by codec n None = after_none codec n (is_too_long codec (n + 1))
goes_on_by codec n (Some k) = after_line codec k (is_too_long codec (k + 1))

abbrev pub goes_on : Codec → Bytes → Codec
goes_on codec bytes = goes_on_by codec (length bytes) (line_feed_from bytes codec.place)

-- it has begun no line
abbrev pub reset : Codec → Codec
reset codec = record codec { place = 0; skipping = false }

-- There is no line feed before the codec's scan offset, which is within the bytes.
abbrev pub IsScannedWithin : Codec → Bytes → Type 0
IsScannedWithin codec bytes = (codec.place ≤ length bytes) × Lacks LF (take codec.place bytes)

-- The bytes that were dropped begin a line that is too long; while the codec is not skipping, there
-- are none.
abbrev pub IsDropped : Codec → Bytes → Type 0
IsDropped codec dropped = Lacks LF dropped
    × (codec.skipping ≡ true → exceeds codec.limit (length dropped + 1) ≡ true)
    × (codec.skipping ≡ false → dropped ≡ [])

-- how many bytes of an incomplete line are kept: none of one that is too long already
abbrev pub kept_length : Option ℕ → Bytes → ℕ
kept_length limit incomplete =
    if exceeds limit (length incomplete + 1) then 0 else length incomplete
