-- What contracts see of a `LineFinder`, and what a search leaves of it.
use Rattle.std.specs.Prelude.{◌≡◌, ℕ, ◌+◌, ◌-◌, ◌≤◌, ◌⊎◌, Bool, false, length, take, drop, Option, None, Some}
use Rattle.unftp_control_defs.specs.Bytes.{Bytes}
use Rattle.unftp_control_codecs.specs.declared.FirstLine.{FirstLine}
use Rattle.unftp_control_codecs.specs.declared.FirstLine.TheVariants.{Incomplete, TooLong, Complete}
use Rattle.unftp_control_codecs.specs.Codec.{Codec}
use Rattle.unftp_control_codecs.specs.LineFeed.{line_feeds}

pub record Finder : Type 0 where
  -- how many of its bytes were compared with a line feed, and which of those are one: a bit for
  -- each, the lowest for the first
  pub compared : ℕ
  pub line_feeds : ℕ
  -- the others as a codec has them
  pub tests : ℕ
  pub limit : Option ℕ
  pub skipping : Bool

-- it has begun no line
abbrev pub new_finder : Option ℕ → Finder
new_finder limit = record {
  compared = 0;
  line_feeds = 0;
  tests = 0;
  limit = limit;
  skipping = false;
}

abbrev pub restarted : Finder → Finder
restarted finder = record finder { compared = 0; line_feeds = 0; skipping = false }

-- a codec that has yet to search the same bytes
abbrev pub codec_of : Finder → Codec
codec_of finder = record {
  place = 0;
  tests = finder.tests;
  limit = finder.limit;
  skipping = finder.skipping;
}

-- It has compared the first of these bytes, and knows which of them are line feeds. Where there is
-- one, they are fewer than a block.
pub record HasCompared (finder : Finder) (bytes : Bytes) : Type 0 where
  pub within : finder.compared ≤ length bytes
  pub shows : finder.line_feeds ≡ line_feeds (take finder.compared bytes)
  pub few : (finder.line_feeds ≡ 0) ⊎ (finder.compared ≤ 31)

-- It goes on after n of these bytes, and each byte was compared once that was not before.
pub record GoesOnAfter (n : ℕ) (old : Finder) (bytes : Bytes) (new : Finder) : Type 0 where
  -- The bytes that are left begin with those that it has compared.
  pub rest : HasCompared new (drop n bytes)
  -- The count grows by the bytes from the old end of what is compared to the new one, each once.
  pub once : new.tests + old.compared ≡ old.tests + (n + new.compared)
  -- The count never falls.
  pub never_fewer : old.tests ≤ new.tests

-- after the line feed, or where there is none, at the same bytes
abbrev pub after_line_feed : Option ℕ → ℕ
after_line_feed None = 0
after_line_feed (Some k) = k + 1

-- after the line, or after the bytes that are dropped
abbrev pub after_found : FirstLine → ℕ
after_found (Incomplete n) = n
after_found (TooLong n) = n
after_found (Complete n) = n

-- How many of the bytes there it has compared: all that are left, where no line is complete; after
-- a line, fewer than a block.
abbrev pub ComparedAfter : FirstLine → Bytes → ℕ → Type 0
ComparedAfter (Incomplete n) bytes compared = compared ≡ length bytes - n
ComparedAfter (TooLong n) bytes compared = compared ≤ 31
ComparedAfter (Complete n) bytes compared = compared ≤ 31
