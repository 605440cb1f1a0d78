-- Where a search for a line feed ends, and what a block of bytes shows.
use Rattle.std.specs.Prelude.{◌≡◌, ℕ, ◌+◌, ◌≤◌, Bool, ◌==◌, length, map, take, drop, Option, option_map, position}
use Rattle.std.specs.Simd.Lanes.{mask_l}
use Rattle.unftp_control_defs.specs.Bytes.{Bytes, LF}
use Rattle.unftp_control_codecs.specs.declared.scan.Block.{Block}

abbrev pub is_line_feed : ℕ → Bool
is_line_feed byte = byte == LF

-- the first line feed at or after a place
abbrev pub line_feed_from : Bytes → ℕ → Option ℕ
line_feed_from bytes place = option_map (λ i. place + i) (position is_line_feed (drop place bytes))

-- which of some bytes are line feeds: a bit for each, the lowest for the first
abbrev pub line_feeds : Bytes → ℕ
line_feeds bytes = mask_l (map is_line_feed bytes)

-- A block is of these bytes, and shows which of its own are line feeds. It has at most 32.
pub record IsBlock (block : Block) (bytes : Bytes) : Type 0 where
  pub within : block.start + block.length ≤ length bytes
  pub few : block.length ≤ 32
  pub shows : block.line_feeds ≡ line_feeds (take block.length (drop block.start bytes))
