-- What one call of `decode` scans.
use Rattle.std.proofs.Common.{◌≡◌, ℕ, ◌+◌, ◌≤◌, length, Option, Some, None, refl, inl, inr, arith, length-drop}
use Rattle.unftp_control_defs.specs.Bytes.{Bytes}
use Rattle.unftp_control_codecs.specs.declared.FirstLine.{FirstLine}
use Rattle.unftp_control_codecs.specs.declared.FirstLine.TheVariants.{Incomplete, TooLong, Complete}
use Rattle.unftp_control_codecs.specs.Codec.{Codec}
use Rattle.unftp_control_codecs.specs.FirstLine.{first_line, goes_on, goes_on_by}
use Rattle.unftp_control_codecs.specs.LineFeed.{line_feed_from}
use Rattle.unftp_control_codecs.specs.Decoding.{Decoded, Decodes, DecodesFound, IsOutOfMemory}
use Rattle.unftp_control_codecs.proofs.FirstLineLemmas.{Counts, counts}
use Rattle.unftp_control_codecs.proofs.MemoryLemmas.{ran_out}

-- The bytes that were scanned are those that left the buffer and those that the scan offset moved
-- by; the offset stays within the buffer.
pub counts_decode : (old new : Codec) (before after : Bytes) → old.place ≤ length before
    → (answer : Decoded) → ¬ IsOutOfMemory answer → Decodes old new before after answer
    → (new.tests + old.place + length after ≡ old.tests + new.place + length before)
    × (new.place ≤ length after)
counts_decode old new before after within answer memory decodes =
    by_found (first_line old before) (counts old before within) decodes
  where
    by_found : (found : FirstLine) → Counts old before (goes_on old before) found
        → DecodesFound found old new before after answer
        → (new.tests + old.place + length after ≡ old.tests + new.place + length before)
        × (new.place ≤ length after)
    by_found (Incomplete n) c d = rw (d.goes_on_at, d.taken) (
      omega (arith, c.counted, c.all, length-drop n before),
      omega (arith, c.all, length-drop n before),
    )
    by_found (TooLong n) c d = rw (d.goes_on_at, d.taken)
        (omega (arith, c.0.counted, c.0.within, c.1, length-drop n before), omega (arith, c.1))
    by_found (Complete n) c (inl d) = rw (d.goes_on_at, d.taken)
        (omega (arith, c.0.counted, c.0.within, length-drop n before), omega arith)
    by_found (Complete n) c (inr d) = absurd (memory (ran_out answer d.1.returned_is))

-- The limit stays, and the count doesn't fall.
pub record Keeps (old new : Codec) : Type 0 where
  pub limit : new.limit ≡ old.limit
  pub never_fewer : old.tests ≤ new.tests

pub goes_on_keeps : (codec : Codec) (bytes : Bytes) → Keeps codec (goes_on codec bytes)
goes_on_keeps codec bytes = by_feed (line_feed_from bytes codec.place)
  where
    by_feed : (o : Option ℕ) → Keeps codec (goes_on_by codec (length bytes) o)
    by_feed None = record { limit = refl; never_fewer = omega arith }
    by_feed (Some k) = record { limit = refl; never_fewer = omega arith }
