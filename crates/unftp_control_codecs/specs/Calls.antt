-- Calls of `decode`, one after the other, on a buffer that grows at its end between them.
use Rattle.std.specs.Prelude.{◌≡◌, List, [], ◌∷◌, ◌++◌}
use Rattle.unftp_control_defs.specs.Bytes.{Bytes}
use Rattle.unftp_control_codecs.specs.Codec.{Codec}
use Rattle.unftp_control_codecs.specs.Decoding.{Decoded, Decodes, IsOutOfMemory}

-- what was appended to the buffer before the call, what the call returned, and the codec and the
-- buffer after it
pub record DecodeCall : Type 0 where
  pub appended : Bytes
  pub answer : Decoded
  pub codec : Codec
  pub buffer : Bytes

-- These calls lead from one codec and buffer to another, and for none of them memory runs out.
abbrev pub AreDecodeCalls : Codec → Bytes → List DecodeCall → Codec → Bytes → Type 0
AreDecodeCalls old before [] new after = (new ≡ old) × (after ≡ before)
AreDecodeCalls old before (call ∷ calls) new after =
    Decodes old call.codec (before ++ call.appended) call.buffer call.answer
    × ¬ IsOutOfMemory call.answer
    × AreDecodeCalls call.codec call.buffer calls new after
