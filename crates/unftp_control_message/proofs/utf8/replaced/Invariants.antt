-- What was made, with the text of the bytes that are left, is the text of all the bytes.
use Rattle.std.proofs.Common.{◌≡◌, ◌++◌}
use Rattle.std.specs.Prelude.{string_bytes}
use Rattle.std.specs.Str.Chunks.{utf8_chunks_rest}
use Rattle.std.specs.Str.Lossy.{utf8_lossy}
use Rattle.unftp_control_message.proofs.utf8.replaced.Given as goal

abbrev pub invariant-loop-chunk : goal.invariant-loop-chunk
invariant-loop-chunk l = string_bytes l.text ++ utf8_lossy (utf8_chunks_rest l.chunk-iterator)
    ≡ utf8_lossy l.fn.bytes
