-- Calls of `decode`, put together.
use Rattle.std.proofs.Common.{◌≡◌, ◌+◌, ◌≤◌, List, [], ◌∷◌, ◌++◌, length, arith, length-append}
use Rattle.std.specs.List.{sum_by}
use Rattle.std.proofs.lemmas.List.Sums.{sum_by-cons}
use Rattle.unftp_control_defs.specs.Bytes.{Bytes}
use Rattle.unftp_control_codecs.specs.Calls.{AreDecodeCalls, DecodeCall}
use Rattle.unftp_control_codecs.specs.Codec.{Codec}
use Rattle.unftp_control_codecs.proofs.CallLemmas.{counts_decode}

pub scans_of_calls : (old : Codec) (before : Bytes) (calls : List DecodeCall) (new : Codec)
    (after : Bytes) → old.place ≤ length before → AreDecodeCalls old before calls new after
    → (new.tests + old.place + length after ≡ old.tests + new.place +
    (length before + sum_by (λ call. length call.appended) calls)) × (new.place ≤ length after)
scans_of_calls old before [] new after within h = rw (h.0, h.1) (omega arith, within)
scans_of_calls old before (call ∷ calls) new after within h =
    let joined = length-append before call.appended in
    let one = counts_decode old call.codec (before ++ call.appended) call.buffer
    (omega (arith, joined)) call.answer h.1 h.0 in
    let more = scans_of_calls call.codec call.buffer calls new after one.1 h.2 in
    let sum = sum_by-cons (λ call. length call.appended) call calls in
    (omega (arith, joined, one.0, more.0, sum), more.1)
