use Rattle.std.proofs.Common.{◌≡◌, ◌<◌, length, sym, ◌∙◌, append_assoc, append-nil, rules}
use Rattle.std.proofs.lemmas.Str.{utf8_lossy_chunk, utf8_lossy_last_chunk, utf8_lossy_empty}
use Rattle.unftp_control_message.proofs.utf8.replaced.Goals as goal

pub loop-chunk-preserved-in-Continue-branch-3 : goal.loop-chunk-preserved-in-Continue-branch-3
unfolding lib.Utf8.encode
loop-chunk-preserved-in-Continue-branch-3 c =
    let steps = c.in-Some.ensures.steps in
    let some : 0 < length c.in-Some.chunk.invalid.now = search rules in
    let text = utf8_lossy_chunk _ _ _ _ steps.0 steps.3.0 steps.3.1 some in
    rw (c.in_ok-push.ensures.bytes, c.in_ok-push_str.ensures.bytes, c.valid.ensures)
    (simp append_assoc (rw text at c.loop-chunk.invariant))

pub loop-chunk-preserved : goal.loop-chunk-preserved
loop-chunk-preserved c =
    let steps = c.in-Some.ensures.steps in
    let none : length c.in-Some.chunk.invalid.now ≡ 0 = search rules in
    let text = utf8_lossy_last_chunk _ _ _ _ steps.0 steps.3.0 none (steps.2 none) in
    rw (c.in_ok-push_str.ensures.bytes, c.valid.ensures, append_assoc)
    (rw text at c.loop-chunk.invariant)

pub returns : goal.returns
returns c = sym (append-nil _)
    ∙ rw (utf8_lossy_empty _ c.in-None.ensures.steps.0) at c.loop-chunk.invariant
