-- What stays of a text that others are appended to.
use Rattle.std.proofs.Common.{◌≡◌, ℕ, ◌≤◌, ◌++◌, length, take, sym, ap, ◌∙◌, arith, OnErr, Result, Ok, Err}
use Rattle.std.proofs.lemmas.List.{take-take, length-append}
use Rattle.std.proofs.Math.Seq.{take-append_seam}
use Rattle.unftp_control_defs.specs.Bytes.{Bytes}

-- what was kept of a longer front is kept of its start
pub kept_start : {start : Bytes} (more new : Bytes) {n m : ℕ} → n ≡ length start
    → m ≡ length (start ++ more) → take m new ≡ start ++ more → take n new ≡ start
kept_start {start} more new {n} {m} n_is m_is kept =
    let le : n ≤ m = omega (arith, length-append start more, n_is, m_is) in
    sym (take-take n m new le) ∙ ap (take n) kept ∙ ap (λ k. take k (start ++ more)) n_is
    ∙ take-append_seam start more

pub on_err : {T E : Type 0} (result : Result T E) {P : Type 0} → P → OnErr result P
on_err (Ok value) holds = tt
on_err (Err error) holds = holds
