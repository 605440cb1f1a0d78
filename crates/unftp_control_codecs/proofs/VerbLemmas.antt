-- Where the verb of a line ends.
use Rattle.std.proofs.Common.{◌≡◌, ℕ, zero, suc, ◌+◌, ◌<◌, ◌≤◌, false, [], ◌∷◌, length, drop, get_or, arith}
use Rattle.std.specs.List.{position_or_len}
use Rattle.unftp_control_defs.specs.Bytes.{Bytes}
use Rattle.unftp_control_defs.specs.Verbs.{is_separator}

-- none of the first bytes ends it
pub separator_later : (line : Bytes) (n : ℕ) → n ≤ length line
    → ((k : ℕ) → k < n → is_separator (get_or line k 0) ≡ false)
    → position_or_len is_separator line ≡ n + position_or_len is_separator (drop n line)
separator_later line zero h none = omega arith
separator_later [] (suc n) h none = absurd (omega arith)
separator_later (b ∷ line) (suc n) h none =
    let more = separator_later line n (omega arith) (λ k lt. none (suc k) (omega arith)) in
    rw (none 0 (omega arith)) (omega (arith, more))
