-- The codes that a reply can have.
use Rattle.std.specs.Prelude.{ℕ, ◌≤◌}

-- three digits, of which the first is 1 to 5 (RFC 959, section 4.2); the other two are free here
abbrev pub IsReplyCode : ℕ → Type 0
IsReplyCode code = (100 ≤ code) × (code ≤ 599)
