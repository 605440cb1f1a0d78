-- Calls of `unftp_next`, and what they leave, as examples write them: in one line.
use Rattle.std.specs.Prelude.{ℕ}
use Rattle.unftp_control_defs.specs.Bytes.{Bytes}
use Rattle.unftp_control_c.specs.Next.{NextCall, Left, call_with, left_with}

-- the pending bytes, the offset, whether bytes were dropped, the limit, and the area
abbrev pub a_call : Bytes → ℕ → ℕ → ℕ → Bytes → NextCall
a_call bytes offset skipping limit area =
    call_with (record { limit = limit; offset = offset; skipping = skipping }) bytes area

-- the result, how many bytes are used up, the offset, whether bytes were dropped, the limit, and
-- the area with the lengths of the name and the value, and where the value is
abbrev pub leaving : ℕ → ℕ → ℕ → ℕ → ℕ → Bytes → ℕ → ℕ → ℕ → Left
leaving result used offset skipping limit area name_len value_len value_at =
    left_with result (record { limit = limit; offset = offset; skipping = skipping }) area
    (record { used = used; name_len = name_len; value_len = value_len; value_at = value_at })
