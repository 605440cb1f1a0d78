-- Bytes that are sent for a value, each CR of it as CR NUL (RFC 854).
use Rattle.std.specs.Prelude.{ℕ, ◌+◌, ◌==◌, Bool, false, ◌&&◌, if◌then◌else◌, [], ◌∷◌}
use Rattle.unftp_control_defs.specs.Bytes.{Bytes, CR, NUL}
use Rattle.unftp_control_message.specs.declared.sent.Sent.{Sent}
use Rattle.unftp_control_message.specs.declared.sent.Sent.TheVariants as sent

-- The value for which bytes are sent: without each NUL that comes directly after a CR (RFC 854).
abbrev pub unescaped : Bytes → Bytes
unescaped [] = []
unescaped (a ∷ []) = a ∷ []
unescaped (a ∷ b ∷ bytes) = if (a == CR) && (b == NUL) then CR ∷ unescaped bytes
    else a ∷ unescaped (b ∷ bytes)

-- the bytes that are sent for a value
abbrev pub sent_bytes : Sent → Bytes
sent_bytes (sent.Plain bytes) = bytes.now
sent_bytes (sent.Escaped bytes) = bytes.now

-- the value: the bytes as they are, or where a CR was sent as CR NUL, without that NUL
abbrev pub sent_value : Sent → Bytes
sent_value (sent.Plain bytes) = bytes.now
sent_value (sent.Escaped bytes) = unescaped bytes.now

-- the bytes begin with CR NUL
abbrev pub begins_with_cr_nul : Bytes → Bool
begins_with_cr_nul [] = false
begins_with_cr_nul (a ∷ []) = false
begins_with_cr_nul (a ∷ b ∷ bytes) = (a == CR) && (b == NUL)

-- how many CR NUL the bytes begin with
abbrev pub cr_nul_count : Bytes → ℕ
cr_nul_count [] = 0
cr_nul_count (a ∷ []) = 0
cr_nul_count (a ∷ b ∷ bytes) = if (a == CR) && (b == NUL) then 1 + cr_nul_count bytes else 0

abbrev pub four_cr_nul : Bytes
four_cr_nul = CR ∷ NUL ∷ CR ∷ NUL ∷ CR ∷ NUL ∷ CR ∷ NUL ∷ []

-- how many bytes are sent for the first byte of a value
abbrev pub first_unit_len : Bytes → ℕ
first_unit_len bytes = if begins_with_cr_nul bytes then 2 else 1

-- the bytes without a NUL at the start
abbrev pub after_nul : Bytes → Bytes
after_nul [] = []
after_nul (b ∷ bytes) = if b == NUL then bytes else b ∷ bytes
