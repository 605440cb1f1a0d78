-- Texts that a reply takes: a path between quotes, and a text in one line.
use Rattle.std.specs.Prelude.{◌≢◌, ℕ, ◌==◌, if◌then◌else◌, [], ◌∷◌, ◌++◌, map, flat_map}
use Rattle.unftp_control_defs.specs.Bytes.{Bytes, NUL, LF}
use Rattle.unftp_control_defs.specs.Values.{escaped}

abbrev pub QUOTE : ℕ
QUOTE = 34

-- each quote twice
abbrev pub doubled : Bytes → Bytes
doubled path = flat_map (λ b. if b == QUOTE then QUOTE ∷ QUOTE ∷ [] else b ∷ []) path

-- a path as a reply with the code 257 has it (RFC 959, section 5.4 and appendix II)
abbrev pub quoted : Bytes → Bytes
quoted path = QUOTE ∷ doubled path ++ QUOTE ∷ []

-- what can follow a quoted path: no quote, which would be the second of two
abbrev pub HasNoFirstQuote : Bytes → Type 0
HasNoFirstQuote rest = (more : Bytes) → rest ≢ QUOTE ∷ more

-- a text in one line: each CR as CR NUL (RFC 854), as in a value that is sent, and each LF as NUL
abbrev pub single_line : Bytes → Bytes
single_line text = map (λ b. if b == LF then NUL else b) (escaped text)
