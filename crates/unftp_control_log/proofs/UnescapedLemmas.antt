-- What is appended for a value, byte by byte, as it was sent.
use Rattle.std.proofs.Common.{◌≡◌, ℕ, ◌<◌, ◌≤◌, [], ◌∷◌, ◌++◌, length, take, drop, ap, sym, ◌∙◌, arith, append_assoc, append-nil}
use Rattle.std.proofs.lemmas.List.{take-take}
use Rattle.std.specs.Char.Escape.{escape_ascii}
use Rattle.unftp_control_defs.specs.Bytes.{Bytes}
use Rattle.unftp_control_message.specs.SentValues.{first_unit_len, unescaped}
use Rattle.unftp_control_message.proofs.SentLemmas.{unescaped_step}
use Rattle.unftp_control_log.specs.LogLine.{shown}

-- the first byte of a value, and what is sent for the others
pub first_unit : (bytes : Bytes) → 0 < length bytes
    → shown (unescaped bytes)
    ≡ shown (take 1 bytes) ++ shown (unescaped (drop (first_unit_len bytes) bytes))
first_unit [] some = absurd (omega arith)
first_unit (b ∷ bytes) some =
    ap shown (unescaped_step (b ∷ bytes) some)
    ∙ ap (λ t. t ++ shown (unescaped (drop (first_unit_len (b ∷ bytes)) (b ∷ bytes))))
    (sym (append-nil (escape_ascii b)))

-- all of it is what was appended and what is still to come
pub one_unit_more : (all start before after rest further : Bytes)
    → start ++ all ≡ before ++ shown (unescaped rest) → 0 < length rest
    → further ≡ drop (first_unit_len rest) rest → after ≡ before ++ shown (take 1 rest)
    → start ++ all ≡ after ++ shown (unescaped further)
one_unit_more all start before after rest further so_far some left is =
    so_far ∙ ap (λ t. before ++ t) (first_unit rest some)
    ∙ sym (append_assoc before (shown (take 1 rest))
    (shown (unescaped (drop (first_unit_len rest) rest))))
    ∙ (λ i. sym is i ++ shown (unescaped (sym left i)))

pub kept_still : (start middle new : Bytes) (n m : ℕ) → n ≤ m → take m new ≡ middle
    → take n middle ≡ start → take n new ≡ start
kept_still start middle new n m le kept first =
    sym (take-take n m new le) ∙ ap (take n) kept ∙ first
