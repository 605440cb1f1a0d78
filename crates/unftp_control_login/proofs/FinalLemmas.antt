-- Replies that are sent, that a client can read back, and that are the last ones to their event.
use Rattle.std.proofs.Common.{◌≡◌, ℕ, Bool, true, false, ◌&&◌, nat_le, nat_lt, List, [], ◌∷◌, arith}
use Rattle.std.specs.List.{AllByRecursion, list_all}
use Rattle.std.proofs.lemmas.Bool.{and_parts, ltb-true, leb-true}
use Rattle.std.proofs.lemmas.Bool.Decides.{nat_tests}
use Rattle.unftp_control_defs.specs.Bytes.{Bytes, LF, Lacks}
use Rattle.unftp_control_defs.specs.FtpReply.{FtpReply, Nothing, CodeAndMsg, MultiLine, HasThreeDigits, IsReadable}
use Rattle.unftp_control_defs.specs.Turns.{is_preliminary, is_preliminary_reply}
use Rattle.unftp_control_defs.proofs.LackLemmas.{lacks, Lacks-test}

abbrev pub IsFinal : FtpReply → Type 0
IsFinal reply = IsReadable reply × (is_preliminary_reply reply ≡ false)

-- a test for replies that are written out
abbrev is_final_code : ℕ → Bool
is_final_code code = nat_le 200 code && nat_lt code 1000

abbrev pub is_final : FtpReply → Bool
is_final Nothing = false
is_final (CodeAndMsg code text) = is_final_code code && lacks LF text
is_final (MultiLine code lines) = is_final_code code && list_all (lacks LF) lines

lines_lack : (lines : List Bytes) → list_all (lacks LF) lines ≡ true
    → AllByRecursion (Lacks LF) lines
lines_lack [] h = tt
lines_lack (one ∷ lines) h = let parts = and_parts (lacks LF one) (list_all (lacks LF) lines) h in
    (Lacks-test LF one parts.0, lines_lack lines parts.1)

final-code : (code : ℕ) → is_final_code code ≡ true
    → HasThreeDigits code × (is_preliminary code ≡ false)
final-code code h =
    let parts = and_parts (nat_le 200 code) (nat_lt code 1000) h in
    let low = leb-true 200 code parts.0 in
    ((omega arith, ltb-true code 1000 parts.1), grind (arith, nat_tests))

pub final : (reply : FtpReply) → is_final reply ≡ true → IsFinal reply
final Nothing h = cc
final (CodeAndMsg code text) h =
    let parts = and_parts (is_final_code code) (lacks LF text) h in
    let final = final-code code parts.0 in ((final.0, Lacks-test LF text parts.1), final.1)
final (MultiLine code lines) h =
    let parts = and_parts (is_final_code code) (list_all (lacks LF) lines) h in
    let final = final-code code parts.0 in ((final.0, lines_lack lines parts.1), final.1)
