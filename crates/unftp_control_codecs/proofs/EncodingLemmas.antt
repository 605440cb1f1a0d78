-- The bytes of a reply of several lines, from its parts, and as a client reads them.
use Rattle.std.proofs.Common.{◌≡◌, ◌<◌, ◌≤◌, ◌+◌, ℕ, suc, zero, List, [], ◌∷◌, ◌++◌, get_or, length, length-append, drop, take, map, flat_map, decimal, refl, sym, ap, subst, ◌∙◌, append_assoc, append-nil, arith}
use Rattle.std.specs.List.{AllByRecursion}
use Rattle.std.proofs.lemmas.List.{drop_at, map-append}
use Rattle.unftp_control_defs.specs.Bytes.{Bytes, LF, DASH, Lacks}
use Rattle.unftp_control_defs.specs.FtpReply.{FtpReply, MultiLine, HasThreeDigits, IsPlain, encoded, lines_after_code, spaced_line}
use Rattle.unftp_control_defs.specs.ReplyReader.{ReadsBack}
use Rattle.unftp_control_defs.proofs.EncodingLemmas.{ReadsBack-encoded}
use Rattle.unftp_control_codecs.specs.Encoding.{padded_line, lines_before_last}
use Rattle.unftp_control_codecs.specs.ReplyCodes.{IsReplyCode}

abbrev ending : ℕ → Bytes → Bytes
ending code last = decimal code ++ spaced_line last

-- after the code and the dash
lines_after_code-front : (code : ℕ) (line : Bytes) (lines : List Bytes) (last : Bytes)
    → lines_after_code code line (lines ++ last ∷ []) ≡ padded_line line
    ++ (flat_map padded_line lines ++ ending code last)
lines_after_code-front code line [] last = refl
lines_after_code-front code line (next ∷ lines) last =
    ap (λ t. padded_line line ++ t) (lines_after_code-front code next lines last
    ∙ sym (append_assoc (padded_line next) (flat_map padded_line lines) (ending code last)))

lines_before_last-back : (code : ℕ) (line : Bytes) (lines : List Bytes) (last : Bytes)
    → decimal code ++ DASH ∷ (padded_line line ++ (flat_map padded_line lines ++ ending code last))
    ≡ lines_before_last code (line ∷ lines) ++ ending code last
lines_before_last-back code line lines last =
    ap (λ t. decimal code ++ DASH ∷ t)
    (sym (append_assoc (padded_line line) (flat_map padded_line lines) (ending code last)))
    ∙ sym (append_assoc (decimal code) (DASH ∷ flat_map padded_line (line ∷ lines))
    (ending code last))

encoded-lines_before_last : (code : ℕ) (front : List Bytes) (last : Bytes)
    → encoded (MultiLine code (front ++ last ∷ [])) ≡ lines_before_last code front
    ++ ending code last
encoded-lines_before_last code [] last = refl
encoded-lines_before_last code (line ∷ []) last =
    ap (λ t. decimal code ++ DASH ∷ t) (lines_after_code-front code line [] last)
    ∙ lines_before_last-back code line [] last
encoded-lines_before_last code (line ∷ next ∷ lines) last =
    ap (λ t. decimal code ++ DASH ∷ t) (lines_after_code-front code line (next ∷ lines) last)
    ∙ lines_before_last-back code line (next ∷ lines) last

-- so a reply is, of lines that have a last one
pub encoded-front : {S : Type 0} (text : S → Bytes) (code : ℕ) {lines : List S} (front : List S)
    (last : S) → lines ≡ front ++ last ∷ []
    → encoded (MultiLine code (map text lines))
    ≡ lines_before_last code (map text front) ++ ending code (text last)
encoded-front text code front last parts =
    ap (λ lines. encoded (MultiLine code lines))
    (ap (map text) parts ∙ map-append text front (last ∷ []))
    ∙ encoded-lines_before_last code (map text front) (text last)

-- what is appended part by part
pub appended-parts : (start front code last : Bytes) {whole opened coded : Bytes}
    → whole ≡ front ++ (code ++ last) → opened ≡ start ++ front → coded ≡ opened ++ code
    → coded ++ last ≡ start ++ whole
appended-parts start front code last whole_is opened_is coded_is =
    ap (λ text. text ++ last) (coded_is ∙ ap (λ text. text ++ code) opened_is)
    ∙ append_assoc (start ++ front) code last ∙ append_assoc start front (code ++ last)
    ∙ ap (λ text. start ++ text) (sym whole_is)

-- the lines up to one, and that one, are at most all
pub lines_so_far : {S : Type 0} (text : S → Bytes) (lines : List S) (i : ℕ) (d : S)
    → i < length lines
    → length (flat_map padded_line (map text (take i lines)))
    + length (padded_line (text (get_or lines i d)))
    ≤ length (flat_map padded_line (map text lines))
lines_so_far text [] i d small = absurd (omega (arith, small))
lines_so_far text (line ∷ lines) zero d small =
    omega (arith, length-append (padded_line (text line)) (flat_map padded_line (map text lines)))
lines_so_far text (line ∷ lines) (suc i) d small = omega (
  arith,
  length-append (padded_line (text line)) (flat_map padded_line (map text lines)),
  length-append (padded_line (text line)) (flat_map padded_line (map text (take i lines))),
  lines_so_far text lines i d (omega (arith, small)),
)

-- ---- as a client reads them

pub one_back : (reply : FtpReply) → IsPlain reply → ReadsBack (encoded reply) (reply ∷ [])
one_back reply plain = subst (λ bytes. ReadsBack bytes (reply ∷ [])) (append-nil (encoded reply))
    (ReadsBack-encoded (reply ∷ []) (plain, tt))

pub three_digits : (code : ℕ) → IsReplyCode code → HasThreeDigits code
three_digits code is_code = (is_code.0, omega arith)

-- these lines, after the bytes that were there before
pub appended_back : (code : ℕ) (lines : List Bytes) (start : Bytes) {whole : Bytes} {n : ℕ}
    → IsReplyCode code
    → n ≡ length start
    → whole ≡ start ++ encoded (MultiLine code lines) → AllByRecursion (Lacks LF) lines
    → ReadsBack (drop n whole) (MultiLine code lines ∷ [])
appended_back code lines start {n} is_code n_is whole_is lack =
    let reply = MultiLine code lines in
    subst (λ bytes. ReadsBack bytes (reply ∷ []))
    (sym (ap (drop n) whole_is ∙ drop_at start (encoded reply) n (sym n_is)))
    (one_back reply (three_digits code is_code, lack))
