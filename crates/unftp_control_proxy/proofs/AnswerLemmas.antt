-- What a line may be answered with, and what a client reads in it.
use Rattle.std.proofs.Common.{◌≡◌, ◌&&◌, ◌==◌, ℕ, Bool, true, false, not, List, [], ◌∷◌, length, refl, subst, append-nil, Some}
use Rattle.std.specs.List.{AllByRecursion, list_all}
use Rattle.std.proofs.lemmas.Bool.{and_parts, eqb-false, false≢true, le-leb, leb-true, lt-ltb, ltb-true, ne_eqb, not-true}
use Rattle.unftp_control_defs.specs.Bytes.{Bytes, LF, Lacks}
use Rattle.unftp_control_defs.specs.FtpReply.{FtpReply, CodeAndMsg, HasThreeDigits, IsPlain, MultiLine, Nothing, encoded, reply_as_read}
use Rattle.unftp_control_defs.specs.ReplyReader.{FrontReply}
use Rattle.unftp_control_defs.specs.Turns.{is_preliminary}
use Rattle.unftp_control_defs.proofs.EncodingLemmas.{FrontReply-encoded}
use Rattle.unftp_control_proxy.specs.ProxyAnswers.{IsFinalReply, as_read, has_three_digits, is_answer, is_final_reply, is_one_line, is_plain_reply}

-- ---- the test says what is plain

lacks_from_test : (text : Bytes) → is_one_line text ≡ true → Lacks LF text
lacks_from_test [] h = tt
lacks_from_test (b ∷ text) h = let parts = and_parts (not (b == LF)) (is_one_line text) h in
    (eqb-false b LF (not-true (b == LF) parts.0), lacks_from_test text parts.1)

test_from_lacks : (text : Bytes) → Lacks LF text → is_one_line text ≡ true
test_from_lacks [] h = refl
test_from_lacks (b ∷ text) h = rw (ne_eqb b LF h.0) (test_from_lacks text h.1)

all_from_test : (lines : List Bytes) → list_all is_one_line lines ≡ true
    → AllByRecursion (Lacks LF) lines
all_from_test [] h = tt
all_from_test (line ∷ lines) h =
    let parts = and_parts (is_one_line line) (list_all is_one_line lines) h in
    (lacks_from_test line parts.0, all_from_test lines parts.1)

test_from_all : (lines : List Bytes) → AllByRecursion (Lacks LF) lines
    → list_all is_one_line lines ≡ true
test_from_all [] h = refl
test_from_all (line ∷ lines) h = rw (test_from_lacks line h.0) (test_from_all lines h.1)

digits_from_test : (code : ℕ) → has_three_digits code ≡ true → HasThreeDigits code
digits_from_test code h = let parts = and_parts _ _ h in
    (leb-true 100 code parts.0, ltb-true code 1000 parts.1)

test_from_digits : (code : ℕ) → HasThreeDigits code → has_three_digits code ≡ true
test_from_digits code h = rw (le-leb 100 code h.0, lt-ltb code 1000 h.1) refl

plain_from_test : (reply : FtpReply) → is_plain_reply reply ≡ true → IsPlain reply
plain_from_test Nothing h = tt
plain_from_test (CodeAndMsg code text) h =
    let parts = and_parts (has_three_digits code) (is_one_line text) h in
    (digits_from_test code parts.0, lacks_from_test text parts.1)
plain_from_test (MultiLine code lines) h =
    let parts = and_parts (has_three_digits code) (list_all is_one_line lines) h in
    (digits_from_test code parts.0, all_from_test lines parts.1)

test_from_plain : (reply : FtpReply) → IsPlain reply → is_plain_reply reply ≡ true
test_from_plain Nothing h = refl
test_from_plain (CodeAndMsg code text) h =
    rw (test_from_digits code h.0) (test_from_lacks text h.1)
test_from_plain (MultiLine code lines) h =
    rw (test_from_digits code h.0) (test_from_all lines h.1)

pub answer_is : (reply : FtpReply) → is_final_reply reply ≡ true → IsPlain reply → is_answer reply
    ≡ true
answer_is reply final plain =
    let is = test_from_plain reply plain in λ i. final i && is i

pub not_plain : (reply : FtpReply) → ¬ IsPlain reply → is_plain_reply reply ≡ false
not_plain reply h = by_test (is_plain_reply reply) (λ plain. h (plain_from_test reply plain))
  where
    by_test : (test : Bool) → ¬ (test ≡ true) → test ≡ false
    by_test true not = absurd (not refl)
    by_test false not = refl

-- ---- it is read as one reply

whole : (reply : FtpReply) → is_plain_reply reply ≡ true → {code : ℕ} {lines : List Bytes}
    → reply_as_read reply ≡ Some (code, lines)
    → FrontReply (encoded reply) code lines (length (encoded reply))
whole reply plain {code} {lines} e =
    subst (λ bytes. FrontReply bytes code lines (length (encoded reply))) (append-nil (encoded reply))
    (FrontReply-encoded reply [] (plain_from_test reply plain) e)

pub read_as_one : (reply : FtpReply) → is_answer reply ≡ true → IsFinalReply (encoded reply)
read_as_one Nothing h = absurd (false≢true h)
read_as_one (CodeAndMsg code text) h =
    let reply = CodeAndMsg code text in
    let parts = and_parts (is_final_reply reply) (is_plain_reply reply) h in
    (code, (text ∷ [], whole reply parts.1 refl), not-true (is_preliminary code) parts.0)
read_as_one (MultiLine code lines) h =
    let reply = MultiLine code lines in
    let parts = and_parts (is_final_reply reply) (is_plain_reply reply) h in
    (code, (_, whole reply parts.1 refl), not-true (is_preliminary code) parts.0)

-- what is read of it is final
pub read_is_final : (reply : FtpReply) → is_answer reply ≡ true
    → is_preliminary (as_read reply).0 ≡ false
read_is_final Nothing h = absurd (false≢true h)
read_is_final (CodeAndMsg code text) h =
    not-true (is_preliminary code) (and_parts _ (is_plain_reply (CodeAndMsg code text)) h).0
read_is_final (MultiLine code lines) h =
    not-true (is_preliminary code) (and_parts _ (is_plain_reply (MultiLine code lines)) h).0
