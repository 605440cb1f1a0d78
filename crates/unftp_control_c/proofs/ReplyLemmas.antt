-- The bytes of a reply, line by line, and what a client finds in them.
use Rattle.std.proofs.Common.{◌≡◌, ◌≢◌, ℕ, ◌-◌, ◌<◌, length, [], ◌∷◌, ◌++◌, ◌==◌, ◌&&◌, true, List, Ok, Err, decimal, refl, sym, ap, ◌∙◌, subst, take, arith, append_assoc}
use Rattle.std.specs.Prelude.{nat_le, slice_index}
use Rattle.std.specs.Str.Lines.{strip_carriage_return}
use Rattle.std.specs.List.{AllByRecursion, join_with_byte, slice_split, onto_first}
use Rattle.std.proofs.lemmas.Bool.{and_parts, cond_both, eqb-false, le-leb, leb-true}
use Rattle.std.proofs.lemmas.List.Splits.{join_with_byte-slice_split, length-slice_split}
use Rattle.unftp_control_defs.specs.Bytes.{Bytes, LF, CR, DASH, Lacks}
use Rattle.unftp_control_defs.specs.FtpReply.{FtpReply, CodeAndMsg, MultiLine, IsPlain, encoded, lines_after_code, spaced_line}
use Rattle.unftp_control_defs.specs.ReplyReader.{ReadsBack}
use Rattle.unftp_control_defs.proofs.LackLemmas.{Lacks-take}
use Rattle.unftp_control_codecs.specs.Encoding.{padded_line}
use Rattle.unftp_control_codecs.specs.ReplyCodes.{IsReplyCode}
use Rattle.unftp_control_codecs.proofs.EncodingLemmas.{one_back, three_digits}
use Rattle.unftp_control_c.specs.declared.status.Status.TheVariants.{Done, UnknownCode}
use Rattle.unftp_control_c.specs.Numbers.{status_number}
use Rattle.unftp_control_c.specs.Areas.{Filled, Made, written}
use Rattle.unftp_control_c.specs.Replies.{parts_as_lines, reply_bytes, reply_of_lines, text_lines, text_reply}
use Rattle.unftp_control_c.proofs.AreaLemmas.{same_text, written_text}
use Rattle.unftp_control_c.proofs.LineLemmas.{last_line, next_line}

first_lacks : (b : ℕ) (parts : List Bytes) → b ≢ LF → AllByRecursion (Lacks LF) parts
    → AllByRecursion (Lacks LF) (onto_first b parts)
first_lacks b [] ne all = ((ne, tt), tt)
first_lacks b (part ∷ parts) ne all = ((ne, all.0), all.1)

parts_lack : (text : Bytes) → AllByRecursion (Lacks LF) (slice_split (λ b. b == LF) text)
parts_lack [] = (tt, tt)
parts_lack (b ∷ text) =
    let parts : List Bytes = slice_split (λ b. b == LF) text in
    let before = parts_lack text in
    cond_both (b == LF) ([] ∷ parts) (onto_first b parts) (AllByRecursion (Lacks LF))
    (λ _. (tt, before)) (λ e. first_lacks b parts (eqb-false b LF e) before)

lacks_stripped : (line : Bytes) → Lacks LF line → Lacks LF (strip_carriage_return line)
lacks_stripped line h = cond_both (slice_index line (length line - 1) == CR)
    (take (length line - 1) line) line (Lacks LF)
    (λ _. Lacks-take LF (length line - 1) line h) (λ _. h)

lines_lack : (parts : List Bytes) → AllByRecursion (Lacks LF) parts
    → AllByRecursion (Lacks LF) (parts_as_lines parts)
lines_lack [] all = tt
lines_lack (part ∷ []) all = all
lines_lack (part ∷ next ∷ parts) all =
    (lacks_stripped part all.0, lines_lack (next ∷ parts) all.1)

-- ---- how many lines a text has

some_lines : (text : Bytes) → 0 < length (text_lines text)
some_lines text = by_parts (slice_split (λ b. b == LF) text)
    (omega (arith, length-slice_split (λ b. b == LF) text))
  where
    by_parts : (parts : List Bytes) → 0 < length parts → 0 < length (parts_as_lines parts)
    by_parts [] some = some
    by_parts (part ∷ []) some = some
    by_parts (part ∷ next ∷ parts) some = omega arith

-- two at least, where it has a line feed
two_lines : (text : Bytes) → ¬ Lacks LF text → (P : List Bytes → Type 0)
    → ((line next : Bytes) (lines : List Bytes) → P (line ∷ next ∷ lines)) → P (text_lines text)
two_lines text several P so = by_parts (slice_split (λ b. b == LF) text) refl
  where
    by_parts : (parts : List Bytes) → slice_split (λ b. b == LF) text ≡ parts
        → P (parts_as_lines parts)
    by_parts [] e = absurd (omega (arith, length-slice_split (λ b. b == LF) text, ap length e))
    by_parts (part ∷ []) e =
        let whole : part ≡ text =
        sym (ap (join_with_byte LF) e) ∙ join_with_byte-slice_split LF text in
        absurd (several (subst (Lacks LF) whole
        (subst (AllByRecursion (Lacks LF)) e (parts_lack text)).0))
    by_parts (part ∷ next ∷ []) e = so (strip_carriage_return part) next []
    by_parts (part ∷ next ∷ more ∷ parts) e =
        so (strip_carriage_return part) (strip_carriage_return next) (parts_as_lines (more ∷ parts))

pub one_reply : (code : ℕ) (text : Bytes) → Lacks LF text
    → text_reply code text ≡ CodeAndMsg code text
one_reply code text one = ap (reply_of_lines code) (last_line text one)

pub several_reply : (code : ℕ) (text : Bytes) → ¬ Lacks LF text
    → text_reply code text ≡ MultiLine code (text_lines text)
several_reply code text several =
    two_lines text several (λ lines. reply_of_lines code lines ≡ MultiLine code lines)
    (λ _ _ _. refl)

-- ---- the bytes of some lines, one line after the other

-- of these lines, after those before them
abbrev pub rest_of : ℕ → List Bytes → Bytes
rest_of code [] = []
rest_of code (line ∷ lines) = lines_after_code code line lines

rest_more : (code : ℕ) (line : Bytes) (lines : List Bytes) → 0 < length lines
    → rest_of code (line ∷ lines) ≡ padded_line line ++ rest_of code lines
rest_more code line [] some = absurd (omega (arith, some))
rest_more code line (next ∷ lines) some = refl

pub opened : (code : ℕ) (text : Bytes) {digits : Bytes} → digits ≡ decimal code
    → ¬ Lacks LF text
    → (digits ++ DASH ∷ []) ++ rest_of code (text_lines text)
    ≡ encoded (MultiLine code (text_lines text))
opened code text {digits} is several =
    append_assoc digits (DASH ∷ []) (rest_of code (text_lines text))
    ∙ ap (λ digits. digits ++ DASH ∷ rest_of code (text_lines text)) is
    ∙ two_lines text several
    (λ lines. decimal code ++ DASH ∷ rest_of code lines ≡ encoded (MultiLine code lines))
    (λ _ _ _. refl)

-- the bytes so far, and the lines that follow
pub line_written : (code : ℕ) (so_far rest line after : Bytes) {whole stripped : Bytes}
    → rest ≡ line ++ LF ∷ after → Lacks LF line → stripped ≡ strip_carriage_return line
    → so_far ++ rest_of code (text_lines rest) ≡ whole
    → (so_far ++ padded_line stripped) ++ rest_of code (text_lines after) ≡ whole
line_written code so_far rest line after {stripped = stripped} cut one is whole =
    let more : rest_of code (text_lines rest)
    ≡ padded_line stripped ++ rest_of code (text_lines after)
    = ap (rest_of code) (next_line rest line after cut one)
    ∙ rest_more code (strip_carriage_return line) (text_lines after) (some_lines after)
    ∙ ap (λ line. padded_line line ++ rest_of code (text_lines after)) (sym is) in
    append_assoc so_far (padded_line stripped) (rest_of code (text_lines after))
    ∙ ap (λ t. so_far ++ t) (sym more) ∙ whole

pub last_written : (code : ℕ) (so_far rest : Bytes) {whole digits : Bytes}
    → digits ≡ decimal code → Lacks LF rest → so_far ++ rest_of code (text_lines rest) ≡ whole
    → (so_far ++ digits) ++ spaced_line rest ≡ whole
last_written code so_far rest {digits = digits} is one whole =
    append_assoc so_far digits (spaced_line rest)
    ∙ ap (λ digits. so_far ++ (digits ++ spaced_line rest)) is
    ∙ ap (λ t. so_far ++ t) (sym (ap (rest_of code) (last_line rest one))) ∙ whole

-- ---- the bytes, or why there are none

pub code_is : (code : ℕ) → (nat_le 100 code && nat_le code 599) ≡ true → IsReplyCode code
code_is code is = let parts = and_parts (nat_le 100 code) (nat_le code 599) is in
    (leb-true 100 code parts.0, leb-true code 599 parts.1)

pub no_reply : (code : ℕ) (text : Bytes) → ¬ IsReplyCode code
    → reply_bytes code text ≡ Err UnknownCode
no_reply code text none = cond_both {A = Made} (nat_le 100 code && nat_le code 599)
    (Ok (encoded (text_reply code text))) (Err UnknownCode) (λ found. found ≡ Err UnknownCode)
    (λ is. absurd (none (code_is code is))) (λ _. refl)

pub made_reply : (code : ℕ) (text : Bytes) {reply : FtpReply} → IsReplyCode code
    → text_reply code text ≡ reply → reply_bytes code text ≡ Ok (encoded reply)
made_reply code text is same =
    rw (le-leb 100 code is.0, le-leb code 599 is.1) (ap (λ reply. Ok (encoded reply)) same)

plain : {code : ℕ} (lines : List Bytes) → IsReplyCode code → AllByRecursion (Lacks LF) lines
    → IsPlain (reply_of_lines code lines)
plain {code} [] is all = (three_digits code is, all)
plain {code} (line ∷ []) is all = (three_digits code is, all.0)
plain {code} (line ∷ next ∷ lines) is all = (three_digits code is, all)

reply_back : (code : ℕ) (text found : Bytes) → reply_bytes code text ≡ Ok found
    → ReadsBack found (text_reply code text ∷ [])
reply_back code text found = cond_both {A = Made} (nat_le 100 code && nat_le code 599)
    (Ok (encoded (text_reply code text))) (Err UnknownCode)
    (λ made. made ≡ Ok found → ReadsBack found (text_reply code text ∷ []))
    (λ is e. subst (λ bytes. ReadsBack bytes (text_reply code text ∷ [])) (same_text e)
    (one_back (text_reply code text) (plain (text_lines text) (code_is code is)
    (lines_lack (slice_split (λ b. b == LF) text) (parts_lack text)))))
    (λ _ e. absurd (cc))

never_done : (code : ℕ) (text : Bytes) → reply_bytes code text ≡ Err Done → ⊥
never_done code text = cond_both {A = Made} (nat_le 100 code && nat_le code 599)
    (Ok (encoded (text_reply code text))) (Err UnknownCode) (λ made. made ≡ Err Done → ⊥)
    (λ _ e. cc) (λ _ e. cc)

-- what a client finds in the bytes of a reply
pub reads_back : (code : ℕ) (text out : Bytes) (left : Filled)
    → left ≡ written (reply_bytes code text) out → left.result ≡ status_number Done
    → ReadsBack (take left.text_length left.area) (text_reply code text ∷ [])
reads_back code text out left wrote done =
    rw wrote (written_text (λ bytes. ReadsBack bytes (text_reply code text ∷ [])) out
    (reply_bytes code text) (never_done code text) (reply_back code text)
    (sym (ap (λ left. left.result) wrote) ∙ done))
