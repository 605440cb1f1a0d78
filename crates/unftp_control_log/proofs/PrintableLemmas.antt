-- Each byte of a log line is printable.
use Rattle.std.proofs.Common.{◌≡◌, ◌<◌, ◌+◌, ◌/◌, ◌%◌, ℕ, nat_lt, nat_le, ◌&&◌, ◌||◌, Bool, true, false, cond, [], ◌∷◌, ◌++◌, Option, Some, None, option_map, codes, arith, refl, sym, ap, ◌∙◌, subst, map, List, find, bytes_eq, is_some, mod-lt, ltb-true, ltb-false, leb-true}
use Rattle.std.specs.Char.{digit_char}
use Rattle.std.specs.Char.Escape.{escape_ascii, hex_digit_at, short_escape}
use Rattle.std.specs.List.{AllByRecursion, list_all, list_any}
use Rattle.std.specs.Option.{IfSome}
use Rattle.std.proofs.lemmas.Bool.{and_parts, cond_both}
use Rattle.std.proofs.lemmas.Bool.Decides.{nat_tests}
use Rattle.std.proofs.lemmas.List.Folds.{list_any-append}
use Rattle.unftp_control_defs.specs.Bytes.{Bytes}
use Rattle.unftp_control_defs.specs.Events as fault
use Rattle.unftp_control_defs.specs.Events.{FaultKind, FaultSource, FtpEvent, Command, Refused, Parse, NoSource, Utf8, Io}
use Rattle.unftp_control_defs.specs.FtpCommand.{InvalidCommand, InvalidUtf8, InvalidEol, Said, said, verbs, word}
use Rattle.unftp_control_defs.specs.Rules.{row_of}
use Rattle.unftp_control_defs.specs.Texts.{kind_reason, reading_text}
use Rattle.unftp_control_defs.specs.Verbs.{upper, verb_of}
use Rattle.unftp_control_defs.specs.declared.verb.Verb.{Verb as Ruled}
use Rattle.unftp_control_defs.specs.declared.verb.Verb.TheVariants as verbs_of
use lib.Pointwise.{bytes_decides}
use Rattle.unftp_control_log.specs.LogLine.{IsPrintable, RefusedLine, Subcommand, Verb, Visible, asterisks, further_verbs, is_listed, listed_verb, log_line, reason, shown, shown_value, shows_arguments, site_words, visible_other, visible_said, visible_site, visible_text, visible_value, visible_verb}
use Rattle.unftp_control_write.specs.Lines.{spaced_part}

abbrev pub ArePrintable : Bytes → Type 0
ArePrintable text = AllByRecursion IsPrintable text

-- for texts that are written out
abbrev all_printable : Bytes → Bool
all_printable [] = true
all_printable (b ∷ text) = (nat_le 32 b && nat_le b 126) && all_printable text

written : (text : Bytes) → all_printable text ≡ true → ArePrintable text
written [] is = tt
written (b ∷ text) is =
    let parts = and_parts (nat_le 32 b && nat_le b 126) (all_printable text) is in
    let here = and_parts (nat_le 32 b) (nat_le b 126) parts.0 in
    ((leb-true 32 b here.0, leb-true b 126 here.1), written text parts.1)

joined : (text more : Bytes) → ArePrintable text → ArePrintable more → ArePrintable (text ++ more)
joined [] more first second = second
joined (b ∷ text) more first second = (first.0, joined text more first.1 second)

-- the digits of an escape
digit_prints : (d : ℕ) → d < 16 → IsPrintable (digit_char d)
digit_prints d small = cond_both (nat_lt d 10) (48 + d) (87 + d) IsPrintable
    (λ is. let low = ltb-true d 10 is in (omega arith, omega arith))
    (λ is. let high = ltb-false d 10 is in (omega arith, omega arith))

hex_prints : (place b : ℕ) → IsPrintable (hex_digit_at place b)
hex_prints place b = digit_prints (b / place % 16) (mod-lt (b / place) (omega arith))

coded_prints : (b : ℕ) → ArePrintable (92 ∷ 120 ∷ hex_digit_at 0x10 b ∷ hex_digit_at 1 b ∷ [])
coded_prints b = (
  (omega arith, omega arith),
  ((omega arith, omega arith), (hex_prints 0x10 b, (hex_prints 1 b, tt))),
)

-- the letter after a backslash, where there is one
short_prints : (b : ℕ) → 0 < short_escape b → IsPrintable (short_escape b)
short_prints b some = (grind (arith, nat_tests), grind (arith, nat_tests))

byte_prints : (b : ℕ) → ArePrintable (escape_ascii b)
byte_prints b = cond_both (nat_lt 0 (short_escape b)) _ _ ArePrintable
    (λ is. ((omega arith, omega arith), (short_prints b (ltb-true 0 (short_escape b) is), tt)))
    (λ _. cond_both (nat_lt b 32) _ _ ArePrintable (λ _. coded_prints b)
    (λ low. cond_both (nat_lt b 127) (b ∷ []) _ ArePrintable
    (λ high. ((ltb-false b 32 low, let below = ltb-true b 127 high in omega arith), tt))
    (λ _. coded_prints b)))

pub shown_prints : (text : Bytes) → ArePrintable (shown text)
shown_prints [] = tt
shown_prints (b ∷ text) = joined (escape_ascii b) (shown text) (byte_prints b) (shown_prints text)

-- after a space
spaced_prints : (value : Option Bytes) → IfSome value ArePrintable
    → ArePrintable (spaced_part value)
spaced_prints None h = tt
spaced_prints (Some text) h = ((omega arith, omega arith), h)

shown_part_prints : (value : Option Bytes) → IfSome (option_map shown value) ArePrintable
shown_part_prints None = tt
shown_part_prints (Some text) = shown_prints text

-- a listed word
words_print : (verb : Bytes) (words : List Bytes) → list_all all_printable words ≡ true
    → list_any (bytes_eq verb) words ≡ true → ArePrintable verb
words_print verb [] all is = absurd (cc)
words_print verb (word ∷ words) all is =
    let parts = and_parts _ _ all in
    by_test (bytes_eq verb word) refl (written word parts.0) (words_print verb words parts.1) is
  where
    by_test : (test : Bool) → bytes_eq verb word ≡ test → ArePrintable word
        → (list_any (bytes_eq verb) words ≡ true → ArePrintable verb)
        → (test || list_any (bytes_eq verb) words) ≡ true → ArePrintable verb
    by_test true same here later is =
        subst ArePrintable (sym ((bytes_decides verb word).0 same)) here
    by_test false same here later is = later is

is_some-row_of : {A : Type 0} (name : Bytes) (rows : List (Bytes × A))
    → is_some (row_of name rows) ≡ list_any (bytes_eq name) (map (λ row. row.0) rows)
is_some-row_of name [] = refl
is_some-row_of name (row ∷ rows) = by_test (bytes_eq name row.0) (is_some-row_of name rows) where
  by_test : (test : Bool) {others : Bool} → is_some (row_of name rows) ≡ others
      → is_some (option_map (λ r. r.1) (cond test (Some row) (find (λ r. bytes_eq name r.0) rows)))
      ≡ (test || others)
  by_test true same = refl
  by_test false same = same

listed_prints : (verb : Bytes) → is_listed verb ≡ true → ArePrintable (upper verb)
listed_prints verb is =
    let names : List Bytes = map (λ row. row.0) verbs in
    words_print (upper verb) (names ++ further_verbs) refl
    (list_any-append (bytes_eq (upper verb)) names further_verbs
    ∙ ap (λ ruled. ruled || list_any (bytes_eq (upper verb)) further_verbs)
    (sym (is_some-row_of (upper verb) verbs)) ∙ is)

subcommand_prints : (name : Bytes) → is_some (row_of name site_words) ≡ true → ArePrintable name
subcommand_prints name is = words_print name (map (λ row. row.0) site_words) refl
    (sym (is_some-row_of name site_words) ∙ is)

verb_prints : (line : Bytes) → IfSome (listed_verb line) ArePrintable
verb_prints line = cond_both (is_listed (verb_of line)) (Some (upper (verb_of line))) None
    (λ verb. IfSome verb ArePrintable) (listed_prints (verb_of line)) (λ _. tt)

-- a reason
kind_prints : (kind : FaultKind) → ArePrintable (kind_reason kind)
kind_prints (fault.UnknownCommand command) = written (codes "Unknown command") refl
kind_prints kind = written (kind_reason kind) refl

reason_prints : (source : FaultSource) (kind : FaultKind) → ArePrintable (reason source kind)
reason_prints (Parse None) kind = written (reading_text None) refl
reason_prints (Parse (Some InvalidCommand)) kind = written (reading_text (Some InvalidCommand)) refl
reason_prints (Parse (Some InvalidUtf8)) kind = written (reading_text (Some InvalidUtf8)) refl
reason_prints (Parse (Some InvalidEol)) kind = written (reading_text (Some InvalidEol)) refl
reason_prints NoSource kind = kind_prints kind
reason_prints Utf8 kind = kind_prints kind
reason_prints Io kind = kind_prints kind

-- what is shown prints: a value as its escapes, and all else as it is
abbrev IsWritten : Visible → Type 0
IsWritten (Verb verb value) = ArePrintable verb
IsWritten (Subcommand name arguments) = ArePrintable name
IsWritten (RefusedLine verb why) = IfSome verb ArePrintable × ArePrintable why

text_prints : (visible : Visible) → IsWritten visible → ArePrintable (visible_text visible)
text_prints (Verb verb value) h = joined verb _ h (spaced_prints _ (shown_part_prints value))
text_prints (Subcommand name arguments) h = joined (codes "SITE ") _ (written (codes "SITE ") refl)
    (joined name _ h (spaced_prints _ (shown_part_prints arguments)))
text_prints (RefusedLine verb why) h =
    let word = joined (codes "refused") (spaced_part verb) (written (codes "refused") refl)
    (spaced_prints verb h.0) in
    let colon = joined (codes "refused" ++ spaced_part verb) (codes ": ") word
    (written (codes ": ") refl) in
    joined (codes "refused" ++ spaced_part verb ++ codes ": ") why colon h.1

other_written : (verb : Bytes) (listed : Bool) → is_listed verb ≡ listed
    → IsWritten (visible_other listed (upper verb))
other_written verb true is = listed_prints verb is
other_written verb false is = written asterisks refl

site_written : (name : Bytes) (value : Option Bytes) (shows : Option Bool)
    → row_of name site_words ≡ shows → IsWritten (visible_site shows name value)
site_written name value (Some true) is = subcommand_prints name (ap is_some is)
site_written name value (Some false) is = subcommand_prints name (ap is_some is)
site_written name value None is = written asterisks refl

verb_written : (verb : Ruled) (name : Bytes) (value : Option Bytes)
    → IsWritten (visible_verb verb name value)
verb_written verbs_of.Other name value = other_written name (is_listed name) refl
verb_written verbs_of.Site name value =
    site_written (upper name) value (shows_arguments name) refl
verb_written verb name value = written (word verb) refl

pub log_line_prints : (event : FtpEvent) (line : Bytes) → ArePrintable (log_line event line)
log_line_prints (Command command) line =
    let parts : Said = said command in
    text_prints (visible_said parts (shown_value line))
    (verb_written parts.verb parts.name (visible_value parts.value (shown_value line)))
log_line_prints (Refused fault) line = text_prints
    (RefusedLine (listed_verb line) (reason fault.source fault.kind))
    (verb_prints line, reason_prints fault.source fault.kind)
