-- How many bytes a log line has.
use Rattle.std.proofs.Common.{◌≡◌, ◌<◌, ◌/◌, ◌%◌, ℕ, ◌+◌, ◌*◌, ◌≤◌, ◌==◌, nat_lt, Bool, true, false, zero, suc, mod-lt, refl, [], ◌∷◌, ◌++◌, length, Option, Some, None, option_map, unwrap_or, Ok, Err, arith, codes, decimal, if◌then◌else◌, length-append}
use Rattle.std.specs.Char.{to_ascii_uppercase}
use Rattle.std.specs.Char.Escape.{escape_ascii, short_escape}
use Rattle.std.specs.Fmt.{digits, digits_onto, digit_glyph}
use Rattle.std.specs.List.{AllByRecursion}
use Rattle.std.specs.Prelude.{option_and_then}
use Rattle.std.proofs.lemmas.Bool.{cond_both}
use Rattle.std.proofs.lemmas.List.{length-map}
use Rattle.unftp_control_defs.specs.Bytes.{Bytes}
use Rattle.unftp_control_defs.specs.ComputedValue.{value_of}
use Rattle.unftp_control_defs.specs.Events.{Command, Refused, event_of, line_too_long}
use Rattle.unftp_control_defs.specs.FtpCommand.{Outcome, FtpCommand, InvalidCommand, InvalidEol, InvalidUtf8, Chosen, Number, Other, Site, Value, maybe_text, said, unless_empty, verbs}
use Rattle.unftp_control_defs.specs.Outcome.{outcome}
use Rattle.unftp_control_defs.specs.Rules.{row_of}
use Rattle.unftp_control_defs.specs.Said.{choice_word, mechanism, mode_letter, protection_letter, setting, structure_letter, value_bytes}
use Rattle.unftp_control_defs.specs.Texts.{reading_text}
use Rattle.unftp_control_defs.specs.Verbs.{parameter_of, upper, verb_of}
use Rattle.unftp_control_defs.specs.declared.parameters.AuthParam.{AuthParam}
use Rattle.unftp_control_defs.specs.declared.parameters.AuthParam.TheVariants.{Ssl, Tls}
use Rattle.unftp_control_defs.specs.declared.parameters.Choice.{Choice}
use Rattle.unftp_control_defs.specs.declared.parameters.Choice.TheVariants as choices
use Rattle.unftp_control_defs.specs.declared.parameters.ModeParam.{ModeParam}
use Rattle.unftp_control_defs.specs.declared.parameters.ModeParam.TheVariants.{Stream, Block, Compressed}
use Rattle.unftp_control_defs.specs.declared.parameters.Opt.{Opt}
use Rattle.unftp_control_defs.specs.declared.parameters.Opt.TheVariants.{Utf8}
use Rattle.unftp_control_defs.specs.declared.parameters.ProtParam.{ProtParam}
use Rattle.unftp_control_defs.specs.declared.parameters.ProtParam.TheVariants.{Clear, Safe, Confidential, Private}
use Rattle.unftp_control_defs.specs.declared.parameters.StruParam.{StruParam}
use Rattle.unftp_control_defs.specs.declared.parameters.StruParam.TheVariants.{File, Record, Page}
use Rattle.unftp_control_defs.specs.declared.verb.Verb.{Verb as Ruled}
use Rattle.unftp_control_defs.specs.declared.verb.Verb.TheVariants as verbs_of
use Rattle.unftp_control_defs.proofs.RuleLemmas.{found}
use Rattle.unftp_control_defs.proofs.ValueLemmas.{Reads-value_of}
use Rattle.unftp_control_log.specs.LogLine.{is_listed, log_line, logged, parameter_by, shown, shown_parameter, shown_value, shows_arguments, site_words, visible_other, visible_said, visible_site, visible_text, visible_value}
use Rattle.unftp_control_write.specs.Lines.{spaced_part}
use Rattle.unftp_control_c.specs.Areas.{Made, written}
use Rattle.unftp_control_c.specs.LogLines.{IsLogLine, numbered_log_line}
use Rattle.unftp_control_c.specs.Numbers.{status_number}
use Rattle.unftp_control_c.specs.declared.status.Status.TheVariants.{LineTooLong}
use Rattle.unftp_control_c.proofs.AreaLemmas.{filled_length}
use Rattle.unftp_control_c.proofs.RoomLemmas.{cut_length, lengths, outcome_room, reads_length}

-- ---- what is shown of a text

abbrev IsShort : Bytes → Type 0
IsShort bytes = length bytes ≤ 4

byte_room : (b : ℕ) → IsShort (escape_ascii b)
byte_room b = cond_both (nat_lt 0 (short_escape b)) _ _ IsShort (λ _. omega arith)
    (λ _. cond_both (nat_lt b 32) _ _ IsShort (λ _. omega arith)
    (λ _. cond_both (nat_lt b 127) (b ∷ []) _ IsShort (λ _. omega arith) (λ _. omega arith)))

shown_room : (text : Bytes) → length (shown text) ≤ 4 * length text
shown_room [] = omega arith
shown_room (b ∷ text) =
    omega (arith, length-append (escape_ascii b) (shown text), byte_room b, shown_room text)

part_room : (value : Option Bytes)
    → length (spaced_part (option_map shown value)) ≤ 4 * length (unwrap_or value []) + 1
part_room None = omega arith
part_room (Some text) = omega (arith, shown_room text)

-- the digits of a number are shown as they are
glyph_room : (d : ℕ) → d < 10 → length (escape_ascii (digit_glyph false d)) ≤ 1
glyph_room zero small = omega arith
glyph_room (suc zero) small = omega arith
glyph_room (suc (suc zero)) small = omega arith
glyph_room (suc (suc (suc zero))) small = omega arith
glyph_room (suc (suc (suc (suc zero)))) small = omega arith
glyph_room (suc (suc (suc (suc (suc zero))))) small = omega arith
glyph_room (suc (suc (suc (suc (suc (suc zero)))))) small = omega arith
glyph_room (suc (suc (suc (suc (suc (suc (suc zero))))))) small = omega arith
glyph_room (suc (suc (suc (suc (suc (suc (suc (suc zero)))))))) small = omega arith
glyph_room (suc (suc (suc (suc (suc (suc (suc (suc (suc zero))))))))) small = omega arith
glyph_room (suc (suc (suc (suc (suc (suc (suc (suc (suc (suc d)))))))))) small = absurd (omega (arith, small))

onto_room : (k n : ℕ) (more : Bytes) → length (shown more) ≤ length more
    → length (shown (digits_onto k 10 false n more)) ≤ length (digits_onto k 10 false n more)
onto_room zero n more short = short
onto_room (suc k) n more short =
    let digit : ℕ = digit_glyph false (n % 10) in
    let next : Bytes = digit ∷ more in
    let room : length (shown next) ≤ length next = omega (
      arith,
      length-append (escape_ascii digit) (shown more),
      glyph_room (n % 10) (mod-lt n (omega arith)),
      short,
    ) in
    cond_both (n / 10 == 0) next (digits_onto k 10 false (n / 10) next)
    (λ text. length (shown text) ≤ length text) (λ _. room)
    (λ _. onto_room k (n / 10) next room)

decimal_room : (n : ℕ) → length (shown (decimal n)) ≤ length (decimal n)
unfolding digits
decimal_room n = onto_room 64 n [] (omega arith)

-- ---- of a line's value

parameter_room : (row : Option Ruled) (parameter : Bytes)
    → length (unwrap_or (parameter_by row parameter) []) ≤ length parameter
parameter_room None parameter = omega arith
parameter_room (Some verbs_of.Site) parameter =
    cond_both (unwrap_or (shows_arguments (verb_of parameter)) false)
    (Some (parameter_of parameter)) None
    (λ argument. length (unwrap_or argument []) ≤ length parameter)
    (λ _. omega (arith, cut_length parameter)) (λ _. omega arith)
parameter_room (Some verb) parameter = omega arith

unless_empty_room : (v : Bytes) → length (unwrap_or (unless_empty v) []) ≤ length v
unless_empty_room [] = omega arith
unless_empty_room (b ∷ v) = omega arith

value_room : (line : Bytes) → length (unwrap_or (shown_value line) []) ≤ length line
value_room line = by_parameter (shown_parameter line)
    (omega (
      arith,
      parameter_room (row_of (upper (verb_of line)) verbs) (parameter_of line),
      cut_length line,
    ))
  where
    by_value : (parameter : Bytes) (value : Option Bytes) → value_of parameter ≡ value
        → length (unwrap_or (option_and_then unless_empty value) []) ≤ length parameter
    by_value parameter None is = omega arith
    by_value parameter (Some v) is =
        omega (arith, unless_empty_room v, reads_length (Reads-value_of parameter v is))

    by_parameter : (parameter : Option Bytes)
        → length (unwrap_or parameter []) ≤ length line
        → length (unwrap_or (option_and_then unless_empty (option_and_then value_of parameter)) [])
        ≤ length line
    by_parameter None within = omega arith
    by_parameter (Some parameter) within =
        omega (arith, within, by_value parameter (value_of parameter) refl)

-- ---- of a command

other_room : (listed : Bool) (name : Bytes)
    → length (visible_text (visible_other listed (upper name))) ≤ length name + 4
other_room true name = omega (
  arith,
  length-append (upper name) (spaced_part (Some (shown (codes "***")))),
  length-map name to_ascii_uppercase,
)
other_room false name = omega arith

short_words : AllByRecursion (λ row. length row.0 ≤ 5) site_words
short_words = search arith

site_room : (name : Bytes) (value : Option Bytes) (row : Option Bool)
    → row_of (upper name) site_words ≡ row
    → length (visible_text (visible_site row (upper name) value))
    ≤ length (spaced_part (option_map shown value)) + 14
site_room name value (Some true) is = omega (
  arith,
  found (λ name shows. length name ≤ 5) (upper name) site_words short_words is,
  length-append (upper name) (spaced_part (option_map shown value)),
)
site_room name value (Some false) is = omega (
  arith,
  found (λ name shows. length name ≤ 5) (upper name) site_words short_words is,
  length-append (upper name) (spaced_part (Some (shown (codes "***")))),
)
site_room name value None is = omega arith

letter_room : (structure : StruParam) → length (shown (structure_letter structure)) ≤ 1
letter_room File = omega arith
letter_room Record = omega arith
letter_room Page = omega arith

mode_room : (mode : ModeParam) → length (shown (mode_letter mode)) ≤ 1
mode_room Stream = omega arith
mode_room Block = omega arith
mode_room Compressed = omega arith

level_room : (param : ProtParam) → length (shown (protection_letter param)) ≤ 1
level_room Clear = omega arith
level_room Safe = omega arith
level_room Confidential = omega arith
level_room Private = omega arith

mechanism_room : (protocol : AuthParam) → length (shown (mechanism protocol)) ≤ 3
mechanism_room Ssl = omega arith
mechanism_room Tls = omega arith

setting_room : (option : Opt) → length (shown (setting option)) ≤ 8
setting_room (Utf8 true) = omega arith
setting_room (Utf8 false) = omega arith

choice_room : (choice : Choice) → length (shown (choice_word choice)) ≤ 8
choice_room (choices.Structure structure) = omega (arith, letter_room structure)
choice_room (choices.Mode mode) = omega (arith, mode_room mode)
choice_room (choices.Protection param) = omega (arith, level_room param)
choice_room (choices.Mechanism protocol) = omega (arith, mechanism_room protocol)
choice_room (choices.Setting option) = setting_room option
choice_room choices.NoBuffer = omega arith

-- what is shown of a value that has at most 3 n bytes, where its line has n
sent_room : (said : Value) (value : Option Bytes) (n : ℕ) → length (unwrap_or value []) ≤ n
    → length (unwrap_or (value_bytes said) []) ≤ 3 * n
    → length (spaced_part (option_map shown (visible_value said value))) ≤ 4 * n + 9
sent_room (Chosen choice) value n short room = omega (arith, choice_room choice)
sent_room (Number number) value n short room = omega (arith, decimal_room number, room)
sent_room said value n short room = omega (arith, part_room value, short)

command_room : (command : FtpCommand) (value : Option Bytes) (n : ℕ)
    → length (unwrap_or value []) ≤ n → lengths (Command command) ≤ 3 * n
    → length (visible_text (visible_said (said command) value)) ≤ 4 * n + 42
command_room (Other name arguments) value n short room =
    omega (arith, other_room (is_listed name) name, room)
command_room (Site name arguments) value n short room =
    let text : Value = maybe_text (unless_empty arguments) in omega (
      arith,
      site_room name (visible_value text value) (shows_arguments name) refl,
      sent_room text value n short (omega (arith, room)),
    )
command_room command value n short room = omega (
  arith,
  sent_room (said command).value value n short (omega (arith, room)),
)

-- ---- of a line

refused_room : (line : Bytes) (listed : Bool) (reason : Bytes) → length reason ≤ 32
    → length (codes "refused"
    ++ spaced_part (if listed then Some (upper (verb_of line)) else None)
    ++ codes ": " ++ reason) ≤ length line + 42
refused_room line true reason short = omega (
  arith,
  short,
  cut_length line,
  length-append (upper (verb_of line)) (codes ": "),
  length-append (upper (verb_of line) ++ codes ": ") reason,
)
refused_room line false reason short = omega (arith, short)

answer_room : (line : Bytes) (answer : Outcome)
    → lengths (event_of answer) ≤ 3 * length line
    → length (log_line (event_of answer) line) ≤ 4 * length line + 42
answer_room line (Ok command) room =
    command_room command (shown_value line) (length line) (value_room line) room
answer_room line (Err InvalidCommand) room =
    omega (
      arith,
      refused_room line (is_listed (verb_of line))
          (reading_text (Some InvalidCommand)) (omega arith),
    )
answer_room line (Err InvalidUtf8) room =
    omega (
      arith,
      refused_room line (is_listed (verb_of line))
          (reading_text (Some InvalidUtf8)) (omega arith),
    )
answer_room line (Err InvalidEol) room =
    omega (
      arith,
      refused_room line (is_listed (verb_of line))
          (reading_text (Some InvalidEol)) (omega arith),
    )

numbered_room : (number : ℕ) (line : Bytes)
    → length (numbered_log_line number line) ≤ 4 * length line + 42
numbered_room number line = cond_both (number == status_number LineTooLong)
    (log_line (Refused line_too_long) []) (logged None line)
    (λ bytes. length bytes ≤ 4 * length line + 42)
    (λ _. omega arith) (λ _. answer_room line (outcome line) (outcome_room line))

pub log_room : (number : ℕ) (line : Bytes) (bytes : Made) (out : Bytes)
    → IsLogLine number line bytes → (written bytes out).text_length ≤ 4 * length line + 42
log_room number line (Ok bytes) out is =
    rw is (omega (
      arith,
      filled_length (numbered_log_line number line) out,
      numbered_room number line,
    ))
log_room number line (Err status) out is = omega arith
