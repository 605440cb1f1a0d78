-- How much room the name and the value of a line's command need.
use Rattle.std.proofs.Common.{◌≡◌, ℕ, ◌+◌, ◌*◌, ◌^◌, ◌<◌, ◌≤◌, Bool, true, false, cond, ◌==◌, ◌&&◌, nat_lt, List, [], ◌∷◌, ◌++◌, length, length-drop, length-append, Option, Some, None, unwrap_or, Ok, Err, bytes_eq, codes, decimal, refl, ap, arith, rules}
use Rattle.std.specs.Prelude.{if◌then◌else◌}
use Rattle.std.specs.Char.{to_ascii_uppercase}
use Rattle.std.specs.List.{AllByRecursion, position_or_len, slice_index}
use Rattle.std.specs.Str.{is_utf8, all_ascii_digits}
use Rattle.std.specs.Str.Lossy.{utf8_lossy}
use Rattle.std.specs.Str.Parse.{digits_value, without_leading_plus}
use Rattle.std.proofs.lemmas.Bool.{ltb-true, and_parts, cond_both}
use Rattle.std.proofs.lemmas.Fmt.{length-decimal-le}
use Rattle.std.proofs.lemmas.List.{length-map, length-take}
use Rattle.std.proofs.lemmas.Str.Parse.{digits_value_short, numerals_by_value, tells_all_ascii_digits}
use lib.Pointwise.{bytes_decides}
use Rattle.unftp_control_defs.specs.Bytes.{Bytes, SP}
use Rattle.unftp_control_defs.specs.ComputedValue.{value_of}
use Rattle.unftp_control_defs.specs.Events.{FtpEvent, Command, event_of}
use Rattle.unftp_control_defs.specs.FtpCommand.{FtpCommand, Rest, Outcome, InvalidCommand, InvalidUtf8, Nothing, Text, Value, command_by, kind, maybe_raw, maybe_text, unless_empty, verbs, Said}
use Rattle.unftp_control_defs.specs.Outcome.{outcome, parameter_outcome, site_outcome, value_outcome, word_outcome}
use Rattle.unftp_control_defs.specs.Paths.{path_of}
use Rattle.unftp_control_defs.specs.Rules.{auth, buffer_sizes, chosen, mechanisms, modes, offset, optional_text, options, protections, row_of, structures, subcommand_outcome, taken, typed_outcome}
use Rattle.unftp_control_defs.specs.Said.{KindSaysBack, SaysBack, MeansCommand, value_bytes}
use Rattle.unftp_control_defs.specs.Values.{ReadsLater, ends_crlf, ends_lf, cr_nul, byte, Reads, nothing, ended, ended_crlf, one_byte, first_cr_nul, first_byte}
use Rattle.unftp_control_defs.specs.Verbs.{verb_of, parameter_of, upper, is_separator}
use Rattle.unftp_control_defs.specs.declared.verb.Kind.{Kind}
use Rattle.unftp_control_defs.specs.declared.verb.Kind.TheVariants as kinds
use Rattle.unftp_control_defs.specs.declared.verb.Verb.{Verb}
use Rattle.unftp_control_defs.specs.declared.verb.Verb.TheVariants as verb
use Rattle.unftp_control_defs.proofs.LossyLemmas.{length-utf8_lossy}
use Rattle.unftp_control_defs.proofs.PathLemmas.{path_of-keeps}
use Rattle.unftp_control_defs.proofs.SaidLemmas.{fits, other_fits, site_fits}
use Rattle.unftp_control_defs.proofs.ValueLemmas.{Reads-value_of}
use Rattle.unftp_control_codecs.proofs.TextLemmas.{optional_says}
use Rattle.unftp_control_c.specs.Next.{Given, given_for, given_of, lengths_of, needed_room, value_place, written_for}

-- how many bytes the name and the value have that is given
abbrev said_room : Said → ℕ
said_room parts = length (given_of parts).name + length (given_of parts).value

-- so of an event: none for a refusal
abbrev pub lengths : FtpEvent → ℕ
lengths event = length (given_for event).name + length (given_for event).value

-- and no more of it is written to the area
pub written_room : (line : Bytes) (given : Given)
    → length (written_for line given) ≤ length given.name + length given.value
written_room line given = cond_both (nat_lt 0 (value_place line given.value)) [] given.value
    (λ text. length (given.name ++ text) ≤ length given.name + length given.value)
    (λ _. omega (arith, length-append given.name []))
    (λ _. omega (arith, length-append given.name given.value))

-- it needs this much room
pub written_needs : (n : ℕ) (line : Bytes) (given : Given)
    → length (written_for line given) ≡ needed_room (lengths_of n line given)
written_needs n line given = by_place (nat_lt 0 (value_place line given.value))
  where
    by_place : (stays : Bool) → length (given.name ++ (if stays then [] else given.value))
        ≡ length given.name + (if stays then 0 else length given.value)
    by_place true = length-append given.name []
    by_place false = length-append given.name given.value

abbrev room : Outcome → ℕ
room answer = lengths (event_of answer)

told : (answer : Outcome) (parts : Said) → MeansCommand answer parts → room answer ≡ said_room parts
told (Ok command) parts tells = ap said_room tells
told (Err refusal) parts tells = absurd tells

pub path_length : (text : Bytes) → length (path_of text) ≤ length text
path_length text = path_of-keeps (λ path. length path ≤ length text) (omega arith)
    (λ front path h. omega (arith, h, length-append front (SP ∷ path))) text (omega arith)

-- A value is no longer than its parameter.
later_length : {fresh : Bool} {bytes v : Bytes} → ReadsLater fresh bytes v
    → length v ≤ length bytes
later_length ends_crlf = omega arith
later_length ends_lf = omega arith
later_length (cr_nul h) = omega (arith, later_length h)
later_length (byte no_cr may h) = omega (arith, later_length h)

pub reads_length : {parameter v : Bytes} → Reads parameter v → length v ≤ length parameter
reads_length nothing = omega arith
reads_length ended = omega arith
reads_length ended_crlf = omega arith
reads_length (one_byte no_cr no_lf) = omega arith
reads_length (first_cr_nul h) = omega (arith, later_length h)
reads_length (first_byte no_lf apart h) = omega (arith, later_length h)

abbrev value_room : Value → ℕ
value_room value = length (unwrap_or (value_bytes value) [])

raw_length : (v : Bytes) → value_room (maybe_raw (unless_empty v)) ≤ length v
raw_length [] = omega arith
raw_length (b ∷ v) = omega arith

text_length : (text : Bytes) → value_room (maybe_text (unless_empty text)) ≤ length text
text_length [] = omega arith
text_length (b ∷ text) = omega arith

optional_length : (v : Bytes) → value_room (optional_text v) ≤ 3 * length v
optional_length [] = omega arith
optional_length (b ∷ v) = omega (arith, length-utf8_lossy (b ∷ v))

-- What the verbs with a value of their own type make of it.
chosen_room : (rows : List (Bytes × FtpCommand))
    → AllByRecursion (λ row. lengths (Command row.1) ≤ 3 * length row.0) rows → (v : Bytes)
    → room (chosen rows v) ≤ 3 * length v
chosen_room [] each v = omega arith
chosen_room (row ∷ rows) each v = cond_both (bytes_eq row.0 v) (Ok row.1) (chosen rows v)
    (λ answer. room answer ≤ 3 * length v)
    (λ is. omega (arith, each.0, ap length ((bytes_decides row.0 v).0 is)))
    (λ _. chosen_room rows each.1 v)

auth_room : (v : Bytes) → room (auth v) ≤ 3 * length v
auth_room v = cond_both (nat_lt 3 (length v)) (Err InvalidCommand)
    (cond (is_utf8 v) (chosen mechanisms (upper v)) (Err InvalidUtf8))
    (λ answer. room answer ≤ 3 * length v)
    (λ _. omega arith)
    (λ _. cond_both (is_utf8 v) (chosen mechanisms (upper v)) (Err InvalidUtf8)
    (λ answer. room answer ≤ 3 * length v)
    (λ _. omega (
      arith,
      chosen_room mechanisms (search rules) (upper v),
      length-map v to_ascii_uppercase,
    ))
    (λ _. omega arith))

-- a decimal number has no more digits than it was read from
rest_room : (v : Bytes) → room (offset (utf8_lossy v)) ≤ 3 * length v
rest_room v =
    let text : Bytes = utf8_lossy v in
    let digits : Bytes = without_leading_plus text in
    let n : ℕ = digits_value 10 digits in
    let some : Bool = nat_lt 0 (length digits) in
    let are_digits : Bool = some && all_ascii_digits digits in
    cond_both (are_digits && nat_lt n (2 ^ 64)) (Ok (Rest n)) (Err InvalidCommand)
    (λ answer. room answer ≤ 3 * length v)
    (λ is.
    let both = and_parts are_digits (nat_lt n (2 ^ 64)) is in
    let each = and_parts some (all_ascii_digits digits) both.0 in
    let model = numerals_by_value (λ ds. all_ascii_digits ds ≡ true) tells_all_ascii_digits in
    let least : n < 10 ^ length digits =
    digits_value_short model digits (length digits) each.1 (omega arith) in
    let short : length (decimal n) ≤ length digits =
    length-decimal-le (length digits) n (ltb-true 0 (length digits) each.0) least
    (ltb-true n (2 ^ 64) both.1) in
    omega (
      arith,
      short,
      length-drop (cond (slice_index text 0 == 43) 1 0) text,
      length-utf8_lossy v,
    ))
    (λ _. omega arith)

typed_room : (verb : Verb) (v : Bytes) → room (typed_outcome verb v) ≤ 3 * length v
typed_room verb.Stru v = chosen_room structures (search rules) v
typed_room verb.Mode v = chosen_room modes (search rules) v
typed_room verb.Prot v = chosen_room protections (search rules) v
typed_room verb.Opts v = chosen_room options (search rules) v
typed_room verb.Pbsz v = chosen_room buffer_sizes (search rules) v
typed_room verb.Auth v = auth_room v
typed_room verb.Rest v = rest_room v
typed_room verb v = omega arith

-- What a verb with this name makes of a value, and of a parameter.
module _ (verb : Verb) (name : Bytes) where
  says_room : (value : Value) → SaysBack verb name value
      → room (command_by verb name value) ≡ length name + value_room value
  says_room value says = told (command_by verb name value)
      (record { verb = verb; name = name; value = value }) says.1

  taken_room : (kind : Kind) → KindSaysBack kind verb name → (v : Bytes)
      → room (taken kind verb name v) ≤ length name + 3 * length v
  taken_room kinds.Alone says v = cond_both (length v == 0) (command_by verb name Nothing)
      (Err InvalidCommand) (λ answer. room answer ≤ length name + 3 * length v)
      (λ _. omega (arith, says_room Nothing says)) (λ _. omega arith)
  taken_room kinds.Raw says v =
      omega (arith, says_room (maybe_raw (unless_empty v)) (says v), raw_length v)
  taken_room kinds.Text says v = cond_both (length v == 0) (Err InvalidCommand)
      (command_by verb name (Text (utf8_lossy v)))
      (λ answer. room answer ≤ length name + 3 * length v) (λ _. omega arith)
      (λ _. omega (
        arith,
        says_room (Text (utf8_lossy v)) (says (utf8_lossy v)),
        length-utf8_lossy v,
      ))
  taken_room kinds.OptionalText says v = omega (
    arith,
    says_room (optional_text v) (optional_says verb name says v),
    optional_length v,
  )
  taken_room kinds.Listing says v =
      let path : Bytes = path_of (utf8_lossy v) in omega (
        arith,
        says_room (maybe_text (unless_empty path)) (says path),
        text_length path,
        path_length (utf8_lossy v),
        length-utf8_lossy v,
      )
  taken_room kinds.Typed nameless v = omega (arith, typed_room verb v)
  taken_room kinds.Ignored says v = omega arith
  taken_room kinds.Subcommand says v = omega arith

  value_room_of : (kind : Kind) → KindSaysBack kind verb name → (parameter : Bytes)
      → room (value_outcome (taken kind verb name) (value_of parameter))
      ≤ length name + 3 * length parameter
  value_room_of kind says parameter = by_value (value_of parameter) refl
    where
      by_value : (o : Option Bytes) → value_of parameter ≡ o
          → room (value_outcome (taken kind verb name) o) ≤ length name + 3 * length parameter
      by_value None is = omega arith
      by_value (Some v) is = omega (
        arith,
        taken_room kind says v,
        reads_length (Reads-value_of parameter v is),
      )

-- the verb and the parameter of bytes
pub cut_length : (bytes : Bytes)
    → length (upper (verb_of bytes)) + length (parameter_of bytes) ≤ length bytes
cut_length bytes =
    let at : ℕ = position_or_len is_separator bytes in
    omega (
      arith,
      length-map (verb_of bytes) to_ascii_uppercase,
      length-take at bytes,
      length-drop (at + 1) bytes,
    )

subcommand_room : (name parameter : Bytes)
    → room (value_outcome (subcommand_outcome name) (value_of parameter))
    ≤ length name + 3 * length parameter
subcommand_room name parameter = cond_both (bytes_eq name (codes "MD5"))
    (taken kinds.Text verb.Md5 []) (taken kinds.OptionalText verb.Site name)
    (λ answer. room (value_outcome answer
    (value_of parameter)) ≤ length name + 3 * length parameter)
    (λ _. omega (arith, value_room_of verb.Md5 [] kinds.Text (fits verb.Md5) parameter))
    (λ _. value_room_of verb.Site name kinds.OptionalText (site_fits name) parameter)

site_room : (parameter : Bytes) → room (site_outcome parameter) ≤ 3 * length parameter
site_room parameter = cond_both (is_utf8 (verb_of parameter))
    (value_outcome (subcommand_outcome (upper (verb_of parameter)))
    (value_of (parameter_of parameter)))
    (Err InvalidUtf8) (λ answer. room answer ≤ 3 * length parameter)
    (λ _. omega (
      arith,
      cut_length parameter,
      subcommand_room (upper (verb_of parameter)) (parameter_of parameter),
    ))
    (λ _. omega arith)

parameter_room : (kind : Kind) (verb : Verb) (name : Bytes) → KindSaysBack kind verb name
    → (parameter : Bytes) → room (parameter_outcome kind verb name parameter)
    ≤ length name + 3 * length parameter
parameter_room kinds.Ignored verb name says parameter =
    omega (arith, says_room verb name Nothing says)
parameter_room kinds.Subcommand verb name says parameter = omega (arith, site_room parameter)
parameter_room kinds.Alone verb name says parameter =
    value_room_of verb name kinds.Alone says parameter
parameter_room kinds.Raw verb name says parameter =
    value_room_of verb name kinds.Raw says parameter
parameter_room kinds.Text verb name says parameter =
    value_room_of verb name kinds.Text says parameter
parameter_room kinds.OptionalText verb name says parameter =
    value_room_of verb name kinds.OptionalText says parameter
parameter_room kinds.Listing verb name says parameter =
    value_room_of verb name kinds.Listing says parameter
parameter_room kinds.Typed verb name says parameter =
    value_room_of verb name kinds.Typed says parameter

-- the name and the value of a line's command
pub outcome_room : (line : Bytes) → lengths (event_of (outcome line)) ≤ 3 * length line
outcome_room line = cond_both (is_utf8 (verb_of line))
    (word_outcome (upper (verb_of line)) (row_of (upper (verb_of line)) verbs) (parameter_of line))
    (Err InvalidUtf8) (λ answer. room answer ≤ 3 * length line)
    (λ _. by_row (row_of (upper (verb_of line)) verbs) refl) (λ _. omega arith)
  where
    by_row : (row : Option Verb) → row_of (upper (verb_of line)) verbs ≡ row
        → room (word_outcome (upper (verb_of line)) row (parameter_of line)) ≤ 3 * length line
    by_row None is = omega (
      arith,
      cut_length line,
      parameter_room kinds.OptionalText verb.Other (upper (verb_of line))
          (other_fits (upper (verb_of line))) (parameter_of line),
    )
    by_row (Some verb) is = omega (
      arith,
      cut_length line,
      parameter_room (kind verb) verb [] (fits verb) (parameter_of line),
    )
