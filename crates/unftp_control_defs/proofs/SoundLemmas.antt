-- What verbs make of a value without LF are sound commands: they have a line, and fields of their
-- types.
use Rattle.std.specs.Prelude.{◌<◌}
use Rattle.std.proofs.lemmas.Str.{IsUtf8-nil}
use Rattle.std.proofs.Common.{◌≡◌, ◌≢◌, ℕ, Bool, true, false, cond, ◌==◌, nat_lt, ◌&&◌, ◌^◌, List, [], ◌∷◌, length, Option, Some, None, Ok, Err, bytes_eq, refl, subst, arith}
use Rattle.std.specs.List.{AllByRecursion}
use Rattle.std.specs.Str.{IsUtf8, is_utf8, all_ascii_digits}
use Rattle.std.specs.Str.Lossy.{utf8_lossy}
use Rattle.std.specs.Str.Parse.{digits_value, without_leading_plus}
use Rattle.std.proofs.lemmas.Bool.{ltb-true, and_parts}
use Rattle.unftp_control_defs.specs.Bytes.{Bytes, LF, Lacks}
use Rattle.unftp_control_defs.specs.Paths.{path_of}
use Rattle.unftp_control_defs.specs.Verbs.{upper}
use Rattle.unftp_control_defs.specs.FtpCommand.{FtpCommand, Rest, Outcome, Refusal, InvalidCommand, InvalidUtf8, Value, Nothing, Raw, Text, Chosen, Number, by_named_text, by_nothing, by_number, by_optional_raw, by_optional_text, by_raw, by_text, command_by, maybe_raw, maybe_text, unless_empty}
use Rattle.unftp_control_defs.specs.Said.{HasTypedFields, IsMaybeUtf8, IsTyped}
use Rattle.unftp_control_defs.specs.Rules.{auth, buffer_sizes, chosen, mechanisms, modes, offset, optional_text, options, protections, structures, taken, typed_outcome}
use Rattle.unftp_control_defs.specs.declared.verb.Kind.{Kind}
use Rattle.unftp_control_defs.specs.declared.verb.Kind.TheVariants as kinds
use Rattle.unftp_control_defs.specs.declared.verb.Verb.{Verb}
use Rattle.unftp_control_defs.specs.declared.verb.Verb.TheVariants as verbs
use Rattle.unftp_control_defs.specs.Canonical.{HasLine, HasRoom, IsNonEmptyText, IsOptionalText}
use Rattle.unftp_control_defs.proofs.LackLemmas.{Lacks-utf8_lossy, Lacks-path_of}
use Rattle.unftp_control_defs.proofs.LossyLemmas.{IsUtf8-utf8_lossy, kept-utf8_lossy, IsUtf8-path_of}

abbrev pub IsSound : FtpCommand → Type 0
IsSound command = HasLine command × HasTypedFields command

-- whatever command this makes of a value without LF is sound
abbrev pub Gives : (Bytes → Outcome) → Type 0
Gives answer = (v : Bytes) (command : FtpCommand) → Lacks LF v → answer v ≡ Ok command
    → IsSound command

pub sound : (made command : FtpCommand) → IsSound made → ◌≡◌ {A = Outcome} (Ok made) (Ok command)
    → IsSound command
sound made command is_sound e = let same : made ≡ command = cc in subst IsSound same is_sound

-- a test whose other side is a refusal
pub passed : (test : Bool) (answer : Outcome) (refusal : Refusal) (command : FtpCommand)
    → cond test answer (Err refusal) ≡ Ok command → (test ≡ true) × (answer ≡ Ok command)
passed true answer refusal command e = (refl, e)
passed false answer refusal command e = cc

pub not_refused : (test : Bool) {answer : Outcome} (refusal : Refusal) {command : FtpCommand}
    → cond test (Err refusal) answer ≡ Ok command → answer ≡ Ok command
not_refused true refusal e = cc
not_refused false refusal e = e

-- what is read of a value without LF
abbrev pub IsRead : Value → Type 0
IsRead value = HasRoom value × IsTyped value

pub IsTyped-raw : (bytes : Option Bytes) → IsTyped (maybe_raw bytes)
IsTyped-raw None = tt
IsTyped-raw (Some bytes) = tt

-- whatever command this makes of what is read is sound
abbrev pub Makes : (Value → Outcome) → Type 0
Makes makes = (value : Value) (command : FtpCommand) → IsRead value → makes value ≡ Ok command
    → IsSound command

pub nothing_makes : (made : FtpCommand) (name : Bytes) → IsSound made → Makes (by_nothing made name)
nothing_makes made name is_sound Nothing command is e = sound made command is_sound e
nothing_makes made name is_sound value command is e = cc

pub raw_makes : (made : Bytes → FtpCommand) (name : Bytes)
    → ((bytes : Bytes) → Lacks LF bytes → IsSound (made bytes)) → Makes (by_raw made name)
raw_makes made name each Nothing command is e = sound (made []) command (each [] tt) e
raw_makes made name each (Raw bytes) command is e = sound (made bytes) command (each bytes is.0.1) e
raw_makes made name each (Text text) command is e = cc
raw_makes made name each (Chosen choice) command is e = cc
raw_makes made name each (Number number) command is e = cc

pub optional_raw_makes : (made : Option Bytes → FtpCommand) (name : Bytes)
    → ((bytes : Option Bytes) → HasRoom (maybe_raw bytes) → IsSound (made bytes))
    → Makes (by_optional_raw made name)
optional_raw_makes made name each Nothing command is e = sound (made None) command (each None tt) e
optional_raw_makes made name each (Raw bytes) command is e =
    sound (made (Some bytes)) command (each (Some bytes) is.0) e
optional_raw_makes made name each (Text text) command is e = cc
optional_raw_makes made name each (Chosen choice) command is e = cc
optional_raw_makes made name each (Number number) command is e = cc

pub text_makes : (made : Bytes → FtpCommand) (name : Bytes)
    → ((text : Bytes) → IsNonEmptyText text → IsUtf8 text → IsSound (made text))
    → Makes (by_text made name)
text_makes made name each Nothing command is e = cc
text_makes made name each (Raw bytes) command is e = cc
text_makes made name each (Text text) command is e =
    sound (made text) command (each text is.0 is.1) e
text_makes made name each (Chosen choice) command is e = cc
text_makes made name each (Number number) command is e = cc

pub optional_text_makes : (made : Option Bytes → FtpCommand) (name : Bytes)
    → ((text : Option Bytes) → IsOptionalText text → IsMaybeUtf8 text → IsSound (made text))
    → Makes (by_optional_text made name)
optional_text_makes made name each Nothing command is e =
    sound (made None) command (each None tt tt) e
optional_text_makes made name each (Raw bytes) command is e = cc
optional_text_makes made name each (Text text) command is e =
    sound (made (Some text)) command (each (Some text) is.0 is.1) e
optional_text_makes made name each (Chosen choice) command is e = cc
optional_text_makes made name each (Number number) command is e = cc

pub named_text_makes : (made : Bytes → Bytes → FtpCommand) (name : Bytes)
    → ((text : Bytes) → Lacks LF text → IsUtf8 text → IsSound (made name text))
    → Makes (by_named_text made name)
named_text_makes made name each Nothing command is e =
    sound (made name []) command (each [] tt IsUtf8-nil) e
named_text_makes made name each (Raw bytes) command is e = cc
named_text_makes made name each (Text text) command is e =
    sound (made name text) command (each text is.0.1 is.1) e
named_text_makes made name each (Chosen choice) command is e = cc
named_text_makes made name each (Number number) command is e = cc

-- one of a few commands
chosen_step : (test : Bool) (made : FtpCommand) {meant : FtpCommand} {other : Outcome}
    → IsSound made
    → (other ≡ Ok meant → IsSound meant) → cond test (Ok made) other ≡ Ok meant → IsSound meant
chosen_step true made {meant} is_sound more e = sound made meant is_sound e
chosen_step false made is_sound more e = more e

any_chosen : (rows : List (Bytes × FtpCommand)) → AllByRecursion (λ row. IsSound row.1) rows
    → (v : Bytes) {meant : FtpCommand} → chosen rows v ≡ Ok meant → IsSound meant
any_chosen [] each v e = cc
any_chosen (row ∷ rows) each v {meant} e = chosen_step (bytes_eq row.0 v) row.1 each.0
    (λ q. any_chosen rows each.1 v q) e

pub number_makes : (made : ℕ → FtpCommand) (name : Bytes)
    → ((number : ℕ) → number < 2 ^ 64 → IsSound (made number)) → Makes (by_number made name)
number_makes made name each Nothing command is e = cc
number_makes made name each (Raw bytes) command is e = cc
number_makes made name each (Text text) command is e = cc
number_makes made name each (Chosen choice) command is e = cc
number_makes made name each (Number number) command is e =
    sound (made number) command (each number is.1) e

-- what is read of a value
IsNonEmptyText-utf8_lossy : (v : Bytes) → v ≢ [] → Lacks LF v → IsNonEmptyText (utf8_lossy v)
IsNonEmptyText-utf8_lossy v some h = (kept-utf8_lossy v some, Lacks-utf8_lossy LF (omega arith) v h)

some_value : (b : ℕ) (v : Bytes) → b ∷ v ≢ []
some_value b v e = cc

IsRead-optional_text : (v : Bytes) → Lacks LF v → IsRead (optional_text v)
IsRead-optional_text [] h = (tt, tt)
IsRead-optional_text (b ∷ v) h =
    (IsNonEmptyText-utf8_lossy (b ∷ v) (some_value b v) h, IsUtf8-utf8_lossy (b ∷ v))

IsRead-raw : (v : Bytes) → Lacks LF v → IsRead (maybe_raw (unless_empty v))
IsRead-raw [] h = (tt, tt)
IsRead-raw (b ∷ v) h = ((some_value b v, h), tt)

IsRead-path : (path : Bytes) → Lacks LF path → IsUtf8 path → IsRead (maybe_text (unless_empty path))
IsRead-path [] h utf8 = (tt, tt)
IsRead-path (b ∷ path) h utf8 = ((some_value b path, h), utf8)

-- the values of the verbs with a value of their own type, each by computation
word_gives : (rows : List (Bytes × FtpCommand)) → AllByRecursion (λ row. IsSound row.1) rows
    → Gives (chosen rows)
word_gives rows each v meant h e = any_chosen rows each v e

auth_gives : Gives auth
auth_gives v meant h e =
    let short =
    not_refused (nat_lt 3 (length v)) InvalidCommand e in
    any_chosen mechanisms ((tt, tt), ((tt, tt), tt)) (upper v)
    (passed (is_utf8 v) (chosen mechanisms (upper v)) InvalidUtf8 meant short).1

offset_sound : (text : Bytes) (meant : FtpCommand) → offset text ≡ Ok meant → IsSound meant
offset_sound text meant e =
    let digits : Bytes = without_leading_plus text in
    let n : ℕ = digits_value 10 digits in
    let are_digits : Bool = nat_lt 0 (length digits) && all_ascii_digits digits in
    let p = passed (are_digits && nat_lt n (2 ^ 64)) (Ok (Rest n)) InvalidCommand meant e in
    sound (Rest n) meant (tt, ltb-true n (2 ^ 64) (and_parts are_digits (nat_lt n (2 ^ 64)) p.0).1)
    p.1

typed_gives : (verb : Verb) → Gives (typed_outcome verb)
typed_gives verbs.Stru = word_gives structures ((tt, tt), ((tt, tt), ((tt, tt), tt)))
typed_gives verbs.Mode = word_gives modes ((tt, tt), ((tt, tt), ((tt, tt), tt)))
typed_gives verbs.Prot =
    word_gives protections ((tt, tt), ((tt, tt), ((tt, tt), ((tt, tt), tt))))
typed_gives verbs.Opts = word_gives options ((tt, tt), ((tt, tt), ((tt, tt), ((tt, tt), tt))))
typed_gives verbs.Pbsz = word_gives buffer_sizes ((tt, tt), tt)
typed_gives verbs.Auth = auth_gives
typed_gives verbs.Rest = λ v meant h e. offset_sound (utf8_lossy v) meant e
typed_gives verb = λ v meant h e. let refused : ◌≡◌ {A = Outcome} (Err InvalidCommand)
    (Ok meant) = e in cc

-- what a verb of each kind takes
pub taken_gives : (kind : Kind) (verb : Verb) (name : Bytes) → Makes (command_by verb name)
    → Gives (taken kind verb name)
taken_gives kinds.Alone verb name makes v command h e = makes Nothing command (tt, tt)
    (passed (length v == 0) (command_by verb name Nothing) InvalidCommand command e).1
taken_gives kinds.Raw verb name makes v command h e =
    makes (maybe_raw (unless_empty v)) command (IsRead-raw v h) e
taken_gives kinds.Text verb name makes v command h e =
    makes (Text (utf8_lossy v)) command (IsNonEmptyText-utf8_lossy v some h, IsUtf8-utf8_lossy v)
    (not_refused (length v == 0) InvalidCommand e)
  where
    some : v ≢ []
    some is = let refused : ◌≡◌ {A = Outcome} (Err InvalidCommand) (Ok command) = rw is at e in cc
taken_gives kinds.OptionalText verb name makes v command h e =
    makes (optional_text v) command (IsRead-optional_text v h) e
taken_gives kinds.Listing verb name makes v command h e =
    let text : Bytes = utf8_lossy v in
    makes (maybe_text (unless_empty (path_of text))) command
    (IsRead-path (path_of text) (Lacks-path_of text (Lacks-utf8_lossy LF (omega arith) v h))
    (IsUtf8-path_of text (IsUtf8-utf8_lossy v))) e
taken_gives kinds.Typed verb name makes v command h e = typed_gives verb v command h e
taken_gives kinds.Ignored verb name makes v command h e = cc
taken_gives kinds.Subcommand verb name makes v command h e = cc
