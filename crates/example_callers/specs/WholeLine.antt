-- A server that serves what the grammar drops of a line: what each line asks, and what it replies.
use Rattle.std.specs.Prelude.{◌≡◌, Bool, true, false, Ok, None, Some, ◌++◌, ◌⊎◌, codes}
use Rattle.std.specs.Str.{IsTrimAsciiEnd, str_to_ascii_lowercase}
use Rattle.unftp_control_defs.specs.Bytes.{Bytes}
use Rattle.unftp_control_serve.specs.Decoder.{Pending, TakesLine, line_after}
use Rattle.unftp_control_serve.specs.EventMeaning.{event_meant}
use Rattle.unftp_control_defs.specs.Events.{FtpEvent, Command, Refused}
use Rattle.unftp_control_defs.specs.FtpCommand.{Epsv, Pasv, Port, TypeCode}
use Rattle.unftp_control_defs.specs.FtpReply.{FtpReply, CodeAndMsg, encoded}
use Rattle.unftp_control_serve.specs.declared.event.Event.{Event}
use Rattle.example_callers.specs.declared.whole_line.Asked.{Asked}
use Rattle.example_callers.specs.FactList.{facts_asked, facts_text}
use Rattle.example_callers.specs.declared.fact_list.Facts.{Facts}
use Rattle.example_callers.specs.declared.whole_line.Asked.TheVariants.{Ascii, Image, EpsvOnly, FactsOnly, Nothing}
use Rattle.example_callers.specs.declared.whole_line.Modes.{Modes}

-- the case of letters is ignored (RFC 959, section 5.3)
abbrev pub Says : Bytes → Bytes → Type 0
Says text words = str_to_ascii_lowercase text ≡ str_to_ascii_lowercase words

abbrev pub SaysOneOf : Bytes → Bytes → Bytes → Type 0
SaysOneOf text words others = Says text words ⊎ Says text others

-- The types ASCII and image, the latter also as bytes of 8 bits (RFC 959, section 3.1.1; RFC 1123,
-- section 4.1.2.1), EPSV ALL (RFC 2428, section 4), and the facts of OPTS MLST (RFC 3659, section
-- 7.9).
abbrev pub AsksFor : Bytes → Asked → Type 0
AsksFor text Ascii = SaysOneOf text (codes "TYPE A") (codes "TYPE A N")
AsksFor text Image = SaysOneOf text (codes "TYPE I") (codes "TYPE L 8")
AsksFor text EpsvOnly = Says text (codes "EPSV ALL")
AsksFor text (FactsOnly facts) = facts_asked text ≡ Some facts
AsksFor text Nothing = (¬ SaysOneOf text (codes "TYPE A") (codes "TYPE A N"))
    × (¬ SaysOneOf text (codes "TYPE I") (codes "TYPE L 8")) × (¬ Says text (codes "EPSV ALL"))
    × (facts_asked text ≡ None)

-- After EPSV ALL, PORT and PASV are refused (RFC 2428, section 4). OPTS MLST is a line that the
-- grammar refuses.
abbrev pub line_reply : Bool → FtpEvent → Asked → FtpReply
line_reply epsv_only (Command TypeCode) Ascii = CodeAndMsg 200 (codes "Type is A")
line_reply epsv_only (Command TypeCode) Image = CodeAndMsg 200 (codes "Type is I")
line_reply epsv_only (Command TypeCode) _ = CodeAndMsg 504 (codes "No such type")
line_reply epsv_only (Command Epsv) EpsvOnly = CodeAndMsg 200 (codes "EPSV only")
line_reply true (Command Pasv) _ = CodeAndMsg 503 (codes "EPSV only")
line_reply true (Command (Port _)) _ = CodeAndMsg 503 (codes "EPSV only")
line_reply epsv_only (Refused _) (FactsOnly facts) = CodeAndMsg 200 (facts_text facts)
line_reply epsv_only (Command _) _ = CodeAndMsg 502 (codes "Not here")
line_reply epsv_only (Refused _) _ = CodeAndMsg 500 (codes "Not understood")

abbrev pub modes_after : Modes → FtpEvent → Asked → Modes
modes_after modes (Command TypeCode) Ascii = record modes { image = false }
modes_after modes (Command TypeCode) Image = record modes { image = true }
modes_after modes (Command Epsv) EpsvOnly = record modes { epsv_only = true }
modes_after modes (Refused _) (FactsOnly facts) = record modes { facts = facts }
modes_after modes _ _ = modes

-- Some of these, for examples.
abbrev pub all_facts : Facts
all_facts = record { kind = true; size = true; modify = true }

abbrev pub no_facts : Facts
no_facts = record { kind = false; size = false; modify = false }

abbrev pub image_modes : Modes
image_modes = record { image = true; epsv_only = false; facts = all_facts }

abbrev pub ascii_modes : Modes
ascii_modes = record { image = false; epsv_only = false; facts = all_facts }

-- The first line is taken, and what it asks is answered and remembered.
pub record AnswersLine (before : Pending) (modes : Modes) (sent : Bytes)
    (after : Pending) (modes' : Modes) (sent' : Bytes) : Type 0 where
  pub event : Event
  pub takes : TakesLine before (event_meant event) after
  pub text : Bytes
  pub is_text : IsTrimAsciiEnd (line_after {E = Unit {0}} before (Ok (Some event)) after) text
  pub asked : Asked
  pub asks : AsksFor text asked
  pub modes_are : modes' ≡ modes_after modes (event_meant event) asked
  pub appended : sent' ≡ sent ++ encoded (line_reply modes.epsv_only (event_meant event) asked)
