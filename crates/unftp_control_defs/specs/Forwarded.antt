-- The line that a proxy sends to a server for a client's line (RFC 959, section 5.3). It has the
-- bytes of the line's parameter: the command may hold less, as of a name that is not UTF-8. Only
-- where the command holds all that the line says is it the canonical line.
use Rattle.std.specs.Prelude.{ℕ, Bool, true, false, ◌==◌, ◌&&◌, ◌||◌, if◌then◌else◌, [], ◌∷◌, ◌++◌, Option, Some, None}
use Rattle.unftp_control_defs.specs.Bytes.{Bytes, LF, CR, SP, crlf}
use Rattle.unftp_control_defs.specs.Verbs.{verb_of, parameter_of, upper}
use Rattle.unftp_control_defs.specs.FtpCommand.{FtpCommand, kind, verbs}
use Rattle.unftp_control_defs.specs.Rules.{row_of}
use Rattle.unftp_control_defs.specs.declared.verb.Kind.{Kind}
use Rattle.unftp_control_defs.specs.declared.verb.Kind.TheVariants as kinds
use Rattle.unftp_control_defs.specs.declared.verb.Verb.{Verb}
use Rattle.unftp_control_defs.specs.Canonical.{canonical_line}

abbrev pub kind_keeps : Kind → Bool
kind_keeps kinds.Alone = false
kind_keeps kinds.Typed = false
kind_keeps _ = true

-- The parameter of such a verb is forwarded as it came; so is that of a verb without a row.
abbrev pub keeps : Option Verb → Bool
keeps None = true
keeps (Some verb) = kind_keeps (kind verb)

abbrev pub keeps_parameter : Bytes → Bool
keeps_parameter word = keeps (row_of word verbs)

abbrev pub begins_with_lf : Bytes → Bool
begins_with_lf [] = false
begins_with_lf (b ∷ bytes) = b == LF

-- a byte and what follows it begin with the line's end, which is an LF or CR LF
abbrev pub begins_end : ℕ → Bytes → Bool
begins_end b bytes = (b == LF) || ((b == CR) && begins_with_lf bytes)

-- the bytes before it
abbrev pub before_end : Bytes → Bytes
before_end [] = []
before_end (b ∷ bytes) = if begins_end b bytes then [] else b ∷ before_end bytes

-- a verb, a space and these bytes as they are; only the verb where there is none
abbrev pub with_parameter : Bytes → Bytes → Bytes
with_parameter verb [] = verb
with_parameter verb (b ∷ bytes) = verb ++ SP ∷ b ∷ bytes

-- the verb in upper case and the parameter's bytes, with CR LF in place of the line's end
abbrev pub kept_line : Bytes → Bytes
kept_line line =
    with_parameter (upper (verb_of line)) (before_end (parameter_of line)) ++ crlf

-- what a server is sent for the line, which is this command
abbrev pub forwarded_line : Bytes → FtpCommand → Bytes
forwarded_line line command =
    if keeps_parameter (upper (verb_of line)) then kept_line line else canonical_line command
