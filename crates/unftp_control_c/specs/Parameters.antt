-- The value of a line's parameter, and the path of LIST in it.
use Rattle.std.specs.Prelude.{Option, Some, None, Ok, Err, option_map}
use Rattle.unftp_control_defs.specs.Bytes.{Bytes}
use Rattle.unftp_control_defs.specs.ComputedValue.{value_of}
use Rattle.unftp_control_defs.specs.Paths.{path_of}
use Rattle.unftp_control_defs.specs.Verbs.{parameter_of}
use Rattle.unftp_control_c.specs.declared.status.Status.TheVariants.{InvalidEol}
use Rattle.unftp_control_c.specs.Areas.{Made}

-- a value, or that there is none before an invalid line ending
abbrev pub or_invalid_eol : Option Bytes → Made
or_invalid_eol None = Err InvalidEol
or_invalid_eol (Some value) = Ok value

-- the value of the line's parameter
abbrev pub parameter_bytes : Bytes → Made
parameter_bytes line = or_invalid_eol (value_of (parameter_of line))

-- the path of LIST in that value, which comes after the options
abbrev pub list_path_bytes : Bytes → Made
list_path_bytes line = or_invalid_eol (option_map path_of (value_of (parameter_of line)))
