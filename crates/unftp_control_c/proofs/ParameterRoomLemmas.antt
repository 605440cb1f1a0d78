-- How much room the value of a line's parameter needs, and the path in it.
use Rattle.std.proofs.Common.{◌≡◌, ◌≤◌, length, Option, Some, None, refl, arith}
use Rattle.std.specs.Prelude.{option_map}
use Rattle.unftp_control_defs.specs.Bytes.{Bytes}
use Rattle.unftp_control_defs.specs.ComputedValue.{value_of}
use Rattle.unftp_control_defs.specs.Paths.{path_of}
use Rattle.unftp_control_defs.specs.Verbs.{parameter_of}
use Rattle.unftp_control_defs.proofs.ValueLemmas.{Reads-value_of}
use Rattle.unftp_control_c.specs.Areas.{written}
use Rattle.unftp_control_c.specs.Parameters.{list_path_bytes, or_invalid_eol, parameter_bytes}
use Rattle.unftp_control_c.proofs.AreaLemmas.{filled_length}
use Rattle.unftp_control_c.proofs.RoomLemmas.{cut_length, path_length, reads_length}

module _ (line out : Bytes) where
  value_length : (v : Bytes) → value_of (parameter_of line) ≡ Some v → length v ≤ length line
  value_length v is =
      omega (arith, cut_length line, reads_length (Reads-value_of (parameter_of line) v is))

  by_value : (o : Option Bytes) → value_of (parameter_of line) ≡ o
      → ((written (or_invalid_eol o) out).text_length ≤ length line)
      × ((written (or_invalid_eol (option_map path_of o)) out).text_length ≤ length line)
  by_value None is = (omega arith, omega arith)
  by_value (Some v) is = (
    omega (arith, value_length v is, filled_length v out),
    omega (arith, value_length v is, path_length v, filled_length (path_of v) out),
  )

pub parameter_room : (line out : Bytes)
    → ((written (parameter_bytes line) out).text_length ≤ length line)
    × ((written (list_path_bytes line) out).text_length ≤ length line)
parameter_room line out = by_value line out (value_of (parameter_of line)) refl
