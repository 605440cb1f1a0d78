-- What a call leaves in an area of the caller's, a part of memory that has some length.
use Rattle.std.specs.Prelude.{ℕ, if◌then◌else◌, length, nat_le, Result, Ok, Err}
use Rattle.std.specs.declared.vec.Vec.{Vec}
use Rattle.std.specs.declared.alloc.Global.{Global}
use Rattle.unftp_control_defs.specs.Bytes.{Bytes}
use Rattle.unftp_control_commands.specs.Areas.{counted, overwritten}
use Rattle.unftp_control_c.specs.declared.status.Status.{Status}
use Rattle.unftp_control_c.specs.declared.status.Status.TheVariants.{Done, NoRoom}
use Rattle.unftp_control_c.specs.Numbers.{status_number}

-- what is reported, the area, and how many bytes the text has
pub record Filled : Type 0 where
  pub result : ℕ
  pub area : Bytes
  pub text_length : ℕ

-- A text is written where the area has room for it. Else the area stays, and the length is the room
-- that there has to be: 2^64 - 1, which no area has, stands for more than that.
abbrev pub filled : Bytes → Bytes → Filled
filled text area = if nat_le (length text) (length area)
    then record {
      result = status_number Done;
      area = overwritten text area;
      text_length = length text;
    }
    else record { result = status_number NoRoom; area = area; text_length = counted text }

-- a text that is to be written, or why there is none
abbrev pub Made : Type 0
Made = Result Bytes Status

abbrev pub made : Result (Vec ℕ Global) Status → Made
made (Ok buf) = Ok buf.items
made (Err status) = Err status

-- where there is none, the area stays
abbrev pub written : Made → Bytes → Filled
written (Ok text) area = filled text area
written (Err status) area =
    record { result = status_number status; area = area; text_length = 0 }
