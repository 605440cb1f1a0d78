-- Out of memory, as `decode` returns it.
use Rattle.std.proofs.Common.{◌≡◌, Option, Some, None, Ok, Err, ap}
use Rattle.unftp_control_defs.specs.Events.{FtpEvent, FaultKind, Command, Refused, IoError}
use Rattle.unftp_control_codecs.specs.Decoding.{Decoded, IsOutOfMemory, parser_out_of_memory, returned_event}

abbrev pub kind_in : Option FtpEvent → FaultKind
kind_in (Some (Refused fault)) = fault.kind
kind_in (Some (Command command)) = IoError
kind_in None = IoError

pub ran_out : (answer : Decoded) → returned_event answer ≡ Some (Refused parser_out_of_memory)
    → IsOutOfMemory answer
ran_out (Ok None) returned = absurd (cc)
ran_out (Ok (Some command)) returned = absurd (cc)
ran_out (Err error) returned = ap kind_in returned
