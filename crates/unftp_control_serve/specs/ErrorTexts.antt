-- The texts of the errors of serving.
use Rattle.std.specs.Prelude.{codes}
use Rattle.unftp_control_defs.specs.Bytes.{Bytes}
use Rattle.unftp_control_serve.specs.declared.error.ServeError.{ServeError}
use Rattle.unftp_control_serve.specs.declared.error.ServeError.TheVariants.{Read, Write, WriteZero, Handler, OutOfMemory, Stopped, TooManyReads}

abbrev pub serve_error_text : ServeError → Bytes
serve_error_text (Read _) = codes "reading failed"
serve_error_text (Write _) = codes "writing failed"
serve_error_text WriteZero = codes "the writer took nothing"
serve_error_text (Handler _) = codes "the handler failed"
serve_error_text OutOfMemory = codes "out of memory"
serve_error_text Stopped = codes "the engine has stopped"
serve_error_text TooManyReads = codes "too many reads"
