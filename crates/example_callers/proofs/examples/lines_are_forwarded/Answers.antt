use Rattle.std.proofs.Common.{codes, refl}
use Rattle.unftp_control_defs.specs.FtpCommand.{Cwd, Pwd}
use Rattle.unftp_control_defs.proofs.LineLemmas.{Lines-lines_of}
use Rattle.unftp_control_defs.proofs.Computing.{at_bytes}
use Rattle.example_callers.proofs.examples.lines_are_forwarded.Goals as goal

pub returns-clause-parameter : goal.returns-clause-parameter
unfolding at_bytes
returns-clause-parameter c = record {
  command = Cwd (codes "a");
  means = refl;
  appended = refl;
  is_line = (Lines-lines_of (codes "XCWD a\r\n")).each.0;
  read_back = refl;
}

pub returns-clause-canonical : goal.returns-clause-canonical
unfolding at_bytes
returns-clause-canonical c = record {
  command = Pwd;
  means = refl;
  appended = refl;
  is_line = (Lines-lines_of (codes "PWD\r\n")).each.0;
  read_back = refl;
}
