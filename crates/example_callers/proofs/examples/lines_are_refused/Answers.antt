use Rattle.std.proofs.Common.{◌≡◌, false, true, Ok, Err, codes, refl}
use Rattle.unftp_control_defs.specs.FtpCommand.{InvalidCommand, Retr}
use Rattle.unftp_control_defs.specs.Outcome.{outcome}
use Rattle.unftp_control_defs.proofs.Computing.{at_bytes}
use Rattle.example_callers.proofs.ExampleLemmas.{lines_of-IsLine}
use Rattle.example_callers.proofs.examples.lines_are_refused.Goals as goal

pub returns : goal.returns
unfolding at_bytes
returns c = record {
  path = λ refused. let is : outcome (codes "RETR a\r\n") ≡ Ok (Retr (codes "a")) = refl in
      let not = refused.2 in cc;
  empty_path = (InvalidCommand, refl, refl);
  other_refusal = λ refused. let is : outcome (codes "RETR\r\n") ≡ Err InvalidCommand = refl in
      let named = refused.1 in let not = refused.2 in cc;
  no_lf = λ line. let all = lines_of-IsLine line in cc;
  memory = refl;
  no_memory = λ is_text. let not : false ≡ true = is_text in cc;
  refused_memory = λ line refused. let named = refused.1 in cc;
}
