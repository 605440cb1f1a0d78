use Rattle.std.proofs.Common.{arith, lit<}
use Rattle.unftp_control.proofs.DefinitionExampleLemmas.{letter_IsUtf8, not_IsUtf8}
use Rattle.unftp_control.proofs.laws.examples.definitions.commands.fields_are_of_their_types.Goals as goal

pub returns : goal.returns
returns c = record {
  user = tt;
  retr = letter_IsUtf8;
  ill_formed_retr = not_IsUtf8;
  ill_formed_options = λ real. not_IsUtf8 real.0;
  greatest_rest = lit< tt;
  too_great_rest = λ real. omega (arith, real);
  ill_formed_site = λ real. not_IsUtf8 real.0;
}
