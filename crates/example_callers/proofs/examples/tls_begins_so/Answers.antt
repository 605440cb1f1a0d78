use Rattle.std.proofs.Common.{refl}
use Rattle.example_callers.proofs.TlsLemmas.{asked, asked-before, begins-by, read_on}
use Rattle.example_callers.proofs.examples.tls_begins_so.Goals as goal

pub returns : goal.returns
returns c = record {
  at_the_end = λ before after input input_after begins v is. begins-by v is refl asked;
  before_others =
      λ before after input input_after begins v is. begins-by v is refl asked-before;
  read_on = read_on;
}
