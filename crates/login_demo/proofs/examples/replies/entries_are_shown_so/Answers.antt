use Rattle.std.proofs.Common.{refl}
use Rattle.std.specs.Fmt.{digits}
use Rattle.login_demo.proofs.examples.replies.entries_are_shown_so.Goals as goal

pub returns-clause-file : goal.returns-clause-file
unfolding digits
returns-clause-file c = refl
