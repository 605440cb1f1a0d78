use Rattle.example_callers.proofs.ExampleLemmas.{not_empty}
use Rattle.example_callers.proofs.examples.sessions.pieces_end_so.Goals as goal

pub returns-clause-no_piece : goal.returns-clause-no_piece
returns-clause-no_piece c = λ after error failed.
    not_empty failed.first failed.last failed.later failed.whole
