use Rattle.std.proofs.Common.{inl, refl, sym}
use Rattle.std.proofs.lemmas.Bool.{false≢true}
use Rattle.unftp_control.proofs.laws.examples.engine.pieces_are_answered.Goals as goal

pub returns-clause-answered : goal.returns-clause-answered
returns-clause-answered c = λ after v. v.ends_at

pub returns-clause-without_room : goal.returns-clause-without_room
returns-clause-without_room c = inl (refl, tt, refl)

pub returns-clause-left : goal.returns-clause-left
returns-clause-left c = λ after left v. v.left_is

pub returns-clause-goes_on : goal.returns-clause-goes_on
returns-clause-goes_on c = λ after left v. false≢true (sym v.ended_is)
