use Rattle.std.proofs.Common.{[], ◌∷◌, refl}
use Rattle.std.proofs.lemmas.Bool.{false≢true}
use Rattle.unftp_control.specs.RunEnd.{EndsNowhere}
use Rattle.unftp_control.specs.Snapshots.{counter_to_five, noop}
use Rattle.unftp_control.proofs.FirstEndLemmas.{EndsNowhere-more, EndsNowhere-none}
use Rattle.unftp_control.proofs.laws.examples.serving.a_run_ends_so.Goals as goal

ends_nowhere : EndsNowhere counter_to_five 3 (noop ∷ [])
ends_nowhere = EndsNowhere-more counter_to_five 3 noop [] refl (EndsNowhere-none counter_to_five 4)

pub returns : goal.returns
returns c = record {
  nowhere = ends_nowhere;
  after = record { later = noop ∷ []; split = refl; none_before = ends_nowhere; done = refl };
  not_before = λ v. false≢true v.done;
  not_later = λ v. false≢true v.done;
}
