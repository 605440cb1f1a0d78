use Rattle.unftp_control.proofs.FoldLemmas.{outcome-verb_case, outcome-name_case}
use Rattle.unftp_control.proofs.laws.case_folds.Goals as goal

pub returns : goal.returns
returns c = record {
  verb = λ _ _ _ _ _. outcome-verb_case;
  name = λ _ _ _ _ _ _ _ _ _. outcome-name_case;
}
