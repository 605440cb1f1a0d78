use Rattle.unftp_control_facts.proofs.FactTextLemmas.{IsFacts-unique}
use Rattle.unftp_control_facts.proofs.facts.one_text_of_facts.Goals as goal

pub returns : goal.returns
returns c = λ file _ _. IsFacts-unique file
