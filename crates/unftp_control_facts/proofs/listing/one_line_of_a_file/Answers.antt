use Rattle.unftp_control_facts.proofs.ListingLemmas.{IsFactsLine-unique, IsListLine-unique}
use Rattle.unftp_control_facts.proofs.listing.one_line_of_a_file.Goals as goal

pub returns : goal.returns
returns c = record {
  facts = λ file name _ _. IsFactsLine-unique file name;
  list = λ file now name _ _. IsListLine-unique file now name;
}
