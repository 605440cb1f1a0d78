use Rattle.std.proofs.Common.{◌≡◌, codes, pos, refl, rules, None}
use Rattle.std.specs.Fmt.{digits}
use Rattle.unftp_control_facts.specs.Examples.{a_directory}
use Rattle.unftp_control_facts.specs.Listing.{IsFactsLine, IsListLine}
use Rattle.unftp_control_facts.proofs.ExampleLemmas.{epoch, epoch_nanos}
use Rattle.unftp_control_facts.proofs.ListingLemmas.{IsFactsLine-unique}
use Rattle.unftp_control_facts.proofs.examples.files_have_lines.Goals as goal

list : IsListLine a_directory (pos 15_724_800_000_000_000) (codes "pub")
    (codes "drwxr-xr-x   2 1000     ftp              4096 Jan  1  1970 pub\r\n")
unfolding digits epoch
list = (codes "Jan  1  1970", (epoch, epoch_nanos, refl), refl)

facts : IsFactsLine a_directory (codes "pub")
    (codes "type=dir;size=4096;unix.uid=1000; pub\r\n")
unfolding digits
facts = (codes "type=dir;size=4096;unix.uid=1000;", (None, refl, refl), refl)

without_group : ¬ (codes "type=dir;size=4096;unix.uid=1000; pub\r\n"
    ≡ codes "type=dir;size=4096;unix.uid=1000;unix.gid=0; pub\r\n")
without_group = search rules

pub returns : goal.returns
returns c = record {
  list = list;
  facts = facts;
  no_group = λ other. without_group (IsFactsLine-unique a_directory (codes "pub") facts other);
}
