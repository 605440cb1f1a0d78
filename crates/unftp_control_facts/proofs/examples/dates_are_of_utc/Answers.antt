use Rattle.std.proofs.Common.{◌≡◌, codes, pos, refl, rules}
use Rattle.std.specs.Fmt.{digits}
use Rattle.unftp_control_facts.specs.Listing.{IsDate}
use Rattle.unftp_control_facts.proofs.ExampleLemmas.{noon, noon_nanos}
use Rattle.unftp_control_facts.proofs.ListingLemmas.{IsDate-unique}
use Rattle.unftp_control_facts.proofs.examples.dates_are_of_utc.Goals as goal

recent : IsDate (pos 1_701_432_000_000_000_000) (pos 1_701_432_000_000_000_000)
    (codes "Dec  1 12:00")
unfolding digits noon
recent = (noon, noon_nanos, refl)

old : IsDate (pos 1_717_156_800_000_000_000) (pos 1_701_432_000_000_000_000)
    (codes "Dec  1  2023")
unfolding digits noon
old = (noon, noon_nanos, refl)

not_january : ¬ (codes "Dec  1 12:00" ≡ codes "Jan  1 12:00")
not_january = search rules

no_clock : ¬ (codes "Dec  1  2023" ≡ codes "Dec  1 12:00")
no_clock = search rules

pub returns : goal.returns
returns c = record {
  recent = recent;
  half_a_year_ago = old;
  not_in_january = λ other. not_january
      (IsDate-unique (pos 1_701_432_000_000_000_000) (pos 1_701_432_000_000_000_000) recent other);
  no_time_of_day = λ other. no_clock
      (IsDate-unique (pos 1_717_156_800_000_000_000) (pos 1_701_432_000_000_000_000) old other);
}
