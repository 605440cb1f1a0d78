-- The instants of the examples on the calendar.
use Rattle.std.proofs.Common.{◌≡◌, pos, refl, rules}
use Rattle.jiff_core.specs.declared.civil.datetime.DateTime.{DateTime}
use Rattle.jiff_core.specs.Calendar.{days_from_civil, day_count, days_of_years, days_of_months}
use Rattle.jiff_core.specs.DateTime.{civil_nanos}
use Rattle.unftp_control_facts.proofs.CivilLemmas.{civil}

unfoldable pub noon : DateTime
noon = civil 2023 12 1 12 0 0 (search rules)

unfoldable pub epoch : DateTime
epoch = civil 1970 1 1 0 0 0 (search rules)

pub noon_nanos : civil_nanos noon ≡ pos 1_701_432_000_000_000_000
unfolding civil_nanos noon days_from_civil day_count days_of_years days_of_months
noon_nanos = refl

pub epoch_nanos : civil_nanos epoch ≡ pos 0
unfolding civil_nanos epoch days_from_civil day_count days_of_years days_of_months
epoch_nanos = refl
