-- The instants of the files on the calendar.
use Rattle.std.proofs.Common.{◌≡◌, ℤ, pos, Some, codes, refl, sym, ◌∙◌, rules}
use Rattle.jiff_core.specs.declared.civil.datetime.DateTime.{DateTime}
use Rattle.jiff_core.specs.Calendar.{days_from_civil, day_count, days_of_years, days_of_months}
use Rattle.jiff_core.specs.DateTime.{civil_nanos}
use Rattle.unftp_control_facts.specs.Facts.{IsTimeText}
use Rattle.unftp_control_facts.proofs.CivilLemmas.{civil}

readme_civil : DateTime
readme_civil = civil 2024 2 29 12 34 56 (search rules)

today_civil : DateTime
today_civil = civil 2026 1 1 0 0 0 (search rules)

readme_nanos : civil_nanos readme_civil ≡ pos 1_709_210_096_000_000_000
unfolding civil_nanos readme_civil days_from_civil day_count days_of_years days_of_months
readme_nanos = refl

today_nanos : civil_nanos today_civil ≡ pos 1_767_225_600_000_000_000
unfolding civil_nanos today_civil days_from_civil day_count days_of_years days_of_months
today_nanos = refl

pub IsTimeText-readme : (nanosecond : ℤ) → nanosecond ≡ pos 1_709_210_096_000_000_000
    → IsTimeText nanosecond (Some (codes "20240229123456"))
unfolding readme_civil
IsTimeText-readme nanosecond same = (readme_civil, readme_nanos ∙ sym same, refl)

pub IsTimeText-today : (nanosecond : ℤ) → nanosecond ≡ pos 1_767_225_600_000_000_000
    → IsTimeText nanosecond (Some (codes "20260101000000"))
unfolding today_civil
IsTimeText-today nanosecond same = (today_civil, today_nanos ∙ sym same, refl)
