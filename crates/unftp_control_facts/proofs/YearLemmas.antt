-- The years that have four digits.
use Rattle.std.proofs.Common.{◌≡◌, ◌/◌, ◌%◌, ◌++◌, ℤ, pos, negsuc, Some, None, refl, ap, ◌∙◌, true, false, arith, rules}
use Rattle.std.specs.Prelude.{int_lt, unsigned_abs}
use Rattle.jiff_core.specs.declared.civil.datetime.DateTime.{DateTime}
use Rattle.unftp_control_facts.specs.Facts.{two_digits, time_text}

pub time_text-none : (y : ℤ) (dt : DateTime) → int_lt y (pos 0) ≡ true → time_text y dt ≡ None
time_text-none (negsuc n) dt h = refl
time_text-none (pos n) dt h = search (rules, arith)

pub time_text-some : (y : ℤ) (dt : DateTime) → int_lt y (pos 0) ≡ false
    → time_text y dt
    ≡ Some (two_digits (unsigned_abs y / 100) ++ two_digits (unsigned_abs y % 100)
    ++ two_digits dt.date.month ++ two_digits dt.date.day
    ++ two_digits dt.time.hour ++ two_digits dt.time.minute ++ two_digits dt.time.second)
time_text-some (pos n) dt h = refl
time_text-some (negsuc n) dt h = cc

-- they agree in all but the year
pub record SameParts (a b : DateTime) : Type 0 where
  pub month : a.date.month ≡ b.date.month
  pub day : a.date.day ≡ b.date.day
  pub hour : a.time.hour ≡ b.time.hour
  pub minute : a.time.minute ≡ b.time.minute
  pub second : a.time.second ≡ b.time.second

same_year : (y : ℤ) {a b : DateTime} → SameParts a b → time_text y a ≡ time_text y b
same_year (negsuc n) same = refl
same_year (pos n) same = cc

pub same_parts : {a b : DateTime} → a.date.year ≡ b.date.year → SameParts a b
    → time_text a.date.year a ≡ time_text b.date.year b
same_parts {a} {b} y same = ap (λ v. time_text v a) y ∙ same_year b.date.year same
