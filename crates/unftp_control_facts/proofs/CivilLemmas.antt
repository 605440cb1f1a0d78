-- Times on the calendar.
use Rattle.std.proofs.Common.{ℕ, ◌<◌, pos, arith}
use Rattle.std.specs.Int.{IsInRange}
use Rattle.jiff_core.specs.Calendar.{IsYear, days_in_month}
use Rattle.jiff_core.specs.declared.civil.datetime.DateTime.{DateTime}

abbrev pub IsCivil : (year month day hour minute second : ℕ) → Type 0
IsCivil year month day hour minute second = IsYear (pos year) × IsInRange 1 12 month
    × IsInRange 1 (days_in_month (pos year) month) day
    × (hour < 24) × (minute < 60) × (second < 60)

-- a date and a time to the second
abbrev pub civil : (year month day hour minute second : ℕ)
    → IsCivil year month day hour minute second → DateTime
civil year month day hour minute second is = record {
  date = record {
    year = pos year;
    month = month;
    day = day;
    year_in = is.0;
    month_in = is.1;
    day_in = is.2;
  };
  time = record {
    hour = hour;
    minute = minute;
    second = second;
    subsec_nanosecond = 0;
    hour_in = is.3;
    minute_in = is.4;
    second_in = is.5;
    subsec_in = omega arith;
  };
}
