-- Moments as civil times, by the calendar's own count of days. No public clause cites this module.
use Rattle.std.specs.Prelude.{◌≡◌, ℕ, ◌/◌, ◌%◌, ◌<◌, ◌≤◌, List, pos, ◌+ℤ◌, ◌*ℤ◌}
use Rattle.jiff_core.specs.Calendar.{IsDate, days_from_civil}
use Rattle.aprs_log.specs.Moment.{day_after, moments_per_second}
use Rattle.aprs_log.specs.MomentReading.{Civil, civil_text, second_of_day}
use Rattle.aprs_log.specs.declared.moment_form.MomentForm.{MomentForm}

-- A date of the calendar, in one of the years 1970 to 2099.
abbrev pub IsDay : ℕ → ℕ → ℕ → Type 0
IsDay y m d = (1970 ≤ y) × (y ≤ 2099) × IsDate (pos y) (pos m) (pos d)

-- A date of the calendar in the years 1970 to 2099, and an hour, a minute and a second of its day;
-- no second is a leap second.
pub record IsCivil (civil : Civil) : Type 0 where
  pub date : IsDay civil.year civil.month civil.day
  pub hour : civil.hour < 24
  pub minute : civil.minute < 60
  pub second : civil.second < 60

-- In this form `text` is the text of the moment m. m is 1,000 times the seconds, plus the
-- milliseconds of the second. The seconds are 86,400 times the day number of the civil date (0 for
-- 1970-01-01), plus the seconds of the day.
pub record IsMomentTextIn (form : MomentForm) (m : ℕ) (text : List ℕ) : Type 0 where
  pub civil : Civil
  pub millis : ℕ
  pub real : IsCivil civil
  pub below : millis < moments_per_second form
  pub number : pos m ≡ (((days_from_civil (pos civil.year) civil.month civil.day *ℤ pos 86400)
      +ℤ pos (second_of_day civil)) *ℤ pos 1000) +ℤ pos millis
  pub spelled : text ≡ civil_text form civil millis

-- `text` is a text of the moment m, in either form.
abbrev pub IsMomentText : ℕ → List ℕ → Type 0
IsMomentText m text = (form : MomentForm) × IsMomentTextIn form m text

-- The civil time m seconds after 1970-01-01T00:00:00Z.
abbrev pub civil_after : ℕ → Civil
civil_after m = record {
  year = (day_after (m / 86400)).year;
  month = (day_after (m / 86400)).month;
  day = (day_after (m / 86400)).day;
  hour = m % 86400 / 3600;
  minute = m % 86400 / 60 % 60;
  second = m % 86400 % 60;
}
