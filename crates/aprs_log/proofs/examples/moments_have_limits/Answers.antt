use Rattle.aprs_log.proofs.Common.{◌≡◌, ◌∙◌, ℕ, List, codes, Some, None, refl, sym}
use Rattle.jiff_core.specs.Calendar.{day_count, days_from_civil, days_of_months, days_of_years}
use Rattle.aprs_log.specs.Moment.{IsTextOf}
use Rattle.aprs_log.specs.MomentReading.{moment_in, moment_of}
use Rattle.aprs_log.proofs.Lines.{moment_read}
use Rattle.aprs_log.proofs.Moments.{moment_of-text, text-IsTextOf}
use Rattle.aprs_log.proofs.examples.moments_have_limits.Goals as goal

-- a text that reads as a moment is its text
is_of : (text : List ℕ) (m : ℕ) → moment_of text ≡ Some m → IsTextOf m text
is_of text m e = text-IsTextOf m text (moment_of-text text m e)

-- a text that reads as none is that of none
of_none : (text : List ℕ) → moment_of text ≡ None → (m : ℕ) → IsTextOf m text → ⊥
of_none text e m h = let same : Some m ≡ None = sym (moment_read m text h) ∙ e in absurd cc

pub returns : goal.returns
unfolding moment_in days_from_civil day_count days_of_years days_of_months
returns c = record {
  first = is_of (codes "1970-01-01T00:00:00Z") 0 refl;
  last = is_of (codes "2099-12-31T23:59:59.999Z") 4102444799999 refl;
  leap_day = is_of (codes "2024-02-29T00:00:00Z") 1709164800000 refl;
  last_of_day = is_of (codes "2024-05-01T23:59:59Z") 1714607999000 refl;
  misses_before = of_none (codes "1969-12-31T23:59:59Z") refl;
  misses_after = of_none (codes "2100-01-01T00:00:00Z") refl;
  misses_no_month = of_none (codes "2024-00-01T12:00:00Z") refl;
  misses_month = of_none (codes "2024-13-01T12:00:00Z") refl;
  misses_no_day = of_none (codes "2024-05-00T12:00:00Z") refl;
  misses_day = of_none (codes "2024-04-31T12:00:00Z") refl;
  misses_leap_day = of_none (codes "2023-02-29T12:00:00Z") refl;
  misses_hour = of_none (codes "2024-05-01T24:00:00Z") refl;
  misses_minute = of_none (codes "2024-05-01T12:60:00Z") refl;
  misses_small_t = of_none (codes "2024-05-01t12:00:00Z") refl;
  misses_small_z = of_none (codes "2024-05-01T12:00:00z") refl;
  misses_comma = of_none (codes "2024-05-01T12:00:00,500Z") refl;
  misses_before_digits = of_none (codes "2024-05-0/T12:00:00Z") refl;
  misses_after_digits = of_none (codes "2024-05-0:T12:00:00Z") refl;
  misses_offset = of_none (codes "2024-05-01T12:00:00+00:00") refl;
}
