-- The days of 1970 to 2099.
use Rattle.aprs_log.proofs.Common.{◌≡◌, ℕ, zero, suc, Bool, true, false, cond, nat_lt, ◌+◌, ◌-◌, ◌<◌, ◌≤◌, refl, arith, ℤ, pos, negsuc, unsigned_abs, ap, ◌+ℤ◌, ◌≤ℤ◌, ◌∙◌, sym, subst, inl, inr, by_lt_z, cases_lt, nat_tests, days_in_month, IsCivilDate, signed_arith}
use Rattle.jiff_core.specs.Calendar.{day_count, days_from_civil}
use Rattle.jiff_core.specs.declared.civil.date.Date.{Date}
use Rattle.jiff_core.specs.declared.span.Span.{Span}
use Rattle.jiff_core.specs.declared.unit.Unit.TheVariants.{Day as DayUnit}
use Rattle.jiff_core.specs.Date.{epoch_day, IsYmd}
use Rattle.jiff_core.specs.Span.{IsOnly}
use Rattle.jiff.specs.Words.{date_add, CanAddToDate}
use Rattle.jiff.proofs.SpanFacts.{date_add-days, can_add-days}
use Rattle.aprs_log.specs.Moment.{Day, next_day, day_after}
use Rattle.aprs_log.specs.CivilMoment.{IsDay}
use Rattle.jiff_core.proofs.MarchLemmas.{day_count-early}
use Rattle.jiff_core.proofs.CalendarLemmas.{day_count-epoch, days_from_civil-day_count, day_count-day, day_count-lt_month, day_count-lt_year, day_count-last_of_year, day_count-next_year, day_count-next_month, days_in_month_bounds}

day_count-2100 : day_count (pos 2100) 1 1 ≡ 4_419_435
day_count-2100 = day_count-early (pos 2100) 12099 1 1 refl (omega arith) (omega arith) (omega arith)

day_count-1969 : day_count (pos 1969) 12 31 + 1 ≡ 4_371_953
day_count-1969 = day_count-last_of_year (pos 1969)
    ∙ sym (day_count-next_year (pos 1969) (pos 1970) (omega (arith, signed_arith)) refl)
    ∙ day_count-epoch

day_count-2099 : day_count (pos 2099) 12 31 + 1 ≡ 4_419_435
day_count-2099 = day_count-last_of_year (pos 2099)
    ∙ sym (day_count-next_year (pos 2099) (pos 2100) (omega (arith, signed_arith)) refl)
    ∙ day_count-2100

last_day : (y : ℕ) → y ≤ 9999 → IsCivilDate (pos y) 12 31
last_day y h = (
  (omega (arith, signed_arith), omega (arith, signed_arith)),
  (omega arith, omega arith),
  (omega arith, omega arith),
)

pub count_from : (y : ℤ) (m d : ℕ) → IsCivilDate y m d → pos 1970 ≤ℤ y → 4_371_953 ≤ day_count y m d
count_from y m d h low =
    let before = day_count-lt_year (pos 1969) 12 31 y m d (last_day 1969 (omega arith)) h.2.0
    (omega (arith, signed_arith)) in
    omega (arith, day_count-1969, before)

pub count_to : (y : ℤ) (m d : ℕ) → IsCivilDate y m d → y ≤ℤ pos 2099 → day_count y m d < 4_419_435
count_to y m d h high =
    let after = day_count-lt_year y m d (pos 2100) 1 1 h (omega arith)
    (omega (arith, signed_arith)) in
    omega (arith, day_count-2100, after)

pub year_from : (y : ℤ) (m d : ℕ) → IsCivilDate y m d → 4_371_953 ≤ day_count y m d → pos 1970 ≤ℤ y
year_from y m d h low = by_lt_z y (pos 1970)
    (λ lt. absurd (omega
    (arith, day_count-epoch, day_count-lt_year y m d (pos 1970) 1 1 h (omega arith) lt, low)))
    (λ ge. ge)

pub year_to : (y : ℤ) (m d : ℕ) → IsCivilDate y m d → day_count y m d < 4_419_435 → y ≤ℤ pos 2099
year_to y m d h high = by_lt_z (pos 2099) y
    (λ lt. absurd (omega (
      arith,
      day_count-2099,
      day_count-lt_year (pos 2099) 12 31 y m d
          (last_day 2099 (omega arith)) h.2.0 lt,
      high,
    )))
    (λ ge. ge)

-- the number of a date, counted from -9999-01-01
pub day_is : (y : ℤ) (m d n : ℕ) → IsCivilDate y m d → pos 1970 ≤ℤ y
    → (days_from_civil y m d +ℤ pos 4_371_587) ≡ pos n
    → y ≤ℤ pos 2099 → (4_371_587 ≤ n) × (pos (n - 4_371_587) ≡ days_from_civil y m d)
    × (n - 4_371_587 < 47482)
day_is y m d n h low e high =
    let c = count_from y m d h low in
    let b = count_to y m d h high in
    let k = days_from_civil-day_count y m d in (
      omega (arith, signed_arith, c, k, e),
      omega (arith, signed_arith, c, k, e),
      omega
          (arith, signed_arith, b, c, k, e),
    )

-- the date of a number
pub years_are : (y : ℤ) (m d n : ℕ) → IsCivilDate y m d
    → (days_from_civil y m d +ℤ pos 4_371_587) ≡ pos (4_371_587 + n) → n < 47482
    → (pos 1970 ≤ℤ y) × (y ≤ℤ pos 2099) × (days_from_civil y m d ≡ pos n)
years_are y m d n h e lt =
    let k = days_from_civil-day_count y m d in (
      year_from y m d h (omega (arith, signed_arith, k, e)),
      year_to y m d h
          (omega (arith, signed_arith, k, e)),
      omega (arith, signed_arith, e),
    )

epoch_is_0 : (d : Date) → IsYmd (pos 1970) (pos 1) (pos 1) d → epoch_day d ≡ pos 0
epoch_is_0 d h =
    let month : d.month ≡ 1 = cc in
    let day : d.day ≡ 1 = cc in
    rw (h.0, month, day) (omega
    (arith, signed_arith, day_count-epoch, days_from_civil-day_count (pos 1970) 1 1))

-- the number of the date that is so many days after 1970-01-01
pub days_after : (epoch d later : Date) (n : ℕ) (s : Span) → IsYmd (pos 1970) (pos 1) (pos 1) epoch
    → IsOnly DayUnit (pos n) s → n < 47482 → d ≡ later
    → (CanAddToDate epoch s → epoch_day later ≡ date_add epoch s)
    → (epoch_day d +ℤ pos 4_371_587) ≡ pos (4_371_587 + n)
days_after epoch d later n s first only below e fits =
    let zero = epoch_is_0 epoch first in
    let can = (can_add-days epoch (pos n) s only).1 (omega (arith, signed_arith, zero)) in
    let moved = date_add-days epoch (pos n) s only in
    let number = ap (λ x. epoch_day x) e ∙ fits can ∙ moved in
    omega (arith, signed_arith, zero, number)

-- the same, of the parts that the caller gave
pub parts_are : (y : ℤ) (m d : ℕ) (year month day n : ℕ) → IsCivilDate y m d → y ≡ pos year
    → pos m ≡ pos month → pos d ≡ pos day → 1970 ≤ year → year ≤ 2099
    → (days_from_civil y m d +ℤ pos 4_371_587) ≡ pos n
    → (4_371_587 ≤ n) × (pos (n - 4_371_587) ≡ days_from_civil (pos year) month day)
    × (n - 4_371_587 < 47482)
parts_are y m d year month day n h a b c low high e =
    let b' : m ≡ month = cc in
    let c' : d ≡ day = cc in
    let is = day_is y m d n h (omega (arith, signed_arith, a)) e
    (omega (arith, signed_arith, a)) in (
      is.0,
      is.1 ∙ ap (λ z. days_from_civil z m d) a ∙ ap (λ k. days_from_civil (pos year) k d) b'
          ∙ ap (λ k. days_from_civil (pos year) month k) c',
      is.2,
    )

pub IsDay-from : (y : ℤ) (year m d : ℕ) → pos year ≡ y → IsCivilDate y m d → pos 1970 ≤ℤ y
    → y ≤ℤ pos 2099 → IsDay year m d
IsDay-from y year m d e h low high =
    let days : days_in_month (pos year) m ≡ days_in_month y m = ap (λ z. days_in_month z m) e in (
      omega (arith, signed_arith, e),
      omega (arith, signed_arith, e),
      (
        (omega (arith, signed_arith, e, h.0.0), omega (arith, signed_arith, e, h.0.1)),
        (omega (arith, signed_arith, h.1.0), omega (arith, signed_arith, h.1.1)),
        (omega (arith, signed_arith, h.2.0), omega (arith, signed_arith, h.2.1, days)),
      ),
    )

pub abs_is : (y : ℤ) (a : ℕ) → a ≡ unsigned_abs y → pos 1970 ≤ℤ y → pos a ≡ y
abs_is (pos n) a e low = ap (λ n. pos n) e
abs_is (negsuc n) a e low = absurd (omega (arith, signed_arith))

-- ---- dates of 1970 to 2099 by their number

IsDay-civil : (y m d : ℕ) → IsDay y m d → IsCivilDate (pos y) m d
IsDay-civil y m d h = (
  (omega (arith, signed_arith, h.0, h.1), omega (arith, signed_arith, h.0, h.1)),
  (omega (arith, signed_arith, h.2.1), omega (arith, signed_arith, h.2.1)),
  (omega (arith, signed_arith, h.2.2), omega (arith, signed_arith, h.2.2)),
)

abs_of : (z : ℤ) → pos 0 ≤ℤ z → pos (unsigned_abs z) ≡ z
abs_of (pos n) h = refl
abs_of (negsuc n) h = absurd (omega (arith, signed_arith))

-- the number of a date is no less than 0
pub IsDay-number : (y m d : ℕ) → IsDay y m d
    → pos (unsigned_abs (days_from_civil (pos y) m d)) ≡ days_from_civil (pos y) m d
IsDay-number y m d h =
    let c = count_from (pos y) m d (IsDay-civil y m d h) (omega (arith, signed_arith, h.0)) in
    let k = days_from_civil-day_count (pos y) m d in
    abs_of (days_from_civil (pos y) m d) (omega (arith, signed_arith, c, k))

-- nor more than that of 2099-12-31
pub IsDay-few : (y m d : ℕ) → IsDay y m d
    → unsigned_abs (days_from_civil (pos y) m d) < 47482
IsDay-few y m d h =
    let b = count_to (pos y) m d (IsDay-civil y m d h) (omega (arith, signed_arith, h.1)) in
    let k = days_from_civil-day_count (pos y) m d in
    let n = IsDay-number y m d h in
    omega (arith, signed_arith, b, k, n)

pub record SameDay (y m d y₂ m₂ d₂ : ℕ) : Type 0 where
  pub year : y ≡ y₂
  pub month : m ≡ m₂
  pub day : d ≡ d₂

not_before : (y m d y₂ m₂ d₂ : ℕ) → IsDay y m d → IsDay y₂ m₂ d₂
    → day_count (pos y) m d ≡ day_count (pos y₂) m₂ d₂ → y₂ ≤ y
not_before y m d y₂ m₂ d₂ h k e = elim (cases_lt y y₂) [
  | inl lt ↦ absurd
      (omega (
        arith,
        e,
        day_count-lt_year (pos y) m d (pos y₂) m₂ d₂ (IsDay-civil y m d h)
            (IsDay-civil y₂ m₂ d₂ k).2.0 (omega (arith, signed_arith)),
      ))
  | inr ge ↦ ge
]

not_before_month : (y m d m₂ d₂ : ℕ) → IsDay y m d → IsDay y m₂ d₂
    → day_count (pos y) m d ≡ day_count (pos y) m₂ d₂ → m₂ ≤ m
not_before_month y m d m₂ d₂ h k e = elim (cases_lt m m₂) [
  | inl lt ↦ absurd
      (omega (
        arith,
        e,
        day_count-lt_month (pos y) m d m₂ d₂ (IsDay-civil y m d h)
            (IsDay-civil y m₂ d₂ k).2.0 lt,
      ))
  | inr ge ↦ ge
]

same_count : (y m d y₂ m₂ d₂ : ℕ) → IsDay y m d → IsDay y₂ m₂ d₂
    → day_count (pos y) m d ≡ day_count (pos y₂) m₂ d₂ → SameDay y m d y₂ m₂ d₂
same_count y m d y₂ m₂ d₂ h k e =
    let year : y₂ ≡ y
    = omega (arith, not_before y m d y₂ m₂ d₂ h k e, not_before y₂ m₂ d₂ y m d k h (sym e)) in
    let k' = let P : ℕ → Type 0 = λ n. IsDay n m₂ d₂ in subst P year k in
    let e' = e ∙ ap (λ n. day_count (pos n) m₂ d₂) year in
    let month : m₂ ≡ m
    = omega (
      arith,
      not_before_month y m d m₂ d₂ h k' e',
      not_before_month y m₂ d₂ m d k' h
          (sym e'),
    ) in
    let e'' = e' ∙ ap (λ n. day_count (pos y) n d₂) month in
    record {
      year = sym year;
      month = sym month;
      day = omega (
        arith,
        e'',
        day_count-day (pos y) m d d₂ (IsDay-civil y m d h).2.0
            (IsDay-civil y₂ m₂ d₂ k).2.0,
      );
    }

-- a day has one date
pub one_date : (y m d y₂ m₂ d₂ : ℕ) → IsDay y m d → IsDay y₂ m₂ d₂
    → days_from_civil (pos y) m d ≡ days_from_civil (pos y₂) m₂ d₂
    → SameDay y m d y₂ m₂ d₂
one_date y m d y₂ m₂ d₂ h k e =
    let a = days_from_civil-day_count (pos y) m d in
    let b = days_from_civil-day_count (pos y₂) m₂ d₂ in
    same_count y m d y₂ m₂ d₂ h k (omega (arith, a, rw (← e) at b))

-- ---- day after day

-- the n-th day after 1970-01-01
record IsNth (n : ℕ) (d : Day) : Type 0 where
  from : 1970 ≤ d.year
  month : (1 ≤ d.month) × (d.month ≤ 12)
  day : (1 ≤ d.day) × (d.day ≤ days_in_month (pos d.year) d.month)
  count : day_count (pos d.year) d.month d.day ≡ 4_371_953 + n

last_month : (y m : ℕ) → m ≡ 12 → days_in_month (pos y) m ≡ 31
last_month y m e = grind (arith, nat_tests)

month_has_days : (y m : ℕ) → 1 ≤ days_in_month (pos y) m
month_has_days y m = omega (arith, (days_in_month_bounds (pos y) m).1)

next_in_month : (n : ℕ) (d : Day) → IsNth n d → d.day < days_in_month (pos d.year) d.month
    → IsNth (n + 1) (record { year = d.year; month = d.month; day = d.day + 1 })
next_in_month n d h lt = record {
  from = h.from;
  month = h.month;
  day = (omega arith, omega arith);
  count = omega (
    arith,
    h.count,
    day_count-day (pos d.year) d.month d.day (d.day + 1) h.day.0
        (omega arith),
  );
}

next_month : (n : ℕ) (d : Day) → IsNth n d → days_in_month (pos d.year) d.month ≤ d.day
    → d.month < 12
    → IsNth (n + 1) (record { year = d.year; month = d.month + 1; day = 1 })
next_month n d h ge lt = record {
  from = h.from;
  month = (omega arith, omega arith);
  day = (omega arith, month_has_days d.year (d.month + 1));
  count = omega (
    arith,
    h.count,
    h.day.1,
    ge,
    day_count-next_month (pos d.year) d.month h.month.0,
    day_count-day (pos d.year) d.month d.day 1 h.day.0 (omega arith),
  );
}

end_of_year : (n y m k : ℕ) → m ≡ 12 → k ≡ 31 → day_count (pos y) m k ≡ 4_371_953 + n
    → day_count (pos (y + 1)) 1 1 ≡ 4_371_953 + (n + 1)
end_of_year n y m k month day e =
    let here = ap (λ m. day_count (pos y) m k) month ∙ ap (λ k. day_count (pos y) 12 k) day in
    omega (
      arith,
      e,
      here,
      day_count-last_of_year (pos y),
      day_count-next_year (pos y)
          (pos (y + 1)) (omega (arith, signed_arith)) (omega (arith, signed_arith)),
    )

next_year : (n : ℕ) (d : Day) → IsNth n d → days_in_month (pos d.year) d.month ≤ d.day
    → 12 ≤ d.month
    → IsNth (n + 1) (record { year = d.year + 1; month = 1; day = 1 })
next_year n d h ge last =
    let month : d.month ≡ 12 = omega (arith, h.month.1) in
    let day : d.day ≡ 31 = omega (arith, h.day.1, last_month d.year d.month month) in
    record {
      from = omega (arith, h.from);
      month = (omega arith, omega arith);
      day = (omega arith, month_has_days (d.year + 1) 1);
      count = end_of_year n d.year d.month d.day month day h.count;
    }

next_nth : (n : ℕ) (d : Day) → IsNth n d → IsNth (n + 1) (next_day d)
next_nth n d h = by (nat_lt d.day (days_in_month (pos d.year) d.month)) refl (nat_lt d.month 12)
    refl
  where
    by : (a : Bool) → nat_lt d.day (days_in_month (pos d.year) d.month) ≡ a → (b : Bool)
        → nat_lt d.month 12 ≡ b
        → IsNth (n + 1) (cond a (record { year = d.year; month = d.month; day = d.day + 1 })
        (cond b (record { year = d.year; month = d.month + 1; day = 1 })
        (record { year = d.year + 1; month = 1; day = 1 })))
    by true e b f = next_in_month n d h (grind (arith, nat_tests))
    by false e true f = next_month n d h (grind (arith, nat_tests)) (grind (arith, nat_tests))
    by false e false f = next_year n d h (grind (arith, nat_tests)) (grind (arith, nat_tests))

nth : (n : ℕ) → IsNth n (day_after n)
unfolding day_after
nth zero = record {
  from = omega arith;
  month = (omega arith, omega arith);
  day = (omega arith, month_has_days 1970 1);
  count = day_count-epoch;
}
nth (suc n) = let P : ℕ
    → Type 0 = λ k. IsNth k (day_after (suc n)) in subst P (omega arith)
    (next_nth n (day_after n) (nth n))

pub record NthDay (n : ℕ) (d : Day) : Type 0 where
  pub date : IsDay d.year d.month d.day
  pub number : pos n ≡ days_from_civil (pos d.year) d.month d.day

nth_to : (n : ℕ) (d : Day) → IsNth n d → n < 47482 → d.year ≤ 2099
nth_to n d h lt = elim (cases_lt 2099 d.year) [
  | inl late ↦ absurd
      (omega (
        arith,
        day_count-2099,
        h.count,
        day_count-lt_year (pos 2099) 12 31 (pos d.year)
            d.month d.day (last_day 2099 (omega arith)) h.day.0 (omega (arith, signed_arith)),
      ))
  | inr le ↦ le
]

nth_is : (n : ℕ) (d : Day) → IsNth n d → n < 47482 → NthDay n d
nth_is n d h lt =
    let high = nth_to n d h lt in
    let k = days_from_civil-day_count (pos d.year) d.month d.day in
    record {
      date = (
        h.from,
        high,
        (
          (omega (arith, signed_arith, h.from, high), omega (arith, signed_arith, h.from, high)),
          (omega (arith, signed_arith, h.month.0), omega (arith, signed_arith, h.month.1)),
          (omega (arith, signed_arith, h.day.0), omega (arith, signed_arith, h.day.1)),
        ),
      );
      number = omega (arith, signed_arith, k, h.count);
    }

pub day_after-is : (n : ℕ) → n < 47482 → NthDay n (day_after n)
day_after-is n lt = nth_is n (day_after n) (nth n) lt
