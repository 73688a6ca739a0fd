-- Lemmas on moments and their texts.
use Rattle.aprs_log.proofs.Common.{◌≡◌, ℕ, ◌+◌, ◌*◌, ◌/◌, ◌%◌, ◌<◌, ◌≤◌, ◌↔◌, nat_lt, Bool, true, false, List, length, Option, None, Some, pos, ◌+ℤ◌, ◌*ℤ◌, unsigned_abs, refl, arith, sym, ap, ◌∙◌, ◌&&◌, cond, subst, and_from, lt-ltb, ltb-true, nat_tests, bytes_eq, bytes_eq-Decides, days_in_month, signed_arith}
use Rattle.jiff_core.specs.Calendar.{days_from_civil}
use Rattle.aprs_log.proofs.Days.{IsDay-few, IsDay-number, one_date, NthDay, day_after-is}
use Rattle.aprs_log.specs.declared.moment_form.MomentForm.{MomentForm}
use Rattle.aprs_log.specs.declared.moment_form.MomentForm.TheVariants.{Seconds, Millis}
use Rattle.aprs_log.specs.Places.{near_civil, near_digit, near_millis}
use Rattle.aprs_log.specs.Clock.{form_size}
use Rattle.aprs_log.specs.Moment.{Day, IsTextOf, IsWritable, moments_per_second, day_after, moment_text_in}
use Rattle.aprs_log.specs.CivilMoment.{IsCivil, IsMomentTextIn, IsMomentText, civil_after}
use Rattle.aprs_log.specs.MomentReading.{Civil, civil_at, civil_text, digit_of, is_date, is_time, is_date_and_time, is_real, second_of_day, seconds_of, millis_at, moment_in, form_of_text, moment_of}

-- a civil time whose parts have as many digits as a text has room for
pub record FitsText (c : Civil) : Type 0 where
  pub year : c.year < 10000
  pub month : c.month < 100
  pub day : c.day < 100
  pub hour : c.hour < 100
  pub minute : c.minute < 100
  pub second : c.second < 100

near-two_digits : (n : ℕ) → n < 100 → 10 * near_digit (48 + n / 10) + near_digit (48 + n % 10) ≡ n
near-two_digits n h =
    let a : near_digit (48 + n / 10) ≡ n / 10 = omega arith in
    let b : near_digit (48 + n % 10) ≡ n % 10 = omega arith in
    omega (arith, a, b)

near-four_digits : (n : ℕ) → n < 10000
    → 100 * (10 * near_digit (48 + n / 100 / 10) + near_digit (48 + n / 100 % 10))
    + (10 * near_digit (48 + n % 100 / 10) + near_digit (48 + n % 100 % 10)) ≡ n
near-four_digits n h =
    let a = near-two_digits (n / 100) (omega arith) in
    let b = near-two_digits (n % 100) (omega arith) in
    omega (arith, a, b)

pair-two_digits : (n : ℕ) → 10 * digit_of (48 + n / 10) + digit_of (48 + n % 10) ≡ n
pair-two_digits n = omega arith

pair-four_digits : (n : ℕ)
    → 100 * (10 * digit_of (48 + n / 100 / 10) + digit_of (48 + n / 100 % 10))
    + (10 * digit_of (48 + n % 100 / 10) + digit_of (48 + n % 100 % 10)) ≡ n
pair-four_digits n =
    let a = pair-two_digits (n / 100) in
    let b = pair-two_digits (n % 100) in
    omega (arith, a, b)

abbrev civil_of : ℕ → ℕ → ℕ → ℕ → ℕ → ℕ → Civil
civil_of year month day hour minute second = record {
  year = year;
  month = month;
  day = day;
  hour = hour;
  minute = minute;
  second = second;
}

same_civil : (y m d h n s y' m' d' h' n' s' : ℕ) → y ≡ y' → m ≡ m' → d ≡ d' → h ≡ h' → n ≡ n'
    → s ≡ s'
    → civil_of y m d h n s ≡ civil_of y' m' d' h' n' s'
same_civil y m d h n s y' m' d' h' n' s' year month day hour minute second = cc

-- the parts of a text stand at their places
civil_at-civil_text : (form : MomentForm) (c : Civil) (n : ℕ) → civil_at (civil_text form c n) ≡ c
civil_at-civil_text form c n = same_civil _ _ _ _ _ _ _ _ _ _ _ _ (pair-four_digits c.year)
    (pair-two_digits c.month) (pair-two_digits c.day) (pair-two_digits c.hour)
    (pair-two_digits c.minute) (pair-two_digits c.second)

millis_at-civil_text : (form : MomentForm) (c : Civil) (n : ℕ) → n < moments_per_second form
    → millis_at form (civil_text form c n) ≡ n
millis_at-civil_text Seconds c n h = omega arith
millis_at-civil_text Millis c n h =
    let a = pair-two_digits (n % 100) in
    omega (arith, a)

-- the code finds them there
near_millis-civil_text : (form : MomentForm) (c : Civil) (n : ℕ) → n < moments_per_second form
    → near_millis form (civil_text form c n) ≡ n
near_millis-civil_text Seconds c n h = omega arith
near_millis-civil_text Millis c n h =
    let a : near_digit (48 + n / 100) ≡ n / 100 = omega arith in
    let b = near-two_digits (n % 100) (omega arith) in
    omega (arith, a, b)

pub near_millis-below : (form : MomentForm) (t : List ℕ) → near_millis form t < moments_per_second form
near_millis-below Seconds t = omega arith
near_millis-below Millis t = omega arith

near_civil-civil_text : (form : MomentForm) (c : Civil) (n : ℕ) → FitsText c
    → near_civil (civil_text form c n) ≡ c
near_civil-civil_text form c n h = same_civil _ _ _ _ _ _ _ _ _ _ _ _
    (near-four_digits c.year h.year)
    (near-two_digits c.month h.month) (near-two_digits c.day h.day) (near-two_digits c.hour h.hour)
    (near-two_digits c.minute h.minute) (near-two_digits c.second h.second)

days_fit : (y : ℕ) (m : ℕ) → days_in_month (pos y) m ≤ 31
days_fit y m = grind (arith, nat_tests)

pub IsCivil-fits : (c : Civil) → IsCivil c → FitsText c
IsCivil-fits c h = let d = days_fit c.year c.month in record {
  year = omega (arith, h.date.1);
  month = omega (arith, signed_arith, h.date.2);
  day = omega (arith, signed_arith, h.date.2, d);
  hour = omega arith;
  minute = omega arith;
  second = omega arith;
}

-- ---- what the tests decide

both : (a b : Bool) → a && b ≡ true → (a ≡ true) × (b ≡ true)
both true b h = (refl, h)
both false b h = absurd (let e : false ≡ true = h in cc)

is_civil-IsCivil : (c : Civil) → is_date_and_time c ≡ true → IsCivil c
is_civil-IsCivil c h =
    let p = both (is_date c) (is_time c) h in
    let q = p.0 in
    let r = p.1 in
    let low : 1970 ≤ c.year = grind (arith, nat_tests) in
    let high : c.year ≤ 2099 = grind (arith, nat_tests) in
    let month : (1 ≤ c.month) × (c.month ≤ 12)
    = (grind (arith, nat_tests), grind (arith, nat_tests)) in
    let first : 1 ≤ c.day = grind (arith, nat_tests) in
    let last : c.day ≤ days_in_month (pos c.year) c.month = grind (arith, nat_tests) in
    record {
      date = (
        low,
        high,
        (
          (omega (arith, signed_arith), omega (arith, signed_arith)),
          (omega (arith, signed_arith), omega (arith, signed_arith)),
          (omega (arith, signed_arith), omega (arith, signed_arith, last)),
        ),
      );
      hour = grind (arith, nat_tests);
      minute = grind (arith, nat_tests);
      second = grind (arith, nat_tests);
    }

IsCivil-is_civil : (c : Civil) → IsCivil c → is_date_and_time c ≡ true
IsCivil-is_civil c h = grind (arith, nat_tests)

-- a real time, with milliseconds that the form can write
record Real (form : MomentForm) (c : Civil) (n : ℕ) : Type 0 where
  civil : IsCivil c
  below : n < moments_per_second form

is_real-Real : (form : MomentForm) (c : Civil) (n : ℕ) → is_real form c n ≡ true → Real form c n
is_real-Real form c n h =
    let p = both (is_date_and_time c) (nat_lt n (moments_per_second form)) h in
    record { civil = is_civil-IsCivil c p.0; below = ltb-true _ _ p.1 }

is_real-true : (form : MomentForm) (c : Civil) (n : ℕ) → IsCivil c → n < moments_per_second form
    → is_real form c n ≡ true
is_real-true form c n h below = and_from _ _ (IsCivil-is_civil c h) (lt-ltb _ _ below)

-- ---- the text of a moment both ways

-- a civil time's seconds are those of its day and of the days before it
pub seconds_of-number : (c : Civil) → IsCivil c
    → pos (seconds_of c)
    ≡ (days_from_civil (pos c.year) c.month c.day *ℤ pos 86400) +ℤ pos (second_of_day c)
seconds_of-number c h =
    let day = unsigned_abs (days_from_civil (pos c.year) c.month c.day) in
    let e = IsDay-number c.year c.month c.day h.date in
    let number : pos (86400 * day + second_of_day c)
    ≡ (pos day *ℤ pos 86400) +ℤ pos (second_of_day c) = omega (arith, signed_arith) in
    number ∙ ap (λ z. (z *ℤ pos 86400) +ℤ pos (second_of_day c)) e

pos_same : (a b : ℕ) → pos a ≡ pos b → a ≡ b
pos_same a b e = cc

-- the number of a moment
number : (c : Civil) (n : ℕ) → IsCivil c
    → pos (seconds_of c * 1000 + n)
    ≡ (((days_from_civil (pos c.year) c.month c.day *ℤ pos 86400)
    +ℤ pos (second_of_day c)) *ℤ pos 1000) +ℤ pos n
number c n h =
    let s = seconds_of c in
    let e : pos (s * 1000 + n) ≡ (pos s *ℤ pos 1000) +ℤ pos n = omega (arith, signed_arith) in
    e ∙ ap (λ z. (z *ℤ pos 1000) +ℤ pos n) (seconds_of-number c h)

number-back : (m : ℕ) (c : Civil) (n : ℕ) → IsCivil c
    → pos m ≡ (((days_from_civil (pos c.year) c.month c.day *ℤ pos 86400)
    +ℤ pos (second_of_day c)) *ℤ pos 1000) +ℤ pos n
    → m ≡ seconds_of c * 1000 + n
number-back m c n h e = pos_same m (seconds_of c * 1000 + n) (e ∙ sym (number c n h))

some_if : (b : Bool) (x m : ℕ) → cond b (Some x) None ≡ Some m → (b ≡ true) × (x ≡ m)
some_if true x m e = (refl, cc)
some_if false x m e = absurd cc

pub moment_in-text : (form : MomentForm) (t : List ℕ) (m : ℕ) → moment_in form t ≡ Some m
    → IsMomentTextIn form m t
unfolding moment_in
moment_in-text form t m e =
    let c = civil_at t in
    let n = millis_at form t in
    let found = some_if (is_real form c n && bytes_eq (civil_text form c n) t)
    (seconds_of c * 1000 + n) m e in
    let parts = both (is_real form c n) (bytes_eq (civil_text form c n) t) found.0 in
    let real = is_real-Real form c n parts.0 in
    record {
      civil = c;
      millis = n;
      real = real.civil;
      below = real.below;
      number = ap (λ k. pos k) (sym found.1) ∙ number c n real.civil;
      spelled = sym ((bytes_eq-Decides (civil_text form c n) t).0 parts.1);
    }

if_both : (a b : Bool) (x : ℕ) → a ≡ true → b ≡ true → cond (a && b) (Some x) None ≡ Some x
if_both true true x p q = refl
if_both true false x p q = absurd cc
if_both false b x p q = absurd cc

pub moment_in-civil : (form : MomentForm) (c : Civil) (n : ℕ) → IsCivil c → n < moments_per_second form
    → moment_in form (civil_text form c n) ≡ Some (seconds_of c * 1000 + n)
unfolding moment_in
moment_in-civil form c n h below =
    let t = civil_text form c n in
    let e = civil_at-civil_text form c n in
    let f = millis_at-civil_text form c n below in
    let there : moment_in form t
    ≡ (cond (is_real form c n && bytes_eq (civil_text form c n) t)
    (Some (seconds_of c * 1000 + n)) None)
    = ap (λ d. cond (is_real form d (millis_at form t) && bytes_eq
    (civil_text form d (millis_at form t)) t)
    (Some (seconds_of d * 1000 + millis_at form t)) None) e
    ∙ ap (λ k. cond (is_real form c k && bytes_eq (civil_text form c k) t)
    (Some (seconds_of c * 1000 + k)) None) f in
    there ∙ if_both (is_real form c n) (bytes_eq t t) (seconds_of c * 1000 + n)
    (is_real-true form c n h below) ((bytes_eq-Decides t t).1 refl)

pub text-moment_in : (form : MomentForm) (t : List ℕ) (m : ℕ) → IsMomentTextIn form m t
    → moment_in form t ≡ Some m
text-moment_in form t m h = ap (moment_in form) h.spelled
    ∙ moment_in-civil form h.civil h.millis h.real h.below
    ∙ ap (λ n. Some n) (sym (number-back m h.civil h.millis h.real h.number))

-- the text of a moment in a form has that form's length
pub length_in : (form : MomentForm) (m : ℕ) (t : List ℕ) → IsMomentTextIn form m t
    → length t ≡ form_size form
length_in Seconds m t h = ap length h.spelled
length_in Millis m t h = ap length h.spelled

pub form_by_size : (form : MomentForm) (t : List ℕ) → length t ≡ form_size form
    → form_of_text t ≡ form
form_by_size Seconds t h = rw h refl
form_by_size Millis t h = rw h refl

pub moment_by_size : (form : MomentForm) (t : List ℕ) → length t ≡ form_size form
    → moment_of t ≡ moment_in form t
moment_by_size form t h = ap (λ f. moment_in f t) (form_by_size form t h)

none_if : (form : MomentForm) (t : List ℕ) → (length t ≡ form_size form → ⊥) → (r : Option ℕ)
    → moment_in form t ≡ r → r ≡ None
none_if form t h None e = refl
none_if form t h (Some m) e = absurd (h (length_in form m t (moment_in-text form t m e)))

pub no_moment_by_size : (form : MomentForm) (t : List ℕ) → (length t ≡ form_size form → ⊥)
    → moment_in form t ≡ None
no_moment_by_size form t h = none_if form t h (moment_in form t) refl

-- the length of a text says its form
form_of-text : (form : MomentForm) (m : ℕ) (t : List ℕ) → IsMomentTextIn form m t
    → form_of_text t ≡ form
form_of-text Seconds m t h = ap form_of_text h.spelled
form_of-text Millis m t h = ap form_of_text h.spelled

pub moment_of-text : (t : List ℕ) (m : ℕ) → moment_of t ≡ Some m → IsMomentText m t
moment_of-text t m e = (form_of_text t, moment_in-text (form_of_text t) t m e)

pub text-moment_of : (t : List ℕ) (m : ℕ) → IsMomentText m t → moment_of t ≡ Some m
text-moment_of t m h =
    ap (λ f. moment_in f t) (form_of-text h.0 m t h.1) ∙ text-moment_in h.0 t m h.1

-- a moment has one text in each form
parts_of_day : (a b : Civil) → IsCivil a → IsCivil b → seconds_of a ≡ seconds_of b
    → (unsigned_abs (days_from_civil (pos a.year) a.month a.day)
    ≡ unsigned_abs (days_from_civil (pos b.year) b.month b.day))
    × (a.hour ≡ b.hour) × (a.minute ≡ b.minute) × (a.second ≡ b.second)
parts_of_day a b h k e = (omega arith, omega arith, omega arith, omega arith)

one_civil : (a b : Civil) → IsCivil a → IsCivil b → seconds_of a ≡ seconds_of b → a ≡ b
one_civil a b h k e =
    let parts = parts_of_day a b h k e in
    let x = IsDay-number a.year a.month a.day h.date in
    let y = IsDay-number b.year b.month b.day k.date in
    let day = one_date a.year a.month a.day b.year b.month b.day h.date k.date (sym x
    ∙ ap (λ n. pos n) parts.0 ∙ y) in
    same_civil _ _ _ _ _ _ _ _ _ _ _ _ day.year day.month day.day parts.1 parts.2 parts.3

split : (a b n k : ℕ) → n < 1000 → k < 1000 → a * 1000 + n ≡ b * 1000 + k → (a ≡ b) × (n ≡ k)
split a b n k h g e = (omega arith, omega arith)

pub room_most : (form : MomentForm) (n : ℕ) → n < moments_per_second form → n < 1000
room_most Seconds n h = omega arith
room_most Millis n h = h

pub one_text : (form : MomentForm) (m : ℕ) (t u : List ℕ) → IsMomentTextIn form m t
    → IsMomentTextIn form m u → t ≡ u
one_text form m t u h k =
    let same = sym (number-back m h.civil h.millis h.real h.number)
    ∙ number-back m k.civil k.millis k.real k.number in
    let parts = split (seconds_of h.civil) (seconds_of k.civil) h.millis k.millis
    (room_most form h.millis h.below) (room_most form k.millis k.below) same in
    h.spelled ∙ ap (λ c. civil_text form c h.millis)
    (one_civil h.civil k.civil h.real k.real parts.0)
    ∙ ap (civil_text form k.civil) parts.1 ∙ sym k.spelled

-- ---- what the code knows of a text

no_if : (a b : Bool) (x : ℕ) → (a ≡ true → b ≡ true → ⊥) → cond (a && b) (Some x) None ≡ None
no_if true true x h = absurd (h refl refl)
no_if true false x h = refl
no_if false b x h = refl

-- the places hold no real time
pub moment_in-unreal : (form : MomentForm) (c : Civil) (n : ℕ) → ¬ IsCivil c
    → None ≡ moment_in form (civil_text form c n)
unfolding moment_in
moment_in-unreal form c n h = let t = civil_text form c n in let at = civil_at t in
    let k = millis_at form t in
    sym (no_if (is_real form at k) (bytes_eq (civil_text form at k) t) (seconds_of at * 1000 + k)
    (λ e _. h (subst IsCivil (civil_at-civil_text form c n) (is_real-Real form at k e).civil)))

-- the code finds no text at the places
pub moment_in-unfound : (form : MomentForm) (t : List ℕ)
    → ¬ (civil_text form (near_civil t) (near_millis form t) ≡ t) → None ≡ moment_in form t
unfolding moment_in
moment_in-unfound form t h = let c = civil_at t in let n = millis_at form t in
    sym (no_if (is_real form c n) (bytes_eq (civil_text form c n) t) (seconds_of c * 1000 + n)
    (λ e same. h (found c n (is_real-Real form c n e)
    ((bytes_eq-Decides (civil_text form c n) t).0 same))))
  where
    found : (c : Civil) (n : ℕ) → Real form c n → civil_text form c n ≡ t
        → civil_text form (near_civil t) (near_millis form t) ≡ t
    found c n real is =
        ap (λ l. civil_text form (near_civil l) (near_millis form l)) (sym is)
        ∙ ap (λ d. civil_text form d (near_millis form (civil_text form c n)))
        (near_civil-civil_text form c n (IsCivil-fits c real.civil))
        ∙ ap (civil_text form c) (near_millis-civil_text form c n real.below) ∙ is

-- the text of a real time
pub civil_text-moment : (form : MomentForm) (c : Civil) (n m : ℕ) → IsCivil c → n < moments_per_second form
    → seconds_of c * 1000 + n ≡ m → IsMomentTextIn form m (civil_text form c n)
civil_text-moment form c n m h below e = record {
  civil = c;
  millis = n;
  real = h;
  below = below;
  number = ap (λ k. pos k) (sym e) ∙ number c n h;
  spelled = refl;
}

-- ---- the text as a function

-- a day at a time of it
abbrev at_day : Day → ℕ → ℕ → ℕ → Civil
at_day d hour minute second = civil_of d.year d.month d.day hour minute second

same_at : (form : MomentForm) (a b : Day) (h m s n h' m' s' n' : ℕ) → a ≡ b → h ≡ h' → m ≡ m'
    → s ≡ s' → n ≡ n'
    → civil_text form (at_day a h m s) n ≡ civil_text form (at_day b h' m' s') n'
same_at form a b h m s n h' m' s' n' day hour minute second milli = cc

split_time : (m t : ℕ) → t ≡ m % 86400000
    → (m / 86400000 ≡ m / 1000 / 86400) × (t / 3600000 ≡ m / 1000 % 86400 / 3600)
    × (t / 60000 % 60 ≡ m / 1000 % 86400 / 60 % 60) × (t / 1000 % 60 ≡ m / 1000 % 86400 % 60)
    × (t % 1000 ≡ m % 1000)
split_time m t is = (omega arith, omega arith, omega arith, omega arith, omega arith)

-- the text of a moment is that of its civil time
pub same_text : (form : MomentForm) (m : ℕ)
    → moment_text_in form m ≡ civil_text form (civil_after (m / 1000)) (m % 1000)
unfolding moment_text_in
same_text form m =
    let e = split_time m (m % 86400000) refl in
    same_at form (day_after (m / 86400000)) (day_after (m / 1000 / 86400)) _ _ _ _ _ _ _ _
    (ap day_after e.0) e.1 e.2 e.3 e.4

civil_after-day : (m : ℕ) → m ≤ 4102444799 → NthDay (m / 86400) (day_after (m / 86400))
civil_after-day m h = day_after-is (m / 86400) (omega arith)

after_real : (m : ℕ) → m ≤ 4102444799 → IsCivil (civil_after m)
after_real m h = record {
  date = (civil_after-day m h).date;
  hour = omega arith;
  minute = omega arith;
  second = omega arith;
}

after_seconds : (m : ℕ) → m ≤ 4102444799 → seconds_of (civil_after m) ≡ m
after_seconds m h =
    let n = m / 86400 in
    let s = m % 86400 in
    let d = civil_after-day m h in
    let sum : 86400 * n + (s / 3600 * 3600 + s / 60 % 60 * 60 + s % 60) ≡ m = omega arith in
    ap (λ k. 86400 * k + (s / 3600 * 3600 + s / 60 % 60 * 60 + s % 60))
    (pos_same _ n (IsDay-number (day_after n).year (day_after n).month (day_after n).day d.date
    ∙ sym d.number)) ∙ sum

-- each moment that the form can write has the text that the function gives
pub moment_text-is : (form : MomentForm) (m : ℕ) → m ≤ 4102444799999 → m % 1000 < moments_per_second form
    → IsMomentTextIn form m (moment_text_in form m)
moment_text-is form m h below =
    subst (IsMomentTextIn form m) (sym (same_text form m))
    (civil_text-moment form (civil_after (m / 1000)) (m % 1000) m
    (after_real (m / 1000) (omega arith)) below
    (whole (m / 1000) (m % 1000) (seconds_of (civil_after (m / 1000)))
    (after_seconds (m / 1000) (omega arith)) (omega arith))) where
      whole : (q r s : ℕ) → s ≡ q → q * 1000 + r ≡ m → s * 1000 + r ≡ m
      whole q r s e f = omega arith

-- a form's text is of a moment that the form can write
pub millis_kept : (form : MomentForm) (m : ℕ) (t : List ℕ) → IsMomentTextIn form m t
    → m % 1000 < moments_per_second form
millis_kept form m t h =
    left (seconds_of h.civil) h.millis (moments_per_second form) (room_most form h.millis h.below) h.below
    (number-back m h.civil h.millis h.real h.number) where
      left : (s n r : ℕ) → n < 1000 → n < r → m ≡ s * 1000 + n → m % 1000 < r
      left s n r a b e = omega arith

-- a moment that has a text is before the year 2100
pub text_early : (form : MomentForm) (m : ℕ) (t : List ℕ) → IsMomentTextIn form m t
    → m ≤ 4102444799999
text_early form m t h =
    early (unsigned_abs (days_from_civil (pos h.civil.year) h.civil.month h.civil.day))
    (second_of_day h.civil) h.millis
    (IsDay-few h.civil.year h.civil.month h.civil.day h.real.date)
    (of_day h.civil.hour h.civil.minute h.civil.second h.real.hour h.real.minute h.real.second)
    (room_most form h.millis h.below)
    (number-back m h.civil h.millis h.real h.number) where
      early : (day second n : ℕ) → day < 47482 → second < 86400 → n < 1000
          → m ≡ (86400 * day + second) * 1000 + n → m ≤ 4102444799999
      early day second n a b c e = omega arith

      of_day : (hour minute second : ℕ) → hour < 24 → minute < 60 → second < 60
          → hour * 3600 + minute * 60 + second < 86400
      of_day hour minute second a b c = omega arith

-- ---- the text as one relation

pub writable-text : (form : MomentForm) (m : ℕ) (t : List ℕ) → IsWritable form m
    → t ≡ moment_text_in form m → IsMomentTextIn form m t
writable-text form m t h is =
    subst (IsMomentTextIn form m) (sym is) (moment_text-is form m h.in_range h.whole)

pub text-writable : (form : MomentForm) (m : ℕ) (t : List ℕ) → IsMomentTextIn form m t
    → IsWritable form m × (t ≡ moment_text_in form m)
text-writable form m t h =
    let early = text_early form m t h in
    let whole = millis_kept form m t h in (
      record { in_range = early; whole = whole },
      one_text form m t (moment_text_in form m) h (moment_text-is form m early whole),
    )

pub IsTextOf-text : (m : ℕ) (t : List ℕ) → IsTextOf m t → IsMomentText m t
IsTextOf-text m t h = (h.0, writable-text h.0 m t h.1 h.2)

pub text-IsTextOf : (m : ℕ) (t : List ℕ) → IsMomentText m t → IsTextOf m t
text-IsTextOf m t h = let is = text-writable h.0 m t h.1 in (h.0, is.0, is.1)

pub IsExactIn : (form : MomentForm) (t : List ℕ) (r : Option ℕ) → r ≡ moment_in form t → (m : ℕ)
    → (r ≡ Some m) ↔ (IsWritable form m × (t ≡ moment_text_in form m))
IsExactIn form t r e m = (
  λ h. text-writable form m t (moment_in-text form t m (sym e ∙ h)),
  λ h. e ∙ text-moment_in form t m (writable-text form m t h.0 h.1),
)

pub IsExact : (t : List ℕ) (r : Option ℕ) → r ≡ moment_of t → (m : ℕ) → (r ≡ Some m) ↔ IsTextOf m t
IsExact t r e m = (
  λ h. text-IsTextOf m t (moment_of-text t m (sym e ∙ h)),
  λ h. e ∙ text-moment_of t m (IsTextOf-text m t h),
)

-- what the relation says of an answer says which one it is
pub exact-value : (form : MomentForm) (t : List ℕ) (r : Option ℕ)
    → ((m : ℕ) → (r ≡ Some m) ↔ (IsWritable form m × (t ≡ moment_text_in form m)))
    → r ≡ moment_in form t
exact-value form t (Some m) exact =
    let is = (exact m).0 refl in
    sym (text-moment_in form t m (writable-text form m t is.0 is.1))
exact-value form t None exact = none (moment_in form t) refl where
  none : (o : Option ℕ) → moment_in form t ≡ o → None ≡ moment_in form t
  none None e = sym e
  none (Some m) e =
      let no = (exact m).1 (text-writable form m t (moment_in-text form t m e)) in absurd (cc no)
