-- Lemmas on times of a day whose date is known.
use Rattle.aprs_log.proofs.Common.{◌≡◌, ◌≢◌, ◌⊎◌, inl, inr, ℕ, ◌+◌, ◌-◌, ◌*◌, ◌/◌, ◌%◌, ◌<◌, ◌≤◌, List, [], ◌∷◌, ◌++◌, ◌==◌, cond, length, take, drop, slice_index, Option, None, Some, pos, unsigned_abs, refl, arith, sym, ap, ◌∙◌, subst, take-append-drop, IfSome, SomeIff, take-append_seam, drop-append-add}
use Rattle.jiff_core.specs.Calendar.{days_from_civil}
use Rattle.std.proofs.Common.{length-append}
use borrow.Rule.Slice.PartMut.{put_mid}
use Rattle.aprs_log.specs.declared.moment_form.MomentForm.{MomentForm}
use Rattle.aprs_log.specs.declared.moment_form.MomentForm.TheVariants.{Seconds, Millis}
use Rattle.aprs_log.specs.Clock.{IsFractionText, SecondText, clock_text, form_of_end, midnight_text}
use Rattle.aprs_log.specs.Moment.{date_text, day_after, four_digits, fraction_text, moment_text, moment_text_in, moments_per_second, time_text, two_digits}
use Rattle.aprs_log.specs.CivilMoment.{IsCivil}
use Rattle.aprs_log.specs.MomentReading.{Civil, civil_text, form_of_text, moment_in, moment_of, second_of_day, seconds_of}
use Rattle.aprs_log.proofs.Moments.{moment_in-civil, moment_in-text, moment_text-is, room_most, text-moment_in}

-- YYYY-MM-DDT
abbrev front_of : Civil → List ℕ
front_of c = four_digits c.year ++ 45 ∷ two_digits c.month ++ 45 ∷ two_digits c.day ++ 84 ∷ []

-- HH:MM:SS and what follows it
abbrev end_of : MomentForm → ℕ → ℕ → ℕ → ℕ → List ℕ
end_of form hour minute second n =
    clock_text hour minute second ++ fraction_text form n ++ 90 ∷ []

-- the same day at another time
abbrev at_time : Civil → ℕ → ℕ → ℕ → Civil
at_time c hour minute second = record {
  year = c.year;
  month = c.month;
  day = c.day;
  hour = hour;
  minute = minute;
  second = second;
}

days_of : Civil → ℕ
days_of c = unsigned_abs (days_from_civil (pos c.year) c.month c.day)

some_same : (a b : ℕ) → Some a ≡ Some b → a ≡ b
some_same a b e = cc

-- what a text's moment is made of
record Found (form : MomentForm) (m : ℕ) (t : List ℕ) : Type 0 where
  civil : Civil
  millis : ℕ
  real : IsCivil civil
  below : millis < moments_per_second form
  spelled : t ≡ civil_text form civil millis
  number : m ≡ (86400 * days_of civil + second_of_day civil) * 1000 + millis

found : (form : MomentForm) (t : List ℕ) (m : ℕ) → moment_in form t ≡ Some m → Found form m t
unfolding days_of
found form t m e =
    let h = moment_in-text form t m e in
    let same : Some m ≡ Some (seconds_of h.civil * 1000 + h.millis)
    = sym e ∙ ap (moment_in form) h.spelled
    ∙ moment_in-civil form h.civil h.millis h.real h.below in
    record {
      civil = h.civil;
      millis = h.millis;
      real = h.real;
      below = h.below;
      spelled = h.spelled;
      number = some_same _ _ same;
    }

civil_text-length : (form : MomentForm) (c : Civil) (n : ℕ)
    → (length (civil_text form c n) ≡ 20) ⊎ (length (civil_text form c n) ≡ 24)
civil_text-length Seconds c n = inl refl
civil_text-length Millis c n = inr refl

-- a moment's text has 20 bytes or 24
pub moment_of-length : (t : List ℕ) (m : ℕ) → moment_of t ≡ Some m
    → (length t ≡ 20) ⊎ (length t ≡ 24)
moment_of-length t m e =
    let f = found (form_of_text t) t m e in
    subst (λ (l : List ℕ). (length l ≡ 20) ⊎ (length l ≡ 24)) (sym f.spelled)
    (civil_text-length (form_of_text t) f.civil f.millis)

digit_inside : (form : MomentForm) (c : Civil) (n : ℕ) → length (civil_text form c n) ≡ 24
    → slice_index (civil_text form c n) 20 ≢ 32
digit_inside Seconds c n len e = let no : 20 ≡ 24 = len in absurd (omega (arith, no))
digit_inside Millis c n len e = let no : 48 + n / 100 ≡ 32 = e in absurd (omega (arith, no))

-- in the longer one no space stands where one would end the shorter
pub moment_of-inside : (t : List ℕ) (m : ℕ) → moment_of t ≡ Some m → length t ≡ 24
    → slice_index t 20 ≢ 32
moment_of-inside t m e len space =
    let f = found (form_of_text t) t m e in
    digit_inside (form_of_text t) f.civil f.millis (ap length (sym f.spelled) ∙ len)
    (ap (λ l. slice_index l 20) (sym f.spelled) ∙ space)

-- another time of the day of a civil time
moment_at : (form : MomentForm) (c : Civil) → IsCivil c → (hour minute second n : ℕ)
    → hour < 24 → minute < 60 → second < 60 → n < moments_per_second form
    → moment_in form (front_of c ++ end_of form hour minute second n)
    ≡ Some ((86400 * days_of c + (hour * 3600 + minute * 60 + second)) * 1000 + n)
unfolding days_of
moment_at form c real hour minute second n h m s below =
    moment_in-civil form (at_time c hour minute second) n
    (record { date = real.date; hour = h; minute = m; second = s }) below

cut_text : (form : MomentForm) (date time : List ℕ) (c : Civil) (n : ℕ) → length date ≡ 11
    → date ++ time ≡ civil_text form c n
    → (date ≡ front_of c) × (time ≡ end_of form c.hour c.minute c.second n)
cut_text form date time c n len e =
    let prefix : take 11 (date ++ time) ≡ date
    = ap (λ k. take k (date ++ time)) (sym len) ∙ take-append_seam date time in
    let end : 11 ≡ length date + 0 = omega (arith, len) in
    let back : drop 11 (date ++ time) ≡ time
    = ap (λ k. drop k (date ++ time)) end ∙ drop-append-add date time 0 in
    (sym prefix ∙ ap (λ l. take 11 l) e, sym back ∙ ap (λ l. drop 11 l) e)

-- at midnight no second of the day has gone by
no_second : (c : Civil) (n : ℕ) → midnight_text ≡ end_of Seconds c.hour c.minute c.second n
    → second_of_day c ≡ 0
no_second c n e =
    let h1 : 48 + c.hour / 10 ≡ 48 = sym (ap (λ l. slice_index l 0) e) in
    let h0 : 48 + c.hour % 10 ≡ 48 = sym (ap (λ l. slice_index l 1) e) in
    let m1 : 48 + c.minute / 10 ≡ 48 = sym (ap (λ l. slice_index l 3) e) in
    let m0 : 48 + c.minute % 10 ≡ 48 = sym (ap (λ l. slice_index l 4) e) in
    let s1 : 48 + c.second / 10 ≡ 48 = sym (ap (λ l. slice_index l 6) e) in
    let s0 : 48 + c.second % 10 ≡ 48 = sym (ap (λ l. slice_index l 7) e) in
    omega arith

-- the moment of a text with a date that is known
moment_in-same_day : (form : MomentForm) (date time end : List ℕ) (midnight second n : ℕ)
    → length date ≡ 11 → moment_in Seconds (date ++ midnight_text) ≡ Some midnight
    → SecondText second time → IsFractionText form n end
    → moment_in form (date ++ (time ++ end)) ≡ Some (midnight + second * 1000 + n)
moment_in-same_day form date time end midnight second n len e t f =
    let day = found Seconds (date ++ midnight_text) midnight e in
    let parts = cut_text Seconds date midnight_text day.civil day.millis len day.spelled in
    let none = no_second day.civil day.millis parts.1 in
    let zero : day.millis < 1 = day.below in
    let sum : (86400 * days_of day.civil + (t.hour * 3600 + t.minute * 60 + t.second)) * 1000 + n
    ≡ midnight + second * 1000 + n
    = omega (arith, day.number, none, zero, t.number) in
    ap (λ l. moment_in form (l ++ (time ++ end))) parts.0
    ∙ ap (λ l. moment_in form (front_of day.civil ++ (l ++ end))) t.spelled
    ∙ ap (λ l. moment_in form (front_of day.civil
    ++ (clock_text t.hour t.minute t.second ++ l))) f.spelled
    ∙ moment_at form day.civil day.real t.hour t.minute t.second n t.is_hour t.is_minute t.is_second
    f.below
    ∙ ap (λ k. Some k) sum

-- eight bytes, one by one
eight_apart : (text : List ℕ) → length text ≡ 8 → text ≡ slice_index text 0 ∷ slice_index text 1
    ∷ slice_index text 2 ∷ slice_index text 3 ∷ slice_index text 4 ∷ slice_index text 5
    ∷ slice_index text 6 ∷ slice_index text 7 ∷ []
eight_apart (a ∷ b ∷ c ∷ d ∷ e ∷ f ∷ g ∷ h ∷ []) is = refl
eight_apart [] is = absurd (omega arith)
eight_apart (a ∷ []) is = absurd (omega arith)
eight_apart (a ∷ b ∷ []) is = absurd (omega arith)
eight_apart (a ∷ b ∷ c ∷ []) is = absurd (omega arith)
eight_apart (a ∷ b ∷ c ∷ d ∷ []) is = absurd (omega arith)
eight_apart (a ∷ b ∷ c ∷ d ∷ e ∷ []) is = absurd (omega arith)
eight_apart (a ∷ b ∷ c ∷ d ∷ e ∷ f ∷ []) is = absurd (omega arith)
eight_apart (a ∷ b ∷ c ∷ d ∷ e ∷ f ∷ g ∷ []) is = absurd (omega arith)
eight_apart (a ∷ b ∷ c ∷ d ∷ e ∷ f ∷ g ∷ h ∷ i ∷ l) is = absurd (omega arith)

-- what a time's eight bytes say
pub SecondText-at : (text : List ℕ) (hour minute second n : ℕ) → length text ≡ 8
    → slice_index text 2 ≡ 58 → slice_index text 5 ≡ 58 → hour < 24 → minute < 60 → second < 60
    → two_digits hour ≡ slice_index text 0 ∷ slice_index text 1 ∷ []
    → two_digits minute ≡ slice_index text 3 ∷ slice_index text 4 ∷ []
    → two_digits second ≡ slice_index text 6 ∷ slice_index text 7 ∷ []
    → n ≡ hour * 3600 + minute * 60 + second → SecondText n text
SecondText-at text hour minute second n size first other lo mi se hs ms ss is = record {
  hour = hour;
  minute = minute;
  second = second;
  is_hour = lo;
  is_minute = mi;
  is_second = se;
  number = is;
  spelled = eight_apart text size
      ∙ (λ i. slice_index text 0 ∷ slice_index text 1 ∷ first i ∷ slice_index text 3
      ∷ slice_index text 4 ∷ other i ∷ slice_index text 6 ∷ slice_index text 7 ∷ [])
      ∙ sym (λ i. hs i ++ 58 ∷ ms i ++ 58 ∷ ss i);
}

-- what follows the seconds says the form
same_form : (text end : List ℕ) → (length text ≡ 20) ⊎ (length text ≡ 24)
    → length text ≡ 19 + length end → form_of_text text ≡ form_of_end end
same_form text end (inl e) len =
    let one : length end ≡ 1 = omega (arith, len, e) in
    ap (λ n. cond (n == 20) Seconds Millis) e ∙ sym (ap (λ n. cond (n == 1) Seconds Millis) one)
same_form text end (inr e) len =
    let five : length end ≡ 5 = omega (arith, len, e) in
    ap (λ n. cond (n == 20) Seconds Millis) e ∙ sym (ap (λ n. cond (n == 1) Seconds Millis) five)

pub moment_of-same_day : (text date rest time end : List ℕ) (midnight second n : ℕ)
    → (length text ≡ 20) ⊎ (length text ≡ 24) → length date ≡ 11 → text ≡ date ++ rest
    → rest ≡ time ++ end → moment_in Seconds (date ++ midnight_text) ≡ Some midnight
    → SecondText second time → IsFractionText (form_of_end end) n end
    → moment_of text ≡ Some (midnight + second * 1000 + n)
moment_of-same_day text date rest time end midnight second n either len is then e t f =
    let whole = is ∙ ap (λ l. date ++ l) then in
    let eight : length time ≡ 8 = ap length t.spelled in
    let size : length text ≡ 19 + length end
    = omega (
      arith,
      ap length whole,
      length-append date (time ++ end),
      length-append time end,
      len,
      eight,
    ) in
    let form = form_of_end end in
    ap (λ g. moment_in g text) (same_form text end either size) ∙ ap (moment_in form) whole
    ∙ moment_in-same_day form date time end midnight second n len e t f

-- the first moment of a moment's day
pub moment_of-midnight : (t : List ℕ) (m : ℕ) → moment_of t ≡ Some m
    → moment_in Seconds (take 11 t ++ midnight_text) ≡ Some (m - m % 86400000)
moment_of-midnight t m e =
    let form = form_of_text t in
    let f = found form t m e in
    let most = room_most form f.millis f.below in
    let second : second_of_day f.civil < 86400 =
    omega (arith, f.real.hour, f.real.minute, f.real.second) in
    let start : (86400 * days_of f.civil + (0 * 3600 + 0 * 60 + 0)) * 1000 + 0 ≡ m - m % 86400000
    = omega (arith, f.number, second, most) in
    ap (λ l. moment_in Seconds (take 11 l ++ midnight_text)) f.spelled
    ∙ moment_at Seconds f.civil f.real 0 0 0 0 (omega arith) (omega arith) (omega arith)
    (omega arith)
    ∙ ap (λ k. Some k) start

-- the first moment's day
pub first_day : moment_in Seconds
    (49 ∷ 57 ∷ 55 ∷ 48 ∷ 45 ∷ 48 ∷ 49 ∷ 45 ∷ 48 ∷ 49 ∷ 84 ∷ midnight_text) ≡ Some 0
unfolding moment_text_in day_after
first_day = text-moment_in Seconds (moment_text_in Seconds 0) 0
    (moment_text-is Seconds 0 (omega arith) (omega arith))

-- a moment that is made where the number is in range
pub IfSome-moment : (t : List ℕ) (r : Option ℕ) (P : Type 0) (m : ℕ) → SomeIff r P m
    → moment_of t ≡ Some m → IfSome r (λ k. moment_of t ≡ Some k)
IfSome-moment t None P m h e = tt
IfSome-moment t (Some k) P m h e = e ∙ ap (λ n. Some n) (sym h.1)

-- a list that was cut in two
pub halves : (n : ℕ) (l prefix rest : List ℕ) → prefix ≡ take n l → rest ≡ drop n l
    → l ≡ prefix ++ rest
halves n l prefix rest e f =
    sym (take-append-drop n l) ∙ ap (λ x. x ++ drop n l) (sym e) ∙ ap (λ x. prefix ++ x) (sym f)

-- ---- the text of a moment of a day whose text is known

-- a time of the day put over the last one
pub time_put : (text time : List ℕ) (m k t : ℕ) → text ≡ moment_text k
    → m / 86400000 ≡ k / 86400000 → t ≡ m % 86400000 → time ≡ time_text Millis t
    → put_mid 11 13 text time ≡ moment_text m
unfolding moment_text_in
time_put text time m k t was same is put =
    ap (λ l. put_mid 11 13 l time) was ∙ ap (λ l. put_mid 11 13 (moment_text k) l) put
    ∙ ap (λ d. date_text (day_after d) ++ 84 ∷ time_text Millis t) (sym same)
    ∙ ap (λ n. date_text (day_after (m / 86400000)) ++ 84 ∷ time_text Millis n) is

-- the milliseconds since midnight, as they are reckoned where the moment may be before it
pub since_midnight : (m midnight : ℕ) → m ≤ 4102444799999 → midnight ≤ 4102444799999
    → (m + (18446744073709551616 - midnight)) % 18446744073709551616 < 86400000
    → midnight + (m + (18446744073709551616 - midnight)) % 18446744073709551616 ≡ m
since_midnight m midnight last early below = omega arith

pub same_day : (m midnight time since : ℕ) → midnight % 86400000 ≡ 0 → time < 86400000
    → since < 86400000 → midnight + since ≡ m
    → (m / 86400000 ≡ (midnight + time) / 86400000) × (since ≡ m % 86400000)
same_day m midnight time since starts within below sum = (omega arith, omega arith)
