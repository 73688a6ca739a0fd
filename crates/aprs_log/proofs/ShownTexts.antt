-- The texts of moments and receivers are ASCII.
use Rattle.aprs_log.proofs.Common.{◌≡◌, ℕ, ◌+◌, ◌/◌, ◌%◌, ◌<◌, ◌++◌, ◌∷◌, [], List, true, arith, sym, subst, list_all, IsAscii, and_parts, nat_tests}
use Rattle.std.proofs.lemmas.Str.Ascii.{IsAscii-nil, IsAscii-cons}
use Rattle.aprs_log.specs.CivilMoment.{IsMomentText}
use Rattle.aprs_log.specs.Moment.{two_digits, fraction_text, moments_per_second}
use Rattle.aprs_log.specs.MomentReading.{Civil, civil_text}
use Rattle.aprs_log.specs.Receiver.{IsName, is_name_byte}
use Rattle.aprs_log.specs.declared.moment_form.MomentForm.{MomentForm}
use Rattle.aprs_log.specs.declared.moment_form.MomentForm.TheVariants.{Seconds, Millis}
use Rattle.aprs_log.proofs.Moments.{FitsText, IsCivil-fits}

two-ascii : (n : ℕ) (rest : List ℕ) → n < 100 → IsAscii rest → IsAscii (two_digits n ++ rest)
two-ascii n rest h r = IsAscii-cons (48 + n / 10) ((48 + n % 10) ∷ rest) (omega arith)
    (IsAscii-cons (48 + n % 10) rest (omega arith) r)

marked-ascii : (b n : ℕ) (rest : List ℕ) → b < 128 → n < 100 → IsAscii rest
    → IsAscii (b ∷ two_digits n ++ rest)
marked-ascii b n rest h k r = IsAscii-cons b (two_digits n ++ rest) h (two-ascii n rest k r)

fraction-ascii : (form : MomentForm) (n : ℕ) → n < moments_per_second form
    → IsAscii (fraction_text form n ++ 90 ∷ [])
fraction-ascii Seconds n h = IsAscii-cons 90 [] (omega arith) IsAscii-nil
fraction-ascii Millis n h =
    let end = IsAscii-cons 90 [] (omega arith) IsAscii-nil in
    let low = two-ascii (n % 100) (90 ∷ []) (omega arith) end in
    let digits = two_digits (n % 100) ++ 90 ∷ [] in
    IsAscii-cons 46 ((48 + n / 100) ∷ digits) (omega arith)
    (IsAscii-cons (48 + n / 100) digits (omega arith) low)

civil-ascii : (form : MomentForm) (c : Civil) (n : ℕ) → FitsText c → n < moments_per_second form
    → IsAscii (civil_text form c n)
civil-ascii form c n h below =
    let fraction = fraction_text form n ++ 90 ∷ [] in
    let second = 58 ∷ two_digits c.second ++ fraction in
    let minute = 58 ∷ two_digits c.minute ++ second in
    let hour = 84 ∷ two_digits c.hour ++ minute in
    let day = 45 ∷ two_digits c.day ++ hour in
    let month = 45 ∷ two_digits c.month ++ day in
    let from_second = marked-ascii 58 c.second fraction (omega arith) h.second
    (fraction-ascii form n below) in
    let from_minute = marked-ascii 58 c.minute second (omega arith) h.minute from_second in
    let from_hour = marked-ascii 84 c.hour minute (omega arith) h.hour from_minute in
    let from_day = marked-ascii 45 c.day hour (omega arith) h.day from_hour in
    let from_month = marked-ascii 45 c.month day (omega arith) h.month from_day in
    two-ascii (c.year / 100) (two_digits (c.year % 100) ++ month) (omega (arith, h.year))
    (two-ascii (c.year % 100) month (omega arith) from_month)

pub MomentText-ascii : (m : ℕ) (t : List ℕ) → IsMomentText m t → IsAscii t
MomentText-ascii m t h = let is = h.1 in
    subst IsAscii (sym is.spelled)
    (civil-ascii h.0 is.civil is.millis (IsCivil-fits is.civil is.real) is.below)

name_bytes-ascii : (bytes : List ℕ) → list_all is_name_byte bytes ≡ true → IsAscii bytes
name_bytes-ascii [] h = IsAscii-nil
name_bytes-ascii (b ∷ bytes) h =
    let p = and_parts (is_name_byte b) (list_all is_name_byte bytes) h in
    IsAscii-cons b bytes (grind (arith, nat_tests)) (name_bytes-ascii bytes p.1)

pub IsName-ascii : (bytes : List ℕ) → IsName bytes → IsAscii bytes
IsName-ascii bytes h = name_bytes-ascii bytes (and_parts _ _ h).1
