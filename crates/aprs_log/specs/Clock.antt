-- Times of a day whose date is known. No public clause cites this module.
use Rattle.std.specs.Prelude.{◌≡◌, ℕ, ◌+◌, ◌*◌, ◌<◌, ◌==◌, if◌then◌else◌, List, [], ◌∷◌, ◌++◌, length}
use Rattle.aprs_io.specs.Octet.{octet}
use Rattle.aprs_log.specs.declared.moment_form.MomentForm.{MomentForm}
use Rattle.aprs_log.specs.declared.moment_form.MomentForm.TheVariants.{Seconds, Millis}
use Rattle.aprs_log.specs.Moment.{two_digits, fraction_text, moments_per_second}
use Rattle.aprs_log.specs.Sizes.{seconds_size}

-- The bytes of a moment to the millisecond: 2026-11-26T18:00:00.000Z.
abbrev pub millis_size : ℕ
millis_size = 24

-- The bytes of a moment's text in a form.
abbrev pub form_size : MomentForm → ℕ
form_size Seconds = seconds_size
form_size Millis = millis_size

-- The text HH:MM:SS of a time of the day.
abbrev pub clock_text : ℕ → ℕ → ℕ → List ℕ
clock_text hour minute second =
    two_digits hour ++ octet ":" ∷ two_digits minute ++ octet ":" ∷ two_digits second

-- The end of the text of a day's first moment: 00:00:00Z.
abbrev pub midnight_text : List ℕ
midnight_text = clock_text 0 0 0 ++ octet "Z" ∷ []

-- `text` is the text of second n of a day.
pub record SecondText (n : ℕ) (text : List ℕ) : Type 0 where
  pub hour : ℕ
  pub minute : ℕ
  pub second : ℕ
  pub is_hour : hour < 24
  pub is_minute : minute < 60
  pub is_second : second < 60
  pub number : n ≡ hour * 3600 + minute * 60 + second
  pub spelled : text ≡ clock_text hour minute second

-- `text` is what follows the seconds, in this form, at millisecond n of a second.
pub record IsFractionText (form : MomentForm) (n : ℕ) (text : List ℕ) : Type 0 where
  pub below : n < moments_per_second form
  pub spelled : text ≡ fraction_text form n ++ octet "Z" ∷ []

-- The form of a text whose seconds these bytes follow, by their number alone. One byte is the Z,
-- and any other number a fraction and the Z.
abbrev pub form_of_end : List ℕ → MomentForm
form_of_end end = if length end == 1 then Seconds else Millis
