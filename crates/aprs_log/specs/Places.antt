-- The digits of a text as the code reads them. No public clause cites this module.
use Rattle.std.specs.Prelude.{ℕ, ◌+◌, ◌-◌, ◌*◌, min, List, slice_index}
use Rattle.aprs_log.specs.declared.moment_form.MomentForm.{MomentForm}
use Rattle.aprs_log.specs.declared.moment_form.MomentForm.TheVariants.{Seconds, Millis}
use Rattle.aprs_log.specs.MomentReading.{Civil}

-- The value of a digit. For a byte below `0` it is 0, and for one above `9` it is 9.
abbrev pub near_digit : ℕ → ℕ
near_digit b = min 9 (b - 48)

-- The number whose two digits are nearest to the bytes at i.
abbrev pub nearest_pair : List ℕ → ℕ → ℕ
nearest_pair text i = 10 * near_digit (slice_index text i) + near_digit (slice_index text (i + 1))

-- The civil time whose digits are nearest to the bytes at their places in a text.
abbrev pub near_civil : List ℕ → Civil
near_civil text = record {
  year = 100 * nearest_pair text 0 + nearest_pair text 2;
  month = nearest_pair text 5;
  day = nearest_pair text 8;
  hour = nearest_pair text 11;
  minute = nearest_pair text 14;
  second = nearest_pair text 17;
}

-- The milliseconds whose digits are nearest to the bytes at their places; 0 where the form has
-- none.
abbrev pub near_millis : MomentForm → List ℕ → ℕ
near_millis Seconds text = 0
near_millis Millis text = 100 * near_digit (slice_index text 20) + nearest_pair text 21
