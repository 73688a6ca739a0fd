-- The lines of rows as they are written.
use Rattle.std.specs.Prelude.{◌<◌, ◌≤◌, ℕ, List, [], ◌∷◌, ◌++◌, length}
use Rattle.hex.specs.Hex.{IsBytes}
use Rattle.aprs_ax25.specs.UiFrame.{IsUiFrame}
use Rattle.aprs_log.specs.Receiver.{IsName}
use Rattle.aprs_log.specs.declared.moment_form.MomentForm.TheVariants.{Millis}
use Rattle.aprs_transmissions.specs.Row.{Row}
use Rattle.aprs_bookfile.specs.Text.{row_line, most_frame_bytes}

-- A row's line can spell this receiver and this frame.
pub record AreSpellable (who bytes : List ℕ) : Type 0 where
  pub name_is : IsName who
  pub bytes_are : IsBytes bytes
  pub few : (0 < length bytes) × (length bytes ≤ most_frame_bytes)
  pub frame_is : IsUiFrame bytes

-- The line with its LF.
abbrev pub ended_by_lf : List ℕ → List ℕ
ended_by_lf line = line ++ 10 ∷ []

-- A row's line as it is written, with its LF.
abbrev pub line_and_lf : Row → List ℕ
line_and_lf x = ended_by_lf (row_line Millis x)
