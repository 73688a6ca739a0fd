-- Lines that are kept beside rows. No public clause cites this module.
use Rattle.std.specs.Prelude.{◌≡◌, ◌⊎◌, ℕ, List, [], Option, Some}
use Rattle.aprs_log.specs.declared.moment_form.MomentForm.TheVariants.{Millis}
use Rattle.aprs_transmissions.specs.Row.{Row}
use Rattle.aprs_bookfile.specs.Text.{row_line}

-- The line that is kept is that of the last row, as it is written, without its LF; or none is kept.
abbrev pub IsKeptLine : List ℕ → Option Row → Type 0
IsKeptLine line last = (line ≡ []) ⊎ ((x : Row) × (last ≡ Some x) × (line ≡ row_line Millis x))
