-- Versions of book files.
use Rattle.std.specs.Prelude.{ℕ, List, ◌++◌, codes, decimal}
use Rattle.aprs_log.specs.declared.moment_form.MomentForm.{MomentForm}
use Rattle.aprs_log.specs.declared.moment_form.MomentForm.TheVariants.{Seconds, Millis}
use Rattle.aprs_transmissions.specs.Gap.{IsGap, standard_gap}
use Rattle.aprs_bookfile.specs.declared.version.Version.{Version}
use Rattle.aprs_bookfile.specs.declared.version.Version.TheVariants.{One, Two, Three}

-- The first line of a text of this version, without its LF.
abbrev pub header_of : Version → List ℕ
header_of One = codes "APRSBOOK 1"
header_of Two = codes "APRSBOOK 2"
header_of (Three gap) = codes "APRSBOOK 3 " ++ decimal gap

-- How the moments of a text of this version are written.
abbrev pub form_of : Version → MomentForm
form_of One = Seconds
form_of version = Millis

-- The gap of a book of this version, in seconds.
abbrev pub gap_of : Version → ℕ
gap_of (Three gap) = gap
gap_of version = standard_gap

-- The gap of this version is one that a book can have.
abbrev pub IsVersion : Version → Type 0
IsVersion version = IsGap (gap_of version)
