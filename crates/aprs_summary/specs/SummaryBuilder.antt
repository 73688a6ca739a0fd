-- What one pass over rows keeps.
use Rattle.std.specs.Prelude.{ℕ, List}
use Rattle.std.specs.Map.{keys_of}
use Rattle.std.specs.List.Sorted.{IsStrictlySortedBy}
use Rattle.aprs_ax25.specs.Callsign.{Call, call_cmp}
use Rattle.aprs_transmissions.specs.Row.{Row}
use Rattle.aprs_summary.specs.declared.lists.summary_builder.SummaryBuilder.{SummaryBuilder}
use Rattle.aprs_summary.specs.Exchange.{IsExchangeOf}
use Rattle.aprs_summary.specs.Notes.{AreNotesOf}
use Rattle.aprs_summary.specs.StationRows.{AreTallies, tally_of}

-- The builder has what the rows report, how many each station has, by callsign, and what they say
-- of messages.
pub record IsBuilderOf {A : Type 0} (rows : List Row) (s : SummaryBuilder A) : Type 0 where
  pub notes : AreNotesOf rows s.notes
  pub tallies : AreTallies rows s.tallies
  pub sorted : IsStrictlySortedBy call_cmp (keys_of s.tallies)
  pub exchange : IsExchangeOf rows s.exchange

-- How many rows of this station a builder took.
abbrev pub rows_taken_of : {A : Type 0} → Call → SummaryBuilder A → ℕ
rows_taken_of station builder = tally_of station builder.tallies
