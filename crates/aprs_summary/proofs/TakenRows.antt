-- A builder of a summary takes one row after another.
use Rattle.aprs_summary.proofs.Common.{◌≡◌, List, ◌∷◌, ◌<◌, length, refl, Call, Row}
use Rattle.aprs_summary.specs.declared.lists.summary_builder.SummaryBuilder.{SummaryBuilder}
use Rattle.aprs_summary.specs.SummaryBuilder.{IsBuilderOf, rows_taken_of}
use Rattle.aprs_summary.proofs.Collected.{SoFar}
use Rattle.aprs_summary.proofs.Stations.{room_for_one}

-- of each station fewer rows were taken than there are before the last is taken
pub room_for_row : {A : Type 0} (all rest later : List Row) (x : Row) (builder : SummaryBuilder A)
    (call : Call) → SoFar (λ (done : List Row). IsBuilderOf done builder) all rest
    → rest ≡ x ∷ later → rows_taken_of call builder < length all
room_for_row all rest later x builder call s e =
    room_for_one all rest later x builder.tallies call _
    (record { done = s.done; split = s.split; holds = s.holds.tallies }) e refl
