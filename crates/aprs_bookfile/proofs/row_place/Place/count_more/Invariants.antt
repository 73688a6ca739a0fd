use Rattle.aprs_bookfile.proofs.Common.{◌≡◌, ℕ, ◌+◌, ◌<◌, Some, take}
use Rattle.aprs_bookfile.specs.RowPlace.{last_after, place_further}
use Rattle.aprs_bookfile.proofs.row_place.Place.count_more.Given as goal

abbrev pub invariant-loop-i : goal.invariant-loop-i
invariant-loop-i l = (n : ℕ) → n < l.i + 1
    → last_after (Some l.self) (take n l.bytes) ≡ Some (place_further l.self n)
