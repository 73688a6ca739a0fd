use Rattle.aprs_bookfile.proofs.Common.{◌≡◌, ℕ, ◌+◌, ◌-◌, ◌<◌, ◌≤◌, ◌++◌, false, length, take}
use Rattle.aprs_bookfile.specs.HeldLine.{is_hopeless}
use Rattle.aprs_bookfile.specs.RowPlace.{place_in}
use Rattle.aprs_bookfile.proofs.held_line.HeldLine.deciding.Given as goal

abbrev pub invariant-loop-i : goal.invariant-loop-i
invariant-loop-i g l = record {
  within : l.i ≤ length l.bytes;
  place_is : l.place ≡ place_in (l.self ++ take l.i l.bytes);
  before : (n : ℕ) → n < l.i
      → is_hopeless l.first (length l.self + n) (place_in (l.self ++ take n l.bytes)) ≡ false;
}

abbrev pub decreases-loop-i : goal.decreases-loop-i
decreases-loop-i g l = length l.bytes - l.i
