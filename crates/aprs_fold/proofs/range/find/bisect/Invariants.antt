use Rattle.std.proofs.Common.{◌≡◌, ℕ, List, Some}
use Rattle.aprs_fold.specs.Cuts.{IsLow}
use Rattle.aprs_fold.proofs.range.find.bisect.Given as goal

abbrev pub invariant-loop : goal.invariant-loop
invariant-loop g l = record {
  low : (bytes : List ℕ) → g.R.ReadAt.bytes l.initial.source ≡ Some bytes
      → IsLow l.before bytes l.start l.bounds.low;
  stays : g.R.ReadAt.bytes l.source ≡ g.R.ReadAt.bytes l.initial.source;
}
