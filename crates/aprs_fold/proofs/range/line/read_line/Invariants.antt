use Rattle.std.proofs.Common.{◌≡◌, ℕ, List, Some, ◌+◌, ◌-◌, length}
use Rattle.aprs_fold.proofs.Lines.{IsPartAt}
use Rattle.aprs_fold.proofs.range.line.read_line.Given as goal

abbrev pub invariant-loop-piece : goal.invariant-loop-piece
invariant-loop-piece g l = record {
  stays : g.R.ReadAt.bytes l.source ≡ g.R.ReadAt.bytes l.initial.source;
  next : l.next ≡ l.at + length l.line.items;
  part : (bytes : List ℕ) → g.R.ReadAt.bytes l.initial.source ≡ Some bytes
      → IsPartAt bytes l.at l.line.items;
}

abbrev pub decreases-loop-piece : goal.decreases-loop-piece
decreases-loop-piece g l = 16777216 - length l.line.items
