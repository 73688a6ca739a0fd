use Rattle.aprs_fold.proofs.Common.{◌≡◌, length}
use Rattle.aprs_fold.specs.Streams.{AreOpened}
use Rattle.aprs_fold.proofs.opening.open_all.Given as goal

abbrev pub invariant-loop-index : goal.invariant-loop-index
invariant-loop-index g l = record {
  count : l.index ≡ length l.streams.items;
  opened : AreOpened g.R.Read.remaining l.limit l.gap l.fn.inputs l.inputs l.streams.items;
}
