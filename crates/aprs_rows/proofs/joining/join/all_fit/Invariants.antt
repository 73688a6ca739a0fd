use Rattle.aprs_rows.proofs.Common.{take, AreAllAlike}
use Rattle.aprs_rows.proofs.joining.join.all_fit.Given as goal

abbrev pub invariant-loop-other : goal.invariant-loop-other
invariant-loop-other g l = AreAllAlike g.J.Join.alike l.start (take l.other-index l.items)
