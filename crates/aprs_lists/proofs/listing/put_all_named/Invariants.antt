use Rattle.aprs_lists.proofs.Common.{length}
use Rattle.aprs_lists.specs.Listing.{thing_line}
use Rattle.aprs_io.proofs.SoFar.{PutSoFar}
use Rattle.aprs_lists.proofs.listing.put_all_named.Given as goal

abbrev pub invariant-loop-named : goal.invariant-loop-named
invariant-loop-named g l =
    PutSoFar thing_line g.W.Write.contents l.initial.out l.out l.initial.all l.all

abbrev pub decreases-loop-named : goal.decreases-loop-named
decreases-loop-named g l = length l.all
