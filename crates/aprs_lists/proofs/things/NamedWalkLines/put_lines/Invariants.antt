use Rattle.aprs_lists.proofs.Common.{length, PutSoFar}
use Rattle.aprs_lists.specs.Things.{report_table_line}
use Rattle.aprs_lists.proofs.things.NamedWalkLines.put_lines.Given as goal

abbrev pub invariant-loop-named : goal.invariant-loop-named
invariant-loop-named g l =
    PutSoFar report_table_line g.W.Write.contents l.initial.out l.out l.initial.self l.self

abbrev pub decreases-loop-named : goal.decreases-loop-named
decreases-loop-named g l = length l.self
