use Rattle.std.proofs.Common.{map}
use Rattle.aprs_transmissions.specs.Gap.{millis_of}
use Rattle.aprs_lists.specs.Answers.{reply_of}
use Rattle.aprs_lists.specs.Told.{found_line}
use Rattle.aprs_lists.proofs.Common.{PutSoFar}
use Rattle.aprs_lists.proofs.net.put_runs.Given as goal

abbrev pub invariant-loop-run : goal.invariant-loop-run
invariant-loop-run g l =
    PutSoFar (found_line (millis_of l.gap) (map reply_of l.answers)) g.W.Write.contents l.initial.out
    l.out l.fn.runs l.run-iterator
