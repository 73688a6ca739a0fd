use Rattle.aprs_lists.specs.Told.{listed_line}
use Rattle.aprs_lists.proofs.Common.{PutSoFar}
use Rattle.aprs_lists.proofs.messages.MessageWalkLines.put_lines.Given as goal

abbrev pub invariant-loop-message : goal.invariant-loop-message
invariant-loop-message g l =
    PutSoFar listed_line g.W.Write.contents l.initial.out l.out l.fn.self l.message-iterator
