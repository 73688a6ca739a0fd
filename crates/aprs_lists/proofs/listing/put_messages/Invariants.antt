use Rattle.aprs_lists.specs.Listing.{message_line}
use Rattle.aprs_io.proofs.SoFar.{PutSoFar}
use Rattle.aprs_lists.proofs.listing.put_messages.Given as goal

abbrev pub invariant-loop-message : goal.invariant-loop-message
invariant-loop-message g l =
    PutSoFar message_line g.W.Write.contents l.initial.out l.out l.fn.messages l.message-iterator
