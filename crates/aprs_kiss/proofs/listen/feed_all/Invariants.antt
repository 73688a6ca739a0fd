use Rattle.aprs_kiss.proofs.Common.{length}
use Rattle.aprs_kiss.proofs.Hearing.{HasHeard}
use Rattle.aprs_kiss.proofs.listen.feed_all.Given as goal

abbrev pub invariant-loop-rest : goal.invariant-loop-rest
invariant-loop-rest g l =
    HasHeard g.L.Listener.hears l.initial.reader l.reader l.initial.listener l.listener
    l.chunk l.rest

abbrev pub decreases-loop-rest : goal.decreases-loop-rest
decreases-loop-rest g l = length l.rest
