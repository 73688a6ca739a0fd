use Rattle.aprs_kiss.proofs.Hearing.{HasHeard}
use Rattle.aprs_kiss.proofs.listen.feed_in_parts.Given as goal

abbrev pub invariant-loop-len : goal.invariant-loop-len
invariant-loop-len g l =
    HasHeard g.L.Listener.hears l.initial.reader l.reader l.initial.listener l.listener
    l.stream l.rest
