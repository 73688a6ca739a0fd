use Rattle.aprs_kiss.proofs.Common.{refl}
use Rattle.aprs_kiss.proofs.Hearing.{HasHeard-none, HasHeard-more, Hears-call, parts_of}
use Rattle.aprs_kiss.proofs.listen.feed_all.Goals as goal

pub loop-rest-init : goal.loop-rest-init
loop-rest-init g c = HasHeard-none _ _ _ _

pub loop-rest-preserved : goal.loop-rest-preserved
loop-rest-preserved g c =
    let call =
    Hears-call _ _ _ _ _ _ _ c.feed.follows.holds-at-none c.feed.ensures.judged c.hear.ensures in
    HasHeard-more _ _ _ _ _ _ _ _ _ _ _ c.loop-rest.invariant
    (parts_of _ _ _ c.feed.result.0 refl c.split_at.ensures.back) call
