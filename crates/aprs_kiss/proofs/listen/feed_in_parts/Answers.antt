use Rattle.aprs_kiss.proofs.Common.{refl, sym, append-nil, []}
use Rattle.aprs_kiss.proofs.Hearing.{HasHeard-none, HasHeard-more, Hears-all, parts_of}
use Rattle.aprs_kiss.proofs.listen.feed_in_parts.Goals as goal

pub loop-len-init : goal.loop-len-init
loop-len-init g c = HasHeard-none _ _ _ _

pub loop-len-preserved : goal.loop-len-preserved
loop-len-preserved g c =
    HasHeard-more _ _ _ _ _ _ _ _ _ _ _ c.loop-len.invariant
    (parts_of _ _ _ _ c.split_at.ensures.front c.split_at.ensures.back)
    (record { stands = c.feed_all.ensures.stands; heard = c.feed_all.ensures.heard })

pub returns : goal.returns
returns g c =
    let all =
    Hears-all _ _ _ _ _ _ _
    (HasHeard-more _ _ _ _ _ _ _ _ _ _ [] c.loop-len.invariant (sym (append-nil _))
    (record { stands = c.feed_all-2.ensures.stands; heard = c.feed_all-2.ensures.heard })) refl in
    record { stands = all.stands; heard = all.heard }
