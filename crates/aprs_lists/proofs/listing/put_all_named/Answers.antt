use Rattle.aprs_io.proofs.SoFar.{PutSoFar-broken, PutSoFar-more, PutSoFar-none}
use Rattle.aprs_lists.proofs.listing.put_all_named.Goals as goal

pub loop-named-init : goal.loop-named-init
loop-named-init g c = PutSoFar-none _ _

pub loop-named-preserved : goal.loop-named-preserved
loop-named-preserved g c =
    PutSoFar-more c.loop-named.invariant _ _ c.in-Some.ensures c.in_ok-put_heard.ensures

pub returns-in_err-put_heard : goal.returns-in_err-put_heard
returns-in_err-put_heard g c =
    PutSoFar-broken c.loop-named.invariant _ _ c.in-Some.ensures _ c.from_residual.ensures.0
    c.in_err-put_heard.ensures
