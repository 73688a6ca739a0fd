use Rattle.aprs_io.proofs.SoFar.{PutSoFar-all, PutSoFar-broken, PutSoFar-more, PutSoFar-none}
use Rattle.aprs_lists.proofs.listing.put_messages.Goals as goal

pub loop-message-init : goal.loop-message-init
loop-message-init g c = rw (c.into_iter-message-iterator.ensures.into_iter_gives) (PutSoFar-none _ _)

pub loop-message-preserved : goal.loop-message-preserved
loop-message-preserved g c =
    PutSoFar-more c.loop-message.invariant _ _ c.in-Some.ensures.steps c.in_ok-put_message.ensures

pub returns-in_err-put_message : goal.returns-in_err-put_message
returns-in_err-put_message g c =
    PutSoFar-broken c.loop-message.invariant _ _ c.in-Some.ensures.steps _
    c.from_residual.ensures.0 c.in_err-put_message.ensures

pub returns : goal.returns
returns g c = PutSoFar-all c.loop-message.invariant c.in-None.ensures.steps.0
