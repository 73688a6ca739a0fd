use Rattle.aprs_lists.proofs.Common.{PutSoFar-all, PutSoFar-broken, PutSoFar-more, PutSoFar-none}
use Rattle.aprs_lists.proofs.messages.MessageWalkLines.put_lines.Goals as goal

pub loop-message-init : goal.loop-message-init
loop-message-init g c = rw (c.into_iter-message-iterator.ensures.into_iter_gives) (PutSoFar-none _ _)

pub loop-message-preserved : goal.loop-message-preserved
loop-message-preserved g c =
    PutSoFar-more c.loop-message.invariant _ _ c.in-Some.ensures.steps c.in_ok-put_listed.ensures

pub returns-in_err-put_listed : goal.returns-in_err-put_listed
returns-in_err-put_listed g c =
    PutSoFar-broken c.loop-message.invariant _ _ c.in-Some.ensures.steps _
    c.from_residual.ensures.0 c.in_err-put_listed.ensures

pub returns : goal.returns
returns g c = PutSoFar-all c.loop-message.invariant c.in-None.ensures.steps.0
