use Rattle.aprs_lists.proofs.Common.{PutSoFar-all, PutSoFar-broken, PutSoFar-more, PutSoFar-none}
use Rattle.aprs_lists.proofs.net.put_runs.Goals as goal

pub loop-run-init : goal.loop-run-init
loop-run-init g c = rw (c.into_iter-run-iterator.ensures.into_iter_gives) (PutSoFar-none _ _)

pub loop-run-preserved : goal.loop-run-preserved
loop-run-preserved g c =
    PutSoFar-more c.loop-run.invariant _ _ c.in-Some.ensures.steps c.in_ok-put_run.ensures

pub returns-in_err-put_run : goal.returns-in_err-put_run
returns-in_err-put_run g c =
    PutSoFar-broken c.loop-run.invariant _ _ c.in-Some.ensures.steps _ c.from_residual.ensures.0
    c.in_err-put_run.ensures

pub returns : goal.returns
returns g c = PutSoFar-all c.loop-run.invariant c.in-None.ensures.steps.0
