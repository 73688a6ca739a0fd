use Rattle.aprs_io.proofs.SoFar.{PutSoFar-all, PutSoFar-broken, PutSoFar-more, PutSoFar-none}
use Rattle.aprs_table.proofs.history.put_history.Goals as goal

pub loop-row-init : goal.loop-row-init
loop-row-init g c = rw (c.into_iter-row-iterator.ensures.into_iter_gives) (PutSoFar-none _ _)

pub returns-in_err-put_row_history : goal.returns-in_err-put_row_history
returns-in_err-put_row_history g c =
    PutSoFar-broken c.loop-row.invariant _ _ c.in-Some.ensures.steps _ c.from_residual.ensures.0
    c.in_err-put_row_history.ensures

pub loop-row-preserved : goal.loop-row-preserved
loop-row-preserved g c =
    PutSoFar-more c.loop-row.invariant _ _ c.in-Some.ensures.steps c.in_ok-put_row_history.ensures

pub returns : goal.returns
returns g c = PutSoFar-all c.loop-row.invariant c.in-None.ensures.steps.0
