use Rattle.aprs_runs.proofs.Common.{Sends-ok}
use Rattle.aprs_runs.proofs.Folds.{fold_writes, gots_of}
use Rattle.aprs_runs.proofs.fold.fold_range_run.Goals as goal

pub returns-in-Ok-clause-writes : goal.returns-in-Ok-clause-writes
returns-in-Ok-clause-writes g c =
    let h = c.in-Ok.ensures.folds in
    fold_writes g.R.Read.remaining c.args.limit c.args.gap g.W.Write.contents c.args.range.now
    h.3.version c.args.inputs.now _ h.0 _ _ h.1 (Sends-ok h.2)

pub returns-in-Err-clause-writes : goal.returns-in-Err-clause-writes
returns-in-Err-clause-writes g c inputs e =
    gots_of g.R.Read.remaining c.args.limit c.args.inputs.now _ inputs e c.in-Err.ensures.asks

pub returns-in-Err-clause-refuses : goal.returns-in-Err-clause-refuses
returns-in-Err-clause-refuses g c = record {
  fault = c.in-Err.fault;
  is = c.run_fault_of.ensures;
  refused = c.in-Err.ensures.refuses;
  left = c.in-Err.ensures.left;
}
