use Rattle.aprs_runs.proofs.Folds.{fold_of_all}
use Rattle.aprs_runs.proofs.fold.fold_run.Goals as goal

pub returns-clause-writes : goal.returns-clause-writes
returns-clause-writes g c inputs e =
    let h = c.fold_range_run.ensures.writes inputs e in (
      h.0,
      h.1,
      h.2,
      fold_of_all c.args.limit c.args.gap g.W.Write.contents c.args.w.now c.fold_range_run.new.w
          h.0 c.fold_range_run.result c.all.result c.all.ensures h.3,
    )
