use Rattle.aprs_runs.proofs.Folds.{files_checked, gots_of, run_unwritten}
use Rattle.aprs_runs.proofs.fold.check_books_run.Goals as goal

pub returns-in-Ok-clause-checks : goal.returns-in-Ok-clause-checks
returns-in-Ok-clause-checks g c =
    let h = c.in-Ok.ensures.books in
    files_checked g.R.Read.remaining c.args.limit c.args.gap c.args.inputs.now _ h.0 h.1

pub returns-in-Err-clause-checks : goal.returns-in-Err-clause-checks
returns-in-Err-clause-checks g c inputs e =
    gots_of g.R.Read.remaining c.args.limit c.args.inputs.now _ inputs e c.in-Err.ensures.asks

pub returns-in-Err-clause-refuses : goal.returns-in-Err-clause-refuses
returns-in-Err-clause-refuses g c =
    (c.in-Err.fault, c.run_fault_of.ensures, c.in-Err.ensures.refuses)

pub returns-in-Err-clause-unwritten : goal.returns-in-Err-clause-unwritten
returns-in-Err-clause-unwritten g c =
    run_unwritten c.in-Err.fault c.run_fault_of.result c.run_fault_of.ensures
    c.in-Err.ensures.unwritten
