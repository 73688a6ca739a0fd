use Rattle.aprs_runs.proofs.Common.{◌∙◌, ap, err_from_is_err_and, BookValue, millis_of}
use Rattle.aprs_runs.proofs.RowsTold.{some_rows}
use Rattle.aprs_runs.proofs.gathered.Gathered.into_store.Goals as goal

pub returns-in_err-add_rows-clause-some : goal.returns-in_err-add_rows-clause-some
returns-in_err-add_rows-clause-some g c =
    let p = err_from_is_err_and c.from_residual.result c.from_residual.ensures.1 in
    let was = c.self.inside in
    rw p.1 (λ none. some_rows (millis_of was.store.gap) was.store.rows was.file
    c.in_err-add_rows.ensures.some (ap (λ (b : BookValue). b.rows) c.self.view_is ∙ none))
