use Rattle.aprs_runs.proofs.Common.{err_from_is_err_and, Runs}
use Rattle.aprs_convert.specs.Conversion.{Converts}
use Rattle.aprs_runs.proofs.OneInput.{answers_fault}
use Rattle.aprs_runs.proofs.run.convert_run.Goals as goal

pub returns-in_err-convert_input : goal.returns-in_err-convert_input
returns-in_err-convert_input g c =
    let p = err_from_is_err_and c.from_residual.result c.from_residual.ensures.1 in
    rw (p.1, p.2) (answers_fault c.in_err-convert_input.field-0.0 (λ answer.
    Runs (Converts c.args.form) c.args.limit g.R.Read.remaining g.W.Write.contents answer c.args.r.now
    c.convert_input.new.r c.args.w.now c.convert_input.new.w) c.in_err-convert_input.ensures)
