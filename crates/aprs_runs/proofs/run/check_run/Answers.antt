use Rattle.aprs_runs.proofs.Common.{err_from_is_err_and, Runs}
use Rattle.aprs_convert.specs.Check.{Checks}
use Rattle.aprs_runs.proofs.OneInput.{answers_fault}
use Rattle.aprs_runs.proofs.run.check_run.Goals as goal

pub returns-in_err-check_log : goal.returns-in_err-check_log
returns-in_err-check_log g c =
    let p = err_from_is_err_and c.from_residual.result c.from_residual.ensures.1 in
    rw (p.1, p.2) (answers_fault c.in_err-check_log.field-0.0 (λ answer.
    Runs Checks c.args.limit g.R.Read.remaining g.W.Write.contents answer c.args.r.now
    c.check_log.new.r c.args.w.now c.check_log.new.w) c.in_err-check_log.ensures)
