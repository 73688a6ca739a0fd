use Rattle.aprs_web.proofs.Common.{List, ℕ, Some, sym, ap, ◌∙◌}
use Rattle.aprs_convert.specs.Check.{Checks}
use Rattle.aprs_web.proofs.Over.{over}
use Rattle.aprs_web.proofs.written.check.Goals as goal

pub returns : goal.returns
returns g c =
    over Checks _ _ c.new-r.result c.check_run-outcome.new.r c.new-w.result
    c.check_run-outcome.new.w c.args.input.now c.into_inner.result.items _
    (ap (λ s. Some s.now) c.new-r.ensures.device)
    (ap (λ v. Some v.items) c.new-w.ensures.device ∙ ap (λ (xs : List ℕ). Some xs) c.text_for.ensures)
    (sym (ap (λ v. Some v.items) c.into_inner.ensures)) c.check_run-outcome.ensures
