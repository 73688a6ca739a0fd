use Rattle.aprs_web.proofs.Common.{List, ℕ, Some, sym, ap, ◌∙◌}
use Rattle.aprs_web.proofs.Gathers.{widens}
use Rattle.aprs_web.proofs.written.widen.Goals as goal

pub returns : goal.returns
returns g c =
    widens (λ v. Some v.items) c.new-w.result c.widen_run-outcome.new.w c.into_inner.result.items
    (ap (λ v. Some v.items) c.new-w.ensures.device ∙ ap (λ (xs : List ℕ). Some xs) c.text_for.ensures)
    (sym (ap (λ v. Some v.items) c.into_inner.ensures)) (λ s. Some s.now) c.args.gap
    c.new-r.result c.widen_run-outcome.new.r c.args.input.now c.widen_run-outcome.result
    (ap (λ s. Some s.now) c.new-r.ensures.device)
    c.widen_run-outcome.ensures.writes c.widen_run-outcome.ensures.refuses
