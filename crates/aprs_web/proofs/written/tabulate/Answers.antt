use Rattle.aprs_web.proofs.Common.{map, List, ℕ, Some, sym, ap, ◌∙◌}
use Rattle.aprs_runs.specs.TableOf.{IsTableOf}
use Rattle.aprs_web.proofs.Gathers.{gathers}
use Rattle.aprs_web.proofs.written.tabulate.Goals as goal

pub returns-in_default : goal.returns-in_default
returns-in_default g c = ap (λ v. v.items) (c.into_inner.ensures ∙ c.new-w.ensures.device) ∙ c.text_for.ensures

pub returns : goal.returns
returns g c =
    gathers (λ v. Some v.items) c.new-w.result c.table_run-outcome.new.w c.into_inner-2.result.items
    (ap (λ v. Some v.items) c.new-w.ensures.device ∙ ap (λ (xs : List ℕ). Some xs) c.text_for.ensures)
    (sym (ap (λ v. Some v.items) c.into_inner-2.ensures)) _ c.args.gap (IsTableOf c.args.table c.args.gap)
    _ _ _ c.table_run-outcome.result
    (ap (map (λ r. Some r.device.now)) c.as_mut_slice.ensures.value ∙ c.in-Ok.ensures)
    c.table_run-outcome.ensures.writes c.table_run-outcome.ensures.refuses
