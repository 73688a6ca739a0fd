use Rattle.aprs_summary.proofs.Common.{◌∙◌, ◌∷◌, ◌++◌, ap, sym, option_map}
use Rattle.aprs_summary.specs.NamedRows.{report_in, reports_by}
use Rattle.aprs_summary.proofs.lists.named_walk.next_report.Goals as goal

pub returns-in-Some-known : goal.returns-in-Some-known
returns-in-Some-known g c = λ is_item.
    let reports = reports_by (λ k. k.items) is_item in
    sym (c.loop-name.invariant is_item) ∙ ap reports c.in-Some.ensures.steps
    ∙ ap (λ k. report_in is_item c.in-Some.name.now.items (option_map (λ x. x) k)
    ++ reports c.next.new.self) c.in-Some-known.is
    ∙ ap (λ n. (record { is_item = is_item; name = n }, c.in-Some-known.x)
    ∷ reports c.next.new.self) (sym c.as_slice.ensures.value)

pub returns : goal.returns
returns g c = λ is_item.
    let reports = reports_by (λ k. k.items) is_item in (
      sym (c.loop-name.invariant is_item) ∙ ap reports c.in_default.ensures.steps.0,
      ap reports c.in_default.ensures.steps.1,
    )
