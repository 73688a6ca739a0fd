use Rattle.aprs_summary.proofs.Common.{◌∙◌, ◌++◌, true, false, map, ap, subst, Ordered}
use Rattle.aprs_summary.specs.Known.{IsEntryBefore}
use Rattle.aprs_summary.specs.Names.{shown_report}
use Rattle.aprs_summary.specs.NamedRows.{reports_in}
use Rattle.aprs_summary.proofs.Things.{named_of_indexes}
use Rattle.aprs_summary.proofs.lists.named.objects_of.Goals as goal

pub returns : goal.returns
returns g c = λ gap rows h.
    named_of_indexes gap rows c.args.indexes.now h
    (subst (Ordered IsEntryBefore) c.objects.ensures c.in_ok-push_reports.ensures.ascending)
    (subst (Ordered IsEntryBefore) c.items.ensures c.in_ok-push_reports-2.ensures.ascending)
    c.push_reports-2.new.list.items
    (c.in_ok-push_reports-2.ensures.reports
    ∙ ap (λ l. l ++ reports_in true c.items.result.now) (c.in_ok-push_reports.ensures.reports
    ∙ ap (λ l. map shown_report l ++ reports_in false c.objects.result.now) c.new-list.ensures.items)
    ∙ ap (λ es. reports_in false es ++ reports_in true c.items.result.now) c.objects.ensures
    ∙ ap (λ es. reports_in false c.args.indexes.now.objects ++ reports_in true es) c.items.ensures)
