use Rattle.aprs_summary.proofs.Common.{◌≡◌, ◌++◌, map}
use Rattle.aprs_summary.specs.Known.{plain_entries}
use Rattle.aprs_summary.specs.Names.{shown_report}
use Rattle.aprs_summary.specs.NamedRows.{reports_in}
use Rattle.aprs_summary.proofs.lists.named.push_reports.Given as goal

abbrev pub invariant-loop-name : goal.invariant-loop-name
invariant-loop-name g l =
    map shown_report l.list.items
    ++ reports_in l.is_item (plain_entries (λ k. k.items) (λ x. x) l.name-iterator)
    ≡ map shown_report l.initial.list.items ++ reports_in l.is_item l.known
