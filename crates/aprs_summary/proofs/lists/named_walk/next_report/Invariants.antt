use Rattle.aprs_summary.proofs.Common.{◌≡◌, Bool, length}
use Rattle.aprs_summary.specs.NamedRows.{reports_by}
use Rattle.aprs_summary.proofs.lists.named_walk.next_report.Given as goal

abbrev pub invariant-loop-name : goal.invariant-loop-name
invariant-loop-name g l = (is_item : Bool) → reports_by (λ k. k.items) is_item l.entries
    ≡ reports_by (λ k. k.items) is_item l.initial.entries

abbrev pub decreases-loop-name : goal.decreases-loop-name
decreases-loop-name g l = length l.entries
