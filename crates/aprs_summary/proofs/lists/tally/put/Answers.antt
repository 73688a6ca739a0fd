use Rattle.aprs_summary.proofs.Common.{◌∙◌, Option, ap, sym}
use Rattle.aprs_summary.specs.StationRows.{with_last}
use Rattle.aprs_summary.specs.declared.lists.tally.Tally.{Tally}
use Rattle.aprs_summary.proofs.Stations.{put_again}
use Rattle.aprs_summary.proofs.lists.tally.put.Goals as goal

pub returns-in_ok-insert : goal.returns-in_ok-insert
returns-in_ok-insert g c =
    put_again c.args.map.now.entries c.insert.new.self.entries c.insert-in-Some-2.new.self.entries
    c.in-Some.field-0.station c.copy-again.result c.in-Some-2.before c.in-Some.field-0.rows c.copy-again.ensures
    (sym c.in-Some-2.is ∙ c.in_ok-before.ensures.old) c.in_ok-before.ensures.entries
    c.in_ok-insert.ensures.entries
    ∙ ap (λ (o : Option Tally). with_last o c.args.map.now.entries) (sym c.in-Some.is)
