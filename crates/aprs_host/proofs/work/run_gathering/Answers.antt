use Rattle.aprs_host.proofs.Common.{subst, sym}
use Rattle.aprs_io.specs.Input.{most_input}
use Rattle.aprs_runs.specs.Outcome.{IsToldOf, WritesFor}
use Rattle.aprs_runs.specs.Several.{GiveUnion, OfEach}
use Rattle.aprs_host.specs.Work.{AsksAll, IsOutputOf}
use Rattle.aprs_host.specs.declared.work.Gathering.{Gathering}
use Rattle.aprs_host.proofs.work.run_gathering.Goals as goal

pub returns-in-Merge-clause-writes : goal.returns-in-Merge-clause-writes
returns-in-Merge-clause-writes g c =
    subst (λ (of : Gathering). OfEach most_input g.R.Read.remaining c.args.inputs.now
    c.merge_run.new.inputs (λ gots. WritesFor (IsToldOf (GiveUnion c.args.gap gots)
    (IsOutputOf of c.args.gap)) g.W.Write.contents c.merge_run.result c.args.w.now
    c.merge_run.new.w)) (sym c.in-Merge.is) c.merge_run.ensures.writes

pub returns-in-Show-clause-writes : goal.returns-in-Show-clause-writes
returns-in-Show-clause-writes g c =
    subst (λ (of : Gathering). OfEach most_input g.R.Read.remaining c.args.inputs.now
    c.show_run.new.inputs (λ gots. WritesFor (IsToldOf (GiveUnion c.args.gap gots)
    (IsOutputOf of c.args.gap)) g.W.Write.contents c.show_run.result c.args.w.now
    c.show_run.new.w)) (sym c.in-Show.is) c.show_run.ensures.writes

pub returns-in-History-clause-writes : goal.returns-in-History-clause-writes
returns-in-History-clause-writes g c =
    subst (λ (of : Gathering). OfEach most_input g.R.Read.remaining c.args.inputs.now
    c.history_run.new.inputs (λ gots. WritesFor (IsToldOf (GiveUnion c.args.gap gots)
    (IsOutputOf of c.args.gap)) g.W.Write.contents c.history_run.result c.args.w.now
    c.history_run.new.w)) (sym c.in-History.is) c.history_run.ensures.writes

pub returns-in-Merge-clause-asks : goal.returns-in-Merge-clause-asks
returns-in-Merge-clause-asks g c =
    subst (λ (of : Gathering). AsksAll of c.merge_run.result c.args.inputs.now c.merge_run.new.inputs)
    (sym c.in-Merge.is) c.merge_run.ensures.asks

pub returns-in-Show-clause-asks : goal.returns-in-Show-clause-asks
returns-in-Show-clause-asks g c =
    subst (λ (of : Gathering). AsksAll of c.show_run.result c.args.inputs.now c.show_run.new.inputs)
    (sym c.in-Show.is) c.show_run.ensures.asks

pub returns-in-History-clause-asks : goal.returns-in-History-clause-asks
returns-in-History-clause-asks g c =
    subst (λ (of : Gathering). AsksAll of c.history_run.result c.args.inputs.now c.history_run.new.inputs)
    (sym c.in-History.is) c.history_run.ensures.asks

pub returns-in-Table-clause-writes : goal.returns-in-Table-clause-writes
returns-in-Table-clause-writes g c =
    subst (λ (of : Gathering). OfEach most_input g.R.Read.remaining c.args.inputs.now
    c.table_run.new.inputs (λ gots. WritesFor (IsToldOf (GiveUnion c.args.gap gots)
    (IsOutputOf of c.args.gap)) g.W.Write.contents c.table_run.result c.args.w.now
    c.table_run.new.w)) (sym c.in-Table.is) c.table_run.ensures.writes

pub returns-in-Table-clause-asks : goal.returns-in-Table-clause-asks
returns-in-Table-clause-asks g c =
    subst (λ (of : Gathering). AsksAll of c.table_run.result c.args.inputs.now c.table_run.new.inputs)
    (sym c.in-Table.is) c.table_run.ensures.asks
