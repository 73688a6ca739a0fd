use Rattle.aprs_runs.proofs.Common.{◌∙◌, ap, sym, subst, got_so, IsGap}
use Rattle.aprs_runs.proofs.Into.{other_rows}
use Rattle.aprs_runs.proofs.RowsTold.{takes_rows}
use Rattle.aprs_runs.proofs.Widens.{differing_gap, same_gap}
use Rattle.aprs_runs.proofs.input.read_into.Goals as goal

pub returns-clause-reads : goal.returns-clause-reads
returns-clause-reads g c =
    let gap = c.gap-gap.ensures.value ∙ ap (λ b. b.gap) c.gathered.view_is in
    got_so _ _ c.args.limit (λ input. input) _ _
    (λ t e h. takes_rows c.in_ok-own.own c.args.gathered.now c.read_input_rows.new.gathered t e
    (subst IsGap (ap (λ b. b.gap) c.gathered.view_is) c.gap-gap.ensures.sound.range)
    (same_gap c.in_ok-own.own c.gap-gap.result c.if-ne.ensures ∙ gap) h)
    c.in_ok-own.ensures.reads

pub returns-then-ne-clause-reads : goal.returns-then-ne-clause-reads
returns-then-ne-clause-reads g c =
    let gap = c.gap-gap.ensures.value ∙ ap (λ b. b.gap) c.gathered.view_is in
    let now = c.args.gathered.now in
    let differs = differing_gap c.in_ok-own.own c.gap-gap.result c.if-ne.ensures in
    got_so _ _ c.args.limit (λ input. input) _ _
    (λ t e h. other_rows now.gap c.in_ok-own.own now c.read_input_rows.new.gathered t e
    (λ same. differs (same ∙ sym gap)) h)
    c.in_ok-own.ensures.reads
