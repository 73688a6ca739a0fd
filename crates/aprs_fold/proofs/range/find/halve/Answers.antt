use Rattle.std.proofs.Common.{true, subst}
use Rattle.aprs_fold.specs.Lines.{IsJudged}
use Rattle.aprs_fold.proofs.Rows.{low_next}
use Rattle.aprs_fold.proofs.range.find.halve.Goals as goal

pub returns-then-branch-clause-low : goal.returns-then-branch-clause-low
returns-then-branch-clause-low g c bytes known start low =
    let reads = c.in_ok-next.ensures.reads bytes known in
    low_next c.args.before.now bytes start c.args.bounds.low reads.0 c.in_ok-next.next
    c.read_first_line.new.line.items low reads.1 reads.2
    (subst (λ l. IsJudged c.args.before.now l true) c.as_slice.ensures.value
    (subst (IsJudged c.args.before.now c.as_slice.result.now) c.if-branch.true
    c.in_ok-is_before.ensures))
