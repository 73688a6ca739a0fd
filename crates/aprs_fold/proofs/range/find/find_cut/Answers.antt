use Rattle.std.proofs.Common.{◌∙◌, false, subst}
use Rattle.aprs_fold.specs.Lines.{IsJudged}
use Rattle.aprs_fold.proofs.Rows.{cuts}
use Rattle.aprs_fold.proofs.range.find.find_cut.Goals as goal

pub returns-clause-finds : goal.returns-clause-finds
returns-clause-finds g c bytes known =
    cuts c.args.before.now bytes c.args.start c.in_ok-low.low c.read_line.new.line.items
    (c.in_ok-low.ensures.low bytes known)
    (c.in_ok-read_line.ensures.reads bytes (c.bisect.ensures.stays ∙ known)).0
    (subst (λ l. IsJudged c.args.before.now l false) c.as_slice.ensures.value
    (subst (IsJudged c.args.before.now c.as_slice.result.now) c.if-branch.false
    c.in_ok-is_before.ensures))
