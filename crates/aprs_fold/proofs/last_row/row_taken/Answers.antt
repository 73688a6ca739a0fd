use Rattle.aprs_fold.proofs.Common.{◌∙◌, arith, sym}
use Rattle.aprs_fold.proofs.LastRows.{listed, taken_none, taken_some}
use Rattle.aprs_fold.proofs.last_row.row_taken.Goals as goal

pub returns-then-index-streams-clause-value : goal.returns-then-index-streams-clause-value
returns-then-index-streams-clause-value g c =
    sym (taken_none c.args.streams.now c.args.index (omega (arith, c.if-index-streams.true)))

pub returns-clause-value : goal.returns-clause-value
returns-clause-value g c =
    listed c.taken.result _ c.taken.ensures.some c.taken.ensures.none
    ∙ sym (taken_some c.args.streams.now c.args.index c.index-streams-index.result
    (omega (arith, c.if-index-streams.false)) c.index-streams-index.is)
