use Rattle.aprs_bookfile.proofs.Accepting.{answer_accepts, answer_seconds}
use Rattle.aprs_bookfile.proofs.read.read_rows.Goals as goal

pub returns-clause-accepts : goal.returns-clause-accepts
returns-clause-accepts g c = answer_accepts _ c.args.limit c.args.head.now _ _ _ c.requires.limit
    c.rows_of_text.ensures.answer

pub returns-clause-seconds : goal.returns-clause-seconds
returns-clause-seconds g c = answer_seconds _ c.args.limit c.args.head.now _ _ _ c.requires.limit
    c.rows_of_text.ensures.answer
