use Rattle.aprs_bookfile.proofs.Accepting.{answer_accepts, answer_seconds}
use Rattle.aprs_booktext.proofs.read.read_book.Goals as goal

pub returns-clause-accepts : goal.returns-clause-accepts
returns-clause-accepts g c = answer_accepts _ c.args.limit c.args.head.now _ _ _ c.requires.limit
    c.book_of_text.ensures

pub returns-clause-seconds : goal.returns-clause-seconds
returns-clause-seconds g c = answer_seconds _ c.args.limit c.args.head.now _ _ _ c.requires.limit
    c.book_of_text.ensures
