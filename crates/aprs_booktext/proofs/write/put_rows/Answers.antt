use Rattle.aprs_bookfile.proofs.Written.{PutSoFar-all, PutSoFar-broken, PutSoFar-each, PutSoFar-more, PutSoFar-none, book_rows}
use Rattle.aprs_booktext.proofs.write.put_rows.Goals as goal

pub loop-row-init : goal.loop-row-init
loop-row-init g c =
    rw (c.into_iter-row-iterator.ensures.into_iter_gives, c.rows-row-items.ensures.rows)
    (PutSoFar-none _ _)

pub returns-in_err-put_book_row-clause-puts : goal.returns-in_err-put_book_row-clause-puts
returns-in_err-put_book_row-clause-puts g c =
    PutSoFar-broken c.loop-row.invariant _ _ c.in-Some.ensures.steps _ c.from_residual.ensures.0
    c.in_err-put_book_row.ensures.puts

pub loop-row-preserved : goal.loop-row-preserved
loop-row-preserved g c =
    PutSoFar-more c.loop-row.invariant _ _ c.in-Some.ensures.steps _
    c.rows-row-items.ensures.sound.sound c.in_ok-put_book_row.ensures.puts
    c.in_ok-put_book_row.ensures.spelled

pub returns-clause-puts : goal.returns-clause-puts
returns-clause-puts g c = PutSoFar-all c.loop-row.invariant c.in-None.ensures.steps.0

pub returns-clause-spelled : goal.returns-clause-spelled
returns-clause-spelled g c =
    book_rows c.args.book.now c.rows-row-items.ensures.sound
    (PutSoFar-each c.loop-row.invariant c.in-None.ensures.steps.0)
