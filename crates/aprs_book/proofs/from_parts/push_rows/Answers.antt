use Rattle.aprs_book.proofs.Common.{Err, subst, millis_of, refusal, Answers}
use Rattle.aprs_book.proofs.RowsFaults.{fault_of_push, faultless}
use Rattle.aprs_book.proofs.from_parts.push_rows.Goals as goal

pub returns-in-Err-clause-fault : goal.returns-in-Err-clause-fault
returns-in-Err-clause-fault g c =
    fault_of_push (millis_of c.args.book.now.gap) c.args.rows.now c.loop-place.book.rows
    c.loop-place.place c.index-rows-place.result c.in-Err.cause c.loop-place-test.true
    c.index-rows-place.is c.loop-place.invariant.1 c.loop-place.invariant.2
    (subst (λ k. Answers {U = Unit {0}} (refusal
    (millis_of k) c.loop-place.book.rows c.index-rows-place.result) (Err c.in-Err.cause))
    c.loop-place.invariant.0 c.in-Err.ensures.cause)

pub returns-in-Err-clause-memory : goal.returns-in-Err-clause-memory
returns-in-Err-clause-memory g c = λ s.
    faultless (millis_of c.args.book.now.gap) c.args.rows.now _ s (returns-in-Err-clause-fault g c)
