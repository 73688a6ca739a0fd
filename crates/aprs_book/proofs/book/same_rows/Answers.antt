use Rattle.aprs_book.proofs.Views.{both_at_end, both_go_on, both_part}
use Rattle.aprs_book.proofs.book.same_rows.Goals as goal

pub returns : goal.returns
returns g c =
    both_at_end _ _ c.loop-row.row-iterator c.loop-row.theirs c.next-2.new.self c.next-2.result
    c.is_none.result c.loop-row.invariant c.in-None.ensures.steps.0 c.next-2.ensures.steps
    c.is_none.ensures

pub loop-row-preserved : goal.loop-row-preserved
loop-row-preserved g c =
    both_go_on _ _ c.in-Some.row.now c.in-Some-next.other.now c.next.new.self
    c.next-in-loop-row.new.self c.equals.result c.loop-row.invariant c.in-Some.ensures.steps
    c.in-Some-next.ensures.steps c.equals.ensures c.if-equals.true

pub returns-in_default : goal.returns-in_default
returns-in_default g c =
    both_part _ _ c.in-Some.row.now c.in-Some-next.other.now c.next.new.self
    c.next-in-loop-row.new.self c.equals.result c.loop-row.invariant c.in-Some.ensures.steps
    c.in-Some-next.ensures.steps c.equals.ensures c.if-equals.false
