use Rattle.aprs_fold.proofs.Common.{false, List, Row, ap, refl, subst, millis_of}
use Rattle.aprs_fold.specs.Known.{TakesNew}
use Rattle.aprs_fold.specs.LastRow.{last_row, row_taken_at, taken_or}
use Rattle.aprs_fold.proofs.InErr.{in_err}
use Rattle.aprs_fold.proofs.LastRows.{joined_after, none_of, one_of}
use Rattle.aprs_fold.proofs.PuttingNew.{fails_first, fails_last, takes_closed, takes_joined}
use Rattle.aprs_fold.proofs.taking_new.take_new.Goals as goal

pub returns-in_err-join-clause-fails : goal.returns-in_err-join-clause-fails
returns-in_err-join-clause-fails g c =
    in_err _ _ c.from_residual.ensures.1
    (fails_first g.W.Write.contents c.args.range.now (row_taken_at c.args.streams.now 0)
    (millis_of c.args.gap) c.args.out.now c.args.out.now
    (last_row c.args.last.now c.args.streams.now) (last_row c.args.last.now c.args.streams.now)
    c.args.next.now _ refl)

pub returns-then-branch-clause-takes : goal.returns-then-branch-clause-takes
returns-then-branch-clause-takes g c =
    subst (λ (after : List Row). TakesNew g.W.Write.contents c.args.range.now false
    (millis_of c.args.gap) (row_taken_at c.args.streams.now 0) c.args.out.now c.args.out.now
    (last_row c.args.last.now c.args.streams.now) c.args.next.now after)
    (joined_after c.join.new.self.stream c.join.new.self.joined c.args.next.now
    c.args.streams.now (c.in_ok-join.ensures.joined c.if-branch.true))
    (takes_joined g.W.Write.contents c.args.range.now (row_taken_at c.args.streams.now 0)
    (millis_of c.args.gap) c.args.out.now c.args.out.now
    (last_row c.args.last.now c.args.streams.now) (last_row c.join.new.self c.args.streams.now)
    c.args.next.now c.in_ok-join.field-0 c.if-branch.true c.in_ok-join.ensures.joins)

pub returns-then-branch-clause-lends : goal.returns-then-branch-clause-lends
returns-then-branch-clause-lends g c =
    none_of c.args.index c.join.new.self.stream (c.in_ok-join.ensures.joined c.if-branch.true)

pub returns-in_err-wrote-clause-fails : goal.returns-in_err-wrote-clause-fails
returns-in_err-wrote-clause-fails g c =
    in_err _ _ c.from_residual-in_err-wrote.ensures.1
    (fails_last g.W.Write.contents c.args.range.now (row_taken_at c.args.streams.now 0)
    (millis_of c.args.gap) c.args.out.now c.put_open_new.new.out
    (last_row c.args.last.now c.args.streams.now) (last_row c.join.new.self c.args.streams.now)
    c.args.next.now c.in_ok-join.field-0 c.if-branch.false c.in_ok-join.ensures.joins _
    c.in_err-wrote.ensures.fails)

pub returns-clause-takes : goal.returns-clause-takes
returns-clause-takes g c =
    takes_closed g.W.Write.contents c.args.range.now (row_taken_at c.args.streams.now 0)
    (millis_of c.args.gap) c.args.out.now c.put_open_new.new.out
    (last_row c.args.last.now c.args.streams.now) (last_row c.join.new.self c.args.streams.now)
    c.args.next.now c.in_ok-join.field-0 c.if-branch.false c.in_ok-join.ensures.joins
    c.in_ok-wrote.wrote c.in_ok-wrote.ensures.puts _
    (ap (λ s. taken_or s c.take.new.self.joined c.args.next.now) c.take.ensures)

pub returns-clause-lends : goal.returns-clause-lends
returns-clause-lends g c = one_of c.args.index c.take.new.self.stream c.take.ensures
