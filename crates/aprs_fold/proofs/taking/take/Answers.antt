use Rattle.aprs_fold.proofs.Common.{false, List, Row, ap, subst, millis_of}
use Rattle.aprs_fold.specs.LastRow.{last_row, taken_or}
use Rattle.aprs_fold.specs.Taking.{Takes}
use Rattle.aprs_fold.proofs.InErr.{in_err}
use Rattle.aprs_fold.proofs.LastRows.{joined_after, none_of, one_of}
use Rattle.aprs_fold.proofs.Puttings.{HasPut-none, put_fails, takes_closed, takes_joined}
use Rattle.aprs_fold.proofs.taking.take.Goals as goal

pub returns-then-branch-clause-takes : goal.returns-then-branch-clause-takes
returns-then-branch-clause-takes g c =
    subst (λ (after : List Row). Takes g.W.Write.contents c.args.range.now false
    (millis_of c.args.gap) c.args.out.now c.args.out.now
    (last_row c.args.last.now c.args.streams.now) c.args.next.now after)
    (joined_after c.join.new.self.stream c.join.new.self.joined c.args.next.now
    c.args.streams.now (c.in_ok-join.ensures.joined c.if-branch.true))
    (takes_joined g.W.Write.contents c.args.range.now (millis_of c.args.gap) c.args.out.now
    c.args.out.now (last_row c.args.last.now c.args.streams.now)
    (last_row c.join.new.self c.args.streams.now) c.args.next.now c.in_ok-join.field-0
    c.if-branch.true c.in_ok-join.ensures.joins)

pub returns-then-branch-clause-lends : goal.returns-then-branch-clause-lends
returns-then-branch-clause-lends g c =
    none_of c.args.index c.join.new.self.stream (c.in_ok-join.ensures.joined c.if-branch.true)

pub returns-in_err-join-clause-fails : goal.returns-in_err-join-clause-fails
returns-in_err-join-clause-fails g c =
    in_err _ _ c.from_residual.ensures.1 (false, HasPut-none c.args.out.now, tt)

pub returns-in_err-wrote-clause-fails : goal.returns-in_err-wrote-clause-fails
returns-in_err-wrote-clause-fails g c =
    in_err _ _ c.from_residual-in_err-wrote.ensures.1
    (put_fails g.W.Write.contents c.args.range.now (millis_of c.args.gap)
    c.args.out.now c.put_last.new.out (last_row c.args.last.now c.args.streams.now)
    (last_row c.join.new.self c.args.streams.now) c.args.next.now _
    c.in_ok-join.field-0 c.if-branch.false c.in_ok-join.ensures.joins
    (rw c.row.ensures at c.in_err-wrote.ensures.fails))

pub returns-clause-takes : goal.returns-clause-takes
returns-clause-takes g c =
    takes_closed g.W.Write.contents c.args.range.now (millis_of c.args.gap) c.args.out.now
    c.put_last.new.out (last_row c.args.last.now c.args.streams.now)
    (last_row c.join.new.self c.args.streams.now) c.args.next.now c.in_ok-join.field-0
    c.if-branch.false c.in_ok-join.ensures.joins (rw c.row.ensures at c.in_ok-wrote.ensures.puts)
    c.in_ok-wrote.wrote (rw c.row.ensures at c.in_ok-wrote.ensures.wrote) _
    (ap (λ s. taken_or s c.take.new.self.joined c.args.next.now) c.take.ensures)

pub returns-clause-lends : goal.returns-clause-lends
returns-clause-lends g c = one_of c.args.index c.take.new.self.stream c.take.ensures
