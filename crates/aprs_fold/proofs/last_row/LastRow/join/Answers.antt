use Rattle.aprs_fold.proofs.Common.{Bool, cond, subst, millis_of, None}
use Rattle.aprs_rows.specs.OpenRow.{JoinsOrNot}
use Rattle.aprs_fold.specs.LastRow.{lent_or}
use Rattle.aprs_fold.proofs.LastRows.{joins_lent}
use Rattle.aprs_fold.proofs.last_row.LastRow.join.Goals as goal

pub returns-then-is_near-clause-joins : goal.returns-then-is_near-clause-joins
returns-then-is_near-clause-joins g c =
    subst (λ (b : Bool). JoinsOrNot c.in_ok-is_near.is_near (millis_of c.args.gap)
    (lent_or c.args.self.now.stream c.args.self.now.joined c.args.streams.now) c.args.next.now
    (lent_or (cond b None c.args.self.now.stream) c.put_joined.new.self c.args.streams.now))
    c.if-is_near.true
    (joins_lent c.in_ok-is_near.is_near (millis_of c.args.gap) c.in-Some.index
    c.args.self.now.stream c.args.self.now.joined c.put_joined.new.self c.in-Some-row_taken.own
    c.row.result.now c.args.next.now c.args.streams.now c.in-Some.is
    c.in-Some-row_taken.ensures.value c.row.ensures c.in_ok-is_near.ensures)

pub returns-else-is_near-clause-joins : goal.returns-else-is_near-clause-joins
returns-else-is_near-clause-joins g c =
    subst (λ (b : Bool). JoinsOrNot c.in_ok-is_near.is_near (millis_of c.args.gap)
    (lent_or c.args.self.now.stream c.args.self.now.joined c.args.streams.now) c.args.next.now
    (lent_or (cond b None c.args.self.now.stream) c.put_joined.new.self c.args.streams.now))
    c.if-is_near.false
    (joins_lent c.in_ok-is_near.is_near (millis_of c.args.gap) c.in-Some.index
    c.args.self.now.stream c.args.self.now.joined c.put_joined.new.self c.in-Some-row_taken.own
    c.row.result.now c.args.next.now c.args.streams.now c.in-Some.is
    c.in-Some-row_taken.ensures.value c.row.ensures c.in_ok-is_near.ensures)
