use Rattle.aprs_rows.specs.Fronts.{front_at}
use Rattle.aprs_rows.proofs.Fronts.{not_after_of, NotAfter-itself}
use Rattle.aprs_rows.proofs.store.tournament.earlier.Goals as goal

pub returns-then-is_before-clause-one : goal.returns-then-is_before-clause-one
returns-then-is_before-clause-one g c =
    not_after_of g.T.HasFront.front c.args.streams.now c.args.other c.args.one
    c.index-streams-other.result c.index-streams-one.result c.requires.other
    c.index-streams-other.is c.requires.one c.index-streams-one.is
    (c.is_before.ensures.before c.if-is_before.true)

pub returns-then-is_before-clause-other : goal.returns-then-is_before-clause-other
returns-then-is_before-clause-other g c =
    NotAfter-itself (front_at g.T.HasFront.front c.args.streams.now c.args.other)

pub returns-else-is_before-clause-one : goal.returns-else-is_before-clause-one
returns-else-is_before-clause-one g c =
    NotAfter-itself (front_at g.T.HasFront.front c.args.streams.now c.args.one)

pub returns-else-is_before-clause-other : goal.returns-else-is_before-clause-other
returns-else-is_before-clause-other g c =
    not_after_of g.T.HasFront.front c.args.streams.now c.args.one c.args.other
    c.index-streams-one.result c.index-streams-other.result c.requires.one
    c.index-streams-one.is c.requires.other c.index-streams-other.is
    (c.is_before.ensures.after c.if-is_before.false)
