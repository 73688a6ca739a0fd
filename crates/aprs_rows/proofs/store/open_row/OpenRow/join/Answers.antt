use Rattle.aprs_rows.proofs.Common.{◌∙◌, inr, refl, sym, millis_of}
use Rattle.aprs_rows.proofs.OpenRows.{alone_in, only_one, tested}
use Rattle.aprs_rows.proofs.store.open_row.OpenRow.join.Goals as goal

pub returns-then-not-are_near : goal.returns-then-not-are_near
returns-then-not-are_near g c = (
  refl,
  inr (
    c.in-Some.own,
    sym c.self.view_is ∙ only_one c.self.inside.row c.in-Some.own c.self.invariant c.in-Some.ensures.some,
    sym (tested c.are_near.result (millis_of c.args.gap) c.first.result c.in-Some.own c.args.next.now
        c.are_near.ensures c.first.ensures)
        ∙ c.if-not-are_near.true,
  ),
)

pub join_into-requires-clause-sound : goal.join_into-requires-clause-sound
join_into-requires-clause-sound g c = (
  c.sound.ensures.sound c.in-Some.own (alone_in c.self.inside.row c.in-Some.own
      (only_one c.self.inside.row c.in-Some.own c.self.invariant c.in-Some.ensures.some)),
  c.requires.sound,
)

pub join_into-requires-clause-short : goal.join_into-requires-clause-short
join_into-requires-clause-short g c = (
  c.sound.ensures.short c.in-Some.own (alone_in c.self.inside.row c.in-Some.own
      (only_one c.self.inside.row c.in-Some.own c.self.invariant c.in-Some.ensures.some)),
  c.requires.short,
)

pub join_into-requires-clause-near : goal.join_into-requires-clause-near
join_into-requires-clause-near g c =
    sym (tested c.are_near.result (millis_of c.args.gap) c.first.result c.in-Some.own c.args.next.now
    c.are_near.ensures c.first.ensures)
    ∙ c.if-not-are_near.false

pub returns : goal.returns
returns g c = (
  c.in-Some.own,
  sym c.self.view_is ∙ only_one c.self.inside.row c.in-Some.own c.self.invariant c.in-Some.ensures.some,
  sym (tested c.are_near.result (millis_of c.args.gap) c.first.result c.in-Some.own c.args.next.now
      c.are_near.ensures c.first.ensures)
      ∙ c.if-not-are_near.false,
  c.swap.ensures.x_after ∙ c.in_ok-join_into.ensures,
)
