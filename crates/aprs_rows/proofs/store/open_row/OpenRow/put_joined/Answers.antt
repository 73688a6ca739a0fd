use Rattle.aprs_rows.proofs.Common.{◌≡◌, ◌∙◌, [], ◌∷◌, true, ap, combine, is_eq, compare_near, refl, sym, subst, millis_of, Row, IsSoundRow}
use Rattle.aprs_rows.specs.Packed.{IsShort}
use Rattle.aprs_rows.proofs.OpenRows.{tested}
use Rattle.aprs_rows.proofs.store.open_row.OpenRow.put_joined.Goals as goal

pub returns-then-not-are_near : goal.returns-then-not-are_near
returns-then-not-are_near g c = (
  sym (tested c.are_near.result (millis_of c.args.gap) c.first.result c.args.own.now c.args.next.now
      c.are_near.ensures c.first.ensures)
      ∙ c.if-not-are_near.true,
  refl,
)

pub join_into-requires-clause-sound : goal.join_into-requires-clause-sound
join_into-requires-clause-sound g c =
    (subst IsSoundRow (sym c.copy.ensures) c.requires.sound.0, c.requires.sound.1)

pub join_into-requires-clause-short : goal.join_into-requires-clause-short
join_into-requires-clause-short g c =
    (subst IsShort (sym c.copy.ensures) c.requires.short.0, c.requires.short.1)

pub join_into-requires-clause-near : goal.join_into-requires-clause-near
join_into-requires-clause-near g c =
    subst (λ (x : Row). is_eq (compare_near (millis_of c.args.gap) x c.args.next.now) ≡ true)
    (sym c.copy.ensures)
    (sym (tested c.are_near.result (millis_of c.args.gap) c.first.result c.args.own.now c.args.next.now
    c.are_near.ensures c.first.ensures)
    ∙ c.if-not-are_near.false)

pub returns : goal.returns
returns g c = (
  sym (tested c.are_near.result (millis_of c.args.gap) c.first.result c.args.own.now c.args.next.now
      c.are_near.ensures c.first.ensures)
      ∙ c.if-not-are_near.false,
  c.swap.ensures.x_after ∙ c.in_ok-join_into.ensures
      ∙ ap (λ (x : Row). combine x c.args.next.now ∷ []) c.copy.ensures,
)
