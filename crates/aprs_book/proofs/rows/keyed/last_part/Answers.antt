use Rattle.aprs_book.proofs.Common.{◌∙◌, sym, eqb-true, arith}
use Rattle.aprs_book.proofs.RefusalEnds.{front_is_end, back_is_end}
use Rattle.aprs_book.proofs.rows.keyed.last_part.Goals as goal

pub returns-then-is_empty : goal.returns-then-is_empty
returns-then-is_empty g c =
    front_is_end _ _ _ c.as_slices.ensures.items
    (eqb-true _ _ (sym c.is_empty.ensures ∙ c.if-is_empty.true))

pub returns : goal.returns
returns g c =
    back_is_end _ _ _ c.as_slices.ensures.items
    (grind (arith, c.is_empty.ensures, c.if-is_empty.false))
