use Rattle.aprs_bookfile.proofs.Common.{◌∙◌, ◌++◌, ◌∷◌, [], ap, arith, Millis, Puts-fails, Puts-is, Puts-then}
use Rattle.aprs_bookfile.specs.Text.{row_line}
use Rattle.aprs_bookfile.proofs.KeptLines.{line_kept}
use Rattle.aprs_bookfile.proofs.lent_row.LentRow.put.Goals as goal

pub returns-in_err-put-clause-puts : goal.returns-in_err-put-clause-puts
returns-in_err-put-clause-puts g c =
    let own = line_kept c.self.inside.line.now c.self.inside.row c.self.invariant
    (grind (arith, c.is_empty.ensures, c.if-is_empty.false))
    ∙ ap (row_line Millis) c.self.view_is in
    Puts-is (Puts-fails _ c.from_residual.ensures.0 c.in_err-put.ensures (10 ∷ []))
    (ap (λ l. l ++ 10 ∷ []) own)

pub returns-clause-puts : goal.returns-clause-puts
returns-clause-puts g c =
    let own = line_kept c.self.inside.line.now c.self.inside.row c.self.invariant
    (grind (arith, c.is_empty.ensures, c.if-is_empty.false))
    ∙ ap (row_line Millis) c.self.view_is in
    Puts-is (Puts-then c.in_ok-put.ensures c.put-2.ensures) (ap (λ l. l ++ 10 ∷ []) own)
