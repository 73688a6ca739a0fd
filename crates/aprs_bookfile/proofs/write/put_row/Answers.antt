use Rattle.aprs_bookfile.proofs.Common.{refl, sym, Puts-fails, Puts-is, Puts-then}
use Rattle.aprs_bookfile.proofs.TextParts.{row_parts}
use Rattle.aprs_bookfile.proofs.write.put_row.Goals as goal

pub returns-in_err-put-clause-puts : goal.returns-in_err-put-clause-puts
returns-in_err-put-clause-puts g c =
    let whole = row_parts c.args.row.now c.row_start.result _ (cc) refl in
    Puts-is (Puts-fails _ c.from_residual.ensures.0 c.in_err-put.ensures _) (sym whole)

pub returns-in_err-put-2-clause-puts : goal.returns-in_err-put-2-clause-puts
returns-in_err-put-2-clause-puts g c =
    let whole = row_parts c.args.row.now c.row_start.result _ (cc) refl in
    Puts-is (Puts-then c.in_ok-put.ensures (Puts-fails _ c.from_residual-in_err-put-2.ensures.0
    (rw c.receivers.ensures.text at c.in_err-put-2.ensures) _)) (sym whole)

pub returns-clause-puts : goal.returns-clause-puts
returns-clause-puts g c =
    let whole = row_parts c.args.row.now c.row_start.result c.row_tail.result.now (cc) (cc) in
    Puts-is (Puts-then c.in_ok-put.ensures (Puts-then
    (rw c.receivers.ensures.text at c.in_ok-put-2.ensures) c.put-3.ensures)) (sym whole)
