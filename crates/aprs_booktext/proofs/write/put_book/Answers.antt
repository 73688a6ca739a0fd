use Rattle.aprs_booktext.proofs.Common.{refl, sym, Puts-fails, Puts-is, Puts-then}
use Rattle.aprs_bookfile.proofs.TextParts.{text_parts}
use Rattle.aprs_booktext.proofs.write.put_book.Goals as goal

pub returns-in_err-put-clause-puts : goal.returns-in_err-put-clause-puts
returns-in_err-put-clause-puts g c =
    let whole = text_parts c.args.book.now _ _ c.gap.ensures (cc) _ _ refl refl in
    Puts-is (Puts-fails _ c.from_residual.ensures.0 c.in_err-put.ensures _) (sym whole)

pub returns-in_err-put_rows-clause-puts : goal.returns-in_err-put_rows-clause-puts
returns-in_err-put_rows-clause-puts g c =
    let whole = text_parts c.args.book.now _ _ c.gap.ensures (cc) _ _ refl refl in
    Puts-is (Puts-then c.in_ok-put.ensures (Puts-fails _ c.from_residual-in_err-put_rows.ensures.0
    c.in_err-put_rows.ensures.puts _)) (sym whole)

pub returns-clause-puts : goal.returns-clause-puts
returns-clause-puts g c =
    let whole = text_parts c.args.book.now _ _ c.gap.ensures (cc) _ _ c.len.ensures (cc) in
    Puts-is (Puts-then c.in_ok-put.ensures (Puts-then c.in_ok-put_rows.ensures.puts
    c.put-2.ensures)) (sym whole)
