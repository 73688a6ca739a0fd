use Rattle.aprs_booktext.proofs.Common.{refl, sym, Puts-fails, Puts-is, Puts-then}
use Rattle.aprs_bookfile.proofs.TextParts.{told_parts}
use Rattle.aprs_booktext.proofs.write.put_book_row.Goals as goal

pub returns-in_err-put-clause-puts : goal.returns-in_err-put-clause-puts
returns-in_err-put-clause-puts g c =
    let i = c.row.inside in
    let whole = told_parts c.args.row.now i.first i.last i.receivers.now i.receiver.now i.frame.now
    c.row.view_is c.row_start.result _ c.row_start.ensures.text refl in
    Puts-is (Puts-fails _ c.from_residual.ensures.0 c.in_err-put.ensures _) (sym whole)

pub returns-in_err-put_names-clause-puts : goal.returns-in_err-put_names-clause-puts
returns-in_err-put_names-clause-puts g c =
    let i = c.row.inside in
    let whole = told_parts c.args.row.now i.first i.last i.receivers.now i.receiver.now i.frame.now
    c.row.view_is c.row_start.result _ c.row_start.ensures.text refl in
    Puts-is (Puts-then c.in_ok-put.ensures (Puts-fails _ c.from_residual-in_err-put_names.ensures.0
    c.in_err-put_names.ensures.puts _)) (sym whole)

pub returns-clause-puts : goal.returns-clause-puts
returns-clause-puts g c =
    let i = c.row.inside in
    let tail = rw (c.as_bytes.ensures.value, c.bytes.ensures.value) at c.row_tail.ensures.text in
    let whole = told_parts c.args.row.now i.first i.last i.receivers.now i.receiver.now i.frame.now
    c.row.view_is c.row_start.result c.row_tail.result.now c.row_start.ensures.text tail in
    Puts-is (Puts-then c.in_ok-put.ensures (Puts-then c.in_ok-put_names.ensures.puts
    c.put-2.ensures)) (sym whole)
