use Rattle.aprs_bookfile.proofs.Common.{◌∙◌, sym, err_from_is_err_and}
use Rattle.aprs_bookfile.proofs.KeptRows.{judged_last, judged_refused, judged_row, judged_unread, last_kept}
use Rattle.aprs_bookfile.proofs.Moves.{moves_end}
use Rattle.aprs_bookfile.proofs.row_reader.judge_row.Goals as goal

pub returns-then-starts_with-clause-judged : goal.returns-then-starts_with-clause-judged
returns-then-starts_with-clause-judged g c = λ all same kept.
    judged_last c.args.keeping all c.args.rows.now c.args.line.now kept c.args.version
    c.judge_end.result c.args.count same (sym c.starts_with.ensures.value ∙ c.if-starts_with.true)
    c.judge_end.ensures

pub returns-in_err-row-clause-judged : goal.returns-in_err-row-clause-judged
returns-in_err-row-clause-judged g c = λ all same kept.
    let p = err_from_is_err_and c.from_residual.result c.from_residual.ensures.1 in
    rw (p.1, p.2) (judged_unread c.args.keeping all c.args.rows.now c.args.line.now kept
    c.args.version c.in_err-row.field-0.0 (sym c.starts_with.ensures.value ∙ c.if-starts_with.false)
    (rw c.form.ensures at c.in_err-row.ensures.err))

pub returns-in-Some-clause-judged : goal.returns-in-Some-clause-judged
returns-in-Some-clause-judged g c = λ all same kept.
    let own = rw c.form.ensures at c.in_ok-row.ensures.ok in
    rw c.from.ensures (judged_refused c.args.keeping all c.args.rows.now c.args.line.now kept
    c.args.version c.in-Some.cause c.in_ok-row.row own.0 own.1
    (sym (rw c.gap.ensures at (c.in-Some.ensures.cause all
    (last_kept c.args.keeping all c.args.rows.now c.args.line.now kept c.last-before.result
    c.last-before.ensures.some c.last-before.ensures.none ∙ sym c.as_ref.ensures.value)))))

pub returns-in-Ok-clause-judged : goal.returns-in-Ok-clause-judged
returns-in-Ok-clause-judged g c = λ all same kept.
    let own = rw c.form.ensures at c.in_ok-row.ensures.ok in
    judged_row c.args.keeping all c.args.rows.now c.args.line.now kept c.args.version
    c.in_ok-row.row c.keep.new.rows own.0 own.1
    (sym (rw c.gap.ensures at (c.in_default.ensures.cause all
    (last_kept c.args.keeping all c.args.rows.now c.args.line.now kept c.last-before.result
    c.last-before.ensures.some c.last-before.ensures.none ∙ sym c.as_ref.ensures.value))))
    c.in-Ok.ensures.kept

pub returns-then-starts_with-clause-moves : goal.returns-then-starts_with-clause-moves
returns-then-starts_with-clause-moves g c =
    moves_end c.args.version c.judge_end.result c.args.count c.args.line.now c.args.keeping
    c.args.rows.now c.args.taken.now c.judge_end.ensures
