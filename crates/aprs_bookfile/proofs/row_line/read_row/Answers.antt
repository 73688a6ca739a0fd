use Rattle.aprs_bookfile.proofs.Common.{err_from_is_err_and}
use Rattle.aprs_bookfile.proofs.RowReading.{row_found, wrong_first, wrong_frame, wrong_last, wrong_names, wrong_receiver, wrong_tag}
use Rattle.aprs_bookfile.proofs.row_line.read_row.Goals as goal

pub returns-in_default-clause-err : goal.returns-in_default-clause-err
returns-in_default-clause-err c = wrong_tag c.args.form c.args.line.now c.in_default.ensures.none

pub returns-in_default-cut_moment-clause-err : goal.returns-in_default-cut_moment-clause-err
returns-in_default-cut_moment-clause-err c =
    wrong_first c.args.form c.args.line.now _ c.in-Some.ensures.some
    c.in_default-cut_moment.ensures.none

pub returns-in_default-cut_last-clause-err : goal.returns-in_default-cut_last-clause-err
returns-in_default-cut_last-clause-err c =
    wrong_last c.args.form c.args.line.now _ c.in-Some.ensures.some _ _
    c.in-Some-cut_moment.ensures.some c.in_default-cut_last.ensures.none

pub returns-in_default-cut_names-clause-err : goal.returns-in_default-cut_names-clause-err
returns-in_default-cut_names-clause-err c =
    wrong_names c.args.form c.args.line.now _ c.in-Some.ensures.some _ _
    c.in-Some-cut_moment.ensures.some _ _ c.in-Some-cut_last.ensures.some
    c.in_default-cut_names.ensures.none

pub returns-in_default-cut_name-clause-err : goal.returns-in_default-cut_name-clause-err
returns-in_default-cut_name-clause-err c =
    wrong_receiver c.args.form c.args.line.now _ c.in-Some.ensures.some _ _
    c.in-Some-cut_moment.ensures.some _ _ c.in-Some-cut_last.ensures.some _ _
    c.in-Some-cut_names.ensures.some c.in_default-cut_name.ensures.none

pub returns-in_err-read_frame-clause-err : goal.returns-in_err-read_frame-clause-err
returns-in_err-read_frame-clause-err c =
    let p = err_from_is_err_and c.from_residual.result c.from_residual.ensures.1 in
    rw (p.1, p.2) (wrong_frame c.args.form c.args.line.now _ c.in-Some.ensures.some _ _
    c.in-Some-cut_moment.ensures.some _ _ c.in-Some-cut_last.ensures.some _ _
    c.in-Some-cut_names.ensures.some _ _ c.in-Some-cut_name.ensures.some _
    c.in_err-read_frame.ensures.err)

pub returns-clause-ok : goal.returns-clause-ok
returns-clause-ok c =
    rw (c.new.ensures, c.new-greatest.ensures, c.of.ensures)
    (row_found c.args.form c.args.line.now _ c.in-Some.ensures.some _ _
    c.in-Some-cut_moment.ensures.some _ _ c.in-Some-cut_last.ensures.some _ _
    c.in-Some-cut_names.ensures.some _ _ c.in-Some-cut_name.ensures.some c.read_frame.new.frame
    c.in_ok-read_frame.ensures.ok)
