use Rattle.aprs_bookfile.proofs.KeptRows.{judged_done, judged_header}
use Rattle.aprs_bookfile.proofs.Moves.{moves_header}
use Rattle.aprs_bookfile.proofs.row_reader.judge.Goals as goal

pub returns-in-Header-clause-judged : goal.returns-in-Header-clause-judged
returns-in-Header-clause-judged g c = λ all same kept.
    judged_header c.args.keeping all c.args.rows.now c.args.line.now kept c.args.stage
    c.judge_header.result c.in-Header.is (c.judge_header.ensures.judged all)

pub returns-in-Done-clause-judged : goal.returns-in-Done-clause-judged
returns-in-Done-clause-judged g c = λ all same kept.
    judged_done c.args.keeping all c.args.rows.now c.args.line.now kept c.args.stage
    c.in-Done.field-0 c.in-Done.is

pub returns-in-Header-clause-moves : goal.returns-in-Header-clause-moves
returns-in-Header-clause-moves g c =
    moves_header c.args.stage c.judge_header.result c.args.keeping c.args.rows.now
    c.args.taken.now c.in-Header.is
