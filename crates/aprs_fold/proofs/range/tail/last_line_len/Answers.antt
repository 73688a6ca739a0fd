use Rattle.std.proofs.Common.{◌-◌, length, drop, arith, length-drop}
use Rattle.std.proofs.lemmas.List.{take_all}
use Rattle.aprs_fold.proofs.Lent.{ends_tail}
use Rattle.aprs_fold.proofs.range.tail.last_line_len.Goals as goal

pub returns : goal.returns
returns c =
    let tail = c.args.tail.now in
    let lf = c.in_ok-lf.lf in
    ends_tail tail lf c.in_ok-rows_of_end.field-0
    (take_all (length tail - lf) (drop lf tail) (omega (arith, length-drop lf tail)))
    c.in_ok-rows_of_end.ensures
