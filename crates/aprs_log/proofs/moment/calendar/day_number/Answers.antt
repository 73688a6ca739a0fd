use Rattle.aprs_log.proofs.Common.{arith, rules, w8, w16, to_z_pos, civil}
use Rattle.aprs_log.proofs.Days.{parts_are}
use Rattle.aprs_log.proofs.moment.calendar.day_number.Goals as goal

pub overflow_sub-result : goal.overflow_sub-result
overflow_sub-result c =
    let y = to_z_pos w16 c.args.year (omega arith) in
    let m = to_z_pos w8 c.args.month (omega arith) in
    let d = to_z_pos w8 c.args.day (omega arith) in
    let ymd = simp (y, m, d) at c.in-Ok.ensures.value in
    let date = c.in-Ok.date in
    let number = simp c.to_plain.ensures at c.days_since_min.ensures.value in
    (parts_are date.year date.month date.day c.args.year c.args.month c.args.day
    c.days_since_min.result (civil date)
    ymd.0 ymd.1 ymd.2 c.requires.low c.requires.high number).0

pub returns-in-Ok : goal.returns-in-Ok
returns-in-Ok c =
    let y = to_z_pos w16 c.args.year (omega arith) in
    let m = to_z_pos w8 c.args.month (omega arith) in
    let d = to_z_pos w8 c.args.day (omega arith) in
    let ymd = simp (y, m, d) at c.in-Ok.ensures.value in
    let date = c.in-Ok.date in
    let counted = simp c.to_plain.ensures at c.days_since_min.ensures.value in
    let number = parts_are date.year date.month date.day c.args.year c.args.month c.args.day
    c.days_since_min.result (civil date)
    ymd.0 ymd.1 ymd.2 c.requires.low c.requires.high counted in (
      (
        c.requires.low,
        c.requires.high,
        simp (y, m, d) at
            (c.in-Ok.ensures.succeeds.0 (search rules)),
      ),
      number.1,
      number.2,
    )
