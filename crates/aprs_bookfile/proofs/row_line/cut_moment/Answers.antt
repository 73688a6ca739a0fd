use Rattle.aprs_bookfile.proofs.Common.{◌∙◌, ap, arith, get_or, take}
use Rattle.aprs_bookfile.proofs.RowReading.{has_moment}
use Rattle.aprs_bookfile.proofs.row_line.cut_moment.Goals as goal
use Rattle.aprs_bookfile.proofs.row_line.cut_moment.Goals.{then-text-size-via-then-text-size, then-text-size-via-else-text-size+then-text-size-ne32}

pub returns-then-text-size-clause-none : goal.returns-then-text-size-clause-none
returns-then-text-size-clause-none c = λ m rest h e.
    let has = has_moment c.args.form m rest c.args.text.now e in
    elim c.then-text-size.branch [
      | then-text-size-via-then-text-size w ↦
          omega (arith, has.long, w.if-text-size.true, c.size_in-size.ensures)
      | then-text-size-via-else-text-size+then-text-size-ne32 w ↦
          w.if-text-size-ne32.true (ap (λ n. get_or c.args.text.now n 0) c.size_in-size.ensures
          ∙ has.space)
    ]

pub returns-in-None-clause-none : goal.returns-in-None-clause-none
returns-in-None-clause-none c = λ m rest h e. c.in-None.ensures.none m h
    (ap (λ n. take n c.args.text.now) c.size_in-size.ensures
    ∙ (has_moment c.args.form m rest c.args.text.now e).field)
