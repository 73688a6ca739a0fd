use Rattle.aprs_book.proofs.Common.{◌≤◌, ap, arith, BookValue}
use Rattle.aprs_book.proofs.Taking.{widens_to, keeps_equal}
use Rattle.aprs_book.proofs.book.Book.widen.Goals as goal

pub returns-in-Ok-clause-book : goal.returns-in-Ok-clause-book
returns-in-Ok-clause-book g c =
    let less : c.args.self.now.gap ≤ c.args.gap =
    omega (
      arith,
      ap (λ (b : BookValue). b.gap) c.self.view_is,
      c.seconds.ensures.value,
      c.seconds-2.ensures.value,
      c.if-seconds.false,
    ) in
    widens_to c.args.gap c.args.self.now c.in-Ok.wide c.in-Ok.ensures.wide less

pub returns-in-Ok-clause-equal : goal.returns-in-Ok-clause-equal
returns-in-Ok-clause-equal g c =
    keeps_equal c.args.gap c.args.self.now c.in-Ok.wide c.in-Ok.ensures.wide c.in-Ok.ensures.sound
