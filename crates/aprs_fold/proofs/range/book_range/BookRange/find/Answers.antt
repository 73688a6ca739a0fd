use Rattle.std.proofs.Common.{◌∙◌, refl}
use Rattle.aprs_bookfile.specs.Text.{book_text}
use Rattle.aprs_fold.proofs.Lent.{lent_is}
use Rattle.aprs_fold.proofs.range.book_range.BookRange.find.Goals as goal

pub returns-in-Some-clause-lends : goal.returns-in-Some-clause-lends
returns-in-Some-clause-lends g c v rows book known =
    lent_is g.R.ReadAt.bytes c.args.range.now c.of_stretch.result c.find_stretch.new.source c.in-Some.stretch
    (book_text v rows) c.of_stretch.ensures.rest c.of_stretch.ensures.line
    (c.find_stretch.ensures.stays ∙ known)
    (c.in-Some.ensures.finds (book_text v rows) known) v rows book refl
