use Rattle.aprs_bookfile.proofs.Common.{refl, []}
use Rattle.aprs_bookfile.specs.Text.{book_text}
use Rattle.aprs_bookfile.proofs.Accepting.{accepted}
use Rattle.aprs_bookfile.proofs.laws.written_books_are_read.Goals as goal

pub returns : goal.returns
returns c = λ v rows is limit small fits after r reads good. accepted limit []
    (book_text v rows) after v rows small is refl fits r reads good
