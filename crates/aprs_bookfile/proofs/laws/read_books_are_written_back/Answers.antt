use Rattle.aprs_bookfile.proofs.Accepting.{written_back}
use Rattle.aprs_bookfile.proofs.laws.read_books_are_written_back.Goals as goal

pub returns : goal.returns
returns c = written_back
