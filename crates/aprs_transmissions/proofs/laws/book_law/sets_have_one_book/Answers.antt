use Rattle.aprs_transmissions.proofs.Books.{unique}
use Rattle.aprs_transmissions.proofs.Soundness.{exists}
use Rattle.aprs_transmissions.proofs.RunRows.{empty_book}
use Rattle.aprs_transmissions.proofs.laws.book_law.sets_have_one_book.Goals as goal

pub returns : goal.returns
returns c = record {
  some = exists;
  only = unique;
  empty = empty_book;
}
