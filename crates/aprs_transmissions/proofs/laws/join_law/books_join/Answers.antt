use Rattle.aprs_transmissions.specs.BookValue.{IsSoundBook, HaveOneGap, AreJoined}
use Rattle.aprs_transmissions.proofs.Joins.{book_laws, gap_laws}
use Rattle.aprs_transmissions.proofs.BookValues.{union_has_joined_book}
use Rattle.aprs_transmissions.proofs.Folds.{fold_same}
use Rattle.aprs_transmissions.proofs.laws.join_law.books_join.Goals as goal

pub returns : goal.returns
returns c = record {
  laws = gap_laws;
  folds = fold_same IsSoundBook HaveOneGap AreJoined gap_laws;
  union = union_has_joined_book;
  rows = book_laws;
}
