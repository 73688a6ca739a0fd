use Rattle.aprs_bookfile.proofs.Common.{refl}
use Rattle.aprs_bookfile.proofs.laws.book_texts_are_of_sets.Goals as goal

pub returns : goal.returns
returns c = λ text. (
  λ t. (
    t.is.book.0,
    record {
      version = t.version;
      is = t.is.version;
      rows = t.rows;
      holds = t.is.book.1;
      each = t.is.each;
      text_is = t.text_is;
    },
  ),
  λ t. record {
    version = t.1.version;
    rows = t.1.rows;
    is = record {
      version = t.1.is;
      book = (t.0, t.1.holds);
      each = t.1.each;
    };
    text_is = t.1.text_is;
    ended = refl;
  },
)
