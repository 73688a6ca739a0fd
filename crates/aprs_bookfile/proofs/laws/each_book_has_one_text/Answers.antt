use Rattle.aprs_bookfile.proofs.Common.{refl}
use Rattle.aprs_bookfile.proofs.OneText.{one_book, one_text, cut_short}
use Rattle.aprs_bookfile.proofs.SameFaults.{first_of}
use Rattle.aprs_bookfile.proofs.laws.each_book_has_one_text.Goals as goal

pub returns : goal.returns
returns c = record {
  one = one_text;
  written = one_book;
  cut = λ v rows is small text more e f whole fault other.
      cut_short v rows is small more e f.cause text f whole refl (first_of text e f fault other);
}
