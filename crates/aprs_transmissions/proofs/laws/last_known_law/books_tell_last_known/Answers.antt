use Rattle.aprs_transmissions.specs.BestLaws.{Passes}
use Rattle.aprs_transmissions.proofs.Known.{some_known, plain_known, known_once, rows_know, set_knows}
use Rattle.aprs_transmissions.proofs.laws.last_known_law.books_tell_last_known.Goals as goal

pub returns : goal.returns
returns c = record {
  some = some_known;
  plain = plain_known;
  only = λ test S T x y. known_once S T (Passes test) x y;
  rows = λ gap test S rows known b. (
    rows_know gap S rows (Passes test) known b,
    set_knows gap S rows (Passes test) known b,
  );
}
