use Rattle.aprs_transmissions.proofs.Unions.{merged}
use Rattle.aprs_transmissions.proofs.TakenSteps.{taken_last, joined_row, plain_is_book}
use Rattle.aprs_transmissions.proofs.laws.step_law.one_more_joins.Goals as goal

pub returns : goal.returns
returns c = record {
  reception = taken_last;
  row = joined_row;
  rows = merged;
  plain = plain_is_book;
}
