use Rattle.aprs_transmissions.proofs.Together.{firsts_join, near_is_sound, first_stands}
use Rattle.aprs_transmissions.proofs.laws.step_law.book_comes_row_by_row.Goals as goal

pub returns : goal.returns
returns c = record {
  joined = firsts_join;
  sound = near_is_sound;
  first = first_stands;
}
