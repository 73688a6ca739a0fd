use Rattle.aprs_transmissions.proofs.Widening.{widens_book, widened_sound, keeps_under_own_gap, widens_in_steps, widens_joined}
use Rattle.aprs_transmissions.proofs.laws.gap_law.gaps_can_be_widened.Goals as goal

pub returns : goal.returns
returns c = record {
  book = widens_book;
  sound = widened_sound;
  equal = keeps_under_own_gap;
  steps = widens_in_steps;
  joined = widens_joined;
}
