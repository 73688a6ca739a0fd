use Rattle.std.proofs.Common.{[]}
use Rattle.aprs_transmissions.proofs.Together.{book_is_sound, order_is_free, merge_append}
use Rattle.aprs_transmissions.proofs.laws.step_law.rows_are_one_book.Goals as goal

pub returns : goal.returns
returns c = record {
  sound = book_is_sound;
  order = order_is_free;
  more = λ gap. merge_append gap [];
}
