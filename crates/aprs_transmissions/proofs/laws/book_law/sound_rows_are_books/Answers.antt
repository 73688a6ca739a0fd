use Rattle.aprs_transmissions.proofs.Soundness.{sound, witnessed}
use Rattle.aprs_transmissions.proofs.RunRows.{sound_exactly}
use Rattle.aprs_transmissions.proofs.laws.book_law.sound_rows_are_books.Goals as goal

pub returns : goal.returns
returns c = record {
  sound = sound;
  exactly = sound_exactly;
  witnesses = λ gap pos p. witnessed gap p pos;
}
