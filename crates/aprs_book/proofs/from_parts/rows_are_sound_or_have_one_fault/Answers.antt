use Rattle.aprs_book.proofs.RowsFaults.{sound_or_faulty, one_fault, faultless}
use Rattle.aprs_book.proofs.from_parts.rows_are_sound_or_have_one_fault.Goals as goal

pub returns : goal.returns
returns c = record {
  some = sound_or_faulty;
  one = one_fault;
  none = faultless;
}
