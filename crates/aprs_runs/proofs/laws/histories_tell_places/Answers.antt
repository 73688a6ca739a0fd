use Rattle.aprs_runs.proofs.Histories.{tells_item_of, tells_object_of, tells_place_of}
use Rattle.aprs_runs.proofs.laws.histories_tell_places.Goals as goal

pub returns : goal.returns
returns c = record {
  places = λ gap. tells_place_of gap;
  objects = λ gap. tells_object_of gap;
  items = λ gap. tells_item_of gap;
}
