use Rattle.aprs_table.proofs.Common.{refl}
use Rattle.aprs_table.proofs.Steps.{line_of}
use Rattle.aprs_table.proofs.examples.places.finer_places_have_a_half.Goals as goal

pub returns-clause-west : goal.returns-clause-west
unfolding line_of
returns-clause-west c = refl

pub returns-clause-east : goal.returns-clause-east
unfolding line_of
returns-clause-east c = refl

pub returns-clause-south : goal.returns-clause-south
unfolding line_of
returns-clause-south c = refl

pub returns-clause-north : goal.returns-clause-north
unfolding line_of
returns-clause-north c = refl

pub returns-clause-object : goal.returns-clause-object
unfolding line_of
returns-clause-object c = refl

pub returns-clause-item : goal.returns-clause-item
unfolding line_of
returns-clause-item c = refl

pub returns-clause-mic_e_north_west : goal.returns-clause-mic_e_north_west
unfolding line_of
returns-clause-mic_e_north_west c = refl

pub returns-clause-mic_e_south_east : goal.returns-clause-mic_e_south_east
unfolding line_of
returns-clause-mic_e_south_east c = refl

pub returns-clause-misses_left_out : goal.returns-clause-misses_left_out
unfolding line_of
returns-clause-misses_left_out c = refl

pub returns-clause-misses_compressed : goal.returns-clause-misses_compressed
unfolding line_of
returns-clause-misses_compressed c = refl
