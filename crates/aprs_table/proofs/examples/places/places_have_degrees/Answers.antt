use Rattle.aprs_table.proofs.Common.{refl}
use Rattle.aprs_table.proofs.Steps.{line_of}
use Rattle.aprs_table.proofs.examples.places.places_have_degrees.Goals as goal

pub returns-clause-north_west : goal.returns-clause-north_west
unfolding line_of
returns-clause-north_west c = refl

pub returns-clause-south_east : goal.returns-clause-south_east
unfolding line_of
returns-clause-south_east c = refl

pub returns-clause-one_left_out : goal.returns-clause-one_left_out
unfolding line_of
returns-clause-one_left_out c = refl

pub returns-clause-two_left_out : goal.returns-clause-two_left_out
unfolding line_of
returns-clause-two_left_out c = refl

pub returns-clause-three_left_out : goal.returns-clause-three_left_out
unfolding line_of
returns-clause-three_left_out c = refl

pub returns-clause-four_left_out : goal.returns-clause-four_left_out
unfolding line_of
returns-clause-four_left_out c = refl

pub returns-clause-compressed : goal.returns-clause-compressed
unfolding line_of
returns-clause-compressed c = refl

pub returns-clause-overlay : goal.returns-clause-overlay
unfolding line_of
returns-clause-overlay c = refl

pub returns-clause-shown_symbol : goal.returns-clause-shown_symbol
unfolding line_of
returns-clause-shown_symbol c = refl
