use Rattle.aprs_table.proofs.Common.{refl}
use Rattle.aprs_table.proofs.Steps.{line_of}
use Rattle.aprs_table.proofs.examples.rows.mic_e_positions_are_passed_on.Goals as goal

pub returns-clause-direct : goal.returns-clause-direct
unfolding line_of
returns-clause-direct c = refl

pub returns-clause-by_digipeaters : goal.returns-clause-by_digipeaters
unfolding line_of
returns-clause-by_digipeaters c = refl

pub returns-clause-south_east : goal.returns-clause-south_east
unfolding line_of
returns-clause-south_east c = refl

pub returns-clause-misses_five_letters : goal.returns-clause-misses_five_letters
unfolding line_of
returns-clause-misses_five_letters c = refl

pub returns-clause-misses_seven_letters : goal.returns-clause-misses_seven_letters
unfolding line_of
returns-clause-misses_seven_letters c = refl

pub returns-clause-misses_letters : goal.returns-clause-misses_letters
unfolding line_of
returns-clause-misses_letters c = refl

pub returns-clause-misses_dash : goal.returns-clause-misses_dash
unfolding line_of
returns-clause-misses_dash c = refl

pub returns-clause-misses_within : goal.returns-clause-misses_within
unfolding line_of
returns-clause-misses_within c = refl

pub returns-clause-misses_status : goal.returns-clause-misses_status
unfolding line_of
returns-clause-misses_status c = refl
