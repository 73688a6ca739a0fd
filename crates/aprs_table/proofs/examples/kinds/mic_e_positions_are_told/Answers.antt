use Rattle.aprs_table.proofs.Common.{refl}
use Rattle.aprs_table.proofs.Steps.{line_of}
use Rattle.aprs_table.proofs.examples.kinds.mic_e_positions_are_told.Goals as goal

pub returns-clause-current : goal.returns-clause-current
unfolding line_of
returns-clause-current c = refl

pub returns-clause-old : goal.returns-clause-old
unfolding line_of
returns-clause-old c = refl

pub returns-clause-unknown_course : goal.returns-clause-unknown_course
unfolding line_of
returns-clause-unknown_course c = refl

pub returns-clause-least_course : goal.returns-clause-least_course
unfolding line_of
returns-clause-least_course c = refl

pub returns-clause-greatest_course : goal.returns-clause-greatest_course
unfolding line_of
returns-clause-greatest_course c = refl

pub returns-clause-past_north : goal.returns-clause-past_north
unfolding line_of
returns-clause-past_north c = refl

pub returns-clause-weather_station : goal.returns-clause-weather_station
unfolding line_of
returns-clause-weather_station c = refl

pub returns-clause-extension : goal.returns-clause-extension
unfolding line_of
returns-clause-extension c = refl

pub returns-clause-frequency : goal.returns-clause-frequency
unfolding line_of
returns-clause-frequency c = refl

pub returns-clause-telemetry : goal.returns-clause-telemetry
unfolding line_of
returns-clause-telemetry c = refl

pub returns-clause-emergency : goal.returns-clause-emergency
unfolding line_of
returns-clause-emergency c = refl

pub returns-clause-custom : goal.returns-clause-custom
unfolding line_of
returns-clause-custom c = refl
