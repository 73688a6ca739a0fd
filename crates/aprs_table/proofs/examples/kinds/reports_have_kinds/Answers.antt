use Rattle.aprs_table.proofs.Common.{refl}
use Rattle.aprs_table.proofs.Steps.{line_of}
use Rattle.aprs_table.proofs.examples.kinds.reports_have_kinds.Goals as goal

pub returns-clause-position : goal.returns-clause-position
unfolding line_of
returns-clause-position c = refl

pub returns-clause-with_messages : goal.returns-clause-with_messages
unfolding line_of
returns-clause-with_messages c = refl

pub returns-clause-stamped : goal.returns-clause-stamped
unfolding line_of
returns-clause-stamped c = refl

pub returns-clause-stamped_with_messages : goal.returns-clause-stamped_with_messages
unfolding line_of
returns-clause-stamped_with_messages c = refl

pub returns-clause-object : goal.returns-clause-object
unfolding line_of
returns-clause-object c = refl

pub returns-clause-killed_object : goal.returns-clause-killed_object
unfolding line_of
returns-clause-killed_object c = refl

pub returns-clause-item : goal.returns-clause-item
unfolding line_of
returns-clause-item c = refl

pub returns-clause-killed_item : goal.returns-clause-killed_item
unfolding line_of
returns-clause-killed_item c = refl

pub returns-clause-status : goal.returns-clause-status
unfolding line_of
returns-clause-status c = refl

pub returns-clause-stamped_status : goal.returns-clause-stamped_status
unfolding line_of
returns-clause-stamped_status c = refl

pub returns-clause-message : goal.returns-clause-message
unfolding line_of
returns-clause-message c = refl

pub returns-clause-numbered_message : goal.returns-clause-numbered_message
unfolding line_of
returns-clause-numbered_message c = refl

pub returns-clause-ack : goal.returns-clause-ack
unfolding line_of
returns-clause-ack c = refl

pub returns-clause-rej : goal.returns-clause-rej
unfolding line_of
returns-clause-rej c = refl

pub returns-clause-weather : goal.returns-clause-weather
unfolding line_of
returns-clause-weather c = refl

pub returns-clause-telemetry : goal.returns-clause-telemetry
unfolding line_of
returns-clause-telemetry c = refl

pub returns-clause-raw : goal.returns-clause-raw
unfolding line_of
returns-clause-raw c = refl

pub returns-clause-shown : goal.returns-clause-shown
unfolding line_of
returns-clause-shown c = refl
