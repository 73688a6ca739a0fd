use Rattle.aprs_lists.proofs.Common.{refl}
use Rattle.aprs_lists.specs.Class.{is_ack_text, is_bulletin_of, is_ended_number}
use Rattle.aprs_lists.proofs.examples.columns.messages_have_columns.Goals as goal

pub returns-clause-all : goal.returns-clause-all
unfolding is_ack_text is_bulletin_of is_ended_number
returns-clause-all c = refl

pub returns-clause-awaited : goal.returns-clause-awaited
unfolding is_ack_text is_bulletin_of is_ended_number
returns-clause-awaited c = refl
