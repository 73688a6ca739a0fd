use Rattle.aprs_lists.proofs.PlainFirst.{plain_is_first}
use Rattle.aprs_lists.proofs.laws.first_answers_are_found.Goals as goal

pub returns : goal.returns
returns c = plain_is_first
