use Rattle.aprs_log.proofs.LogTexts.{answers-log_fault, answers-log_text, log_fault-answers, log_text-answers}
use Rattle.aprs_log.proofs.laws.logs_are_read_as_they_say.Goals as goal

pub returns-clause-faultless : goal.returns-clause-faultless
returns-clause-faultless c =
    λ text ending S. (log_text-answers text ending S, answers-log_text text ending S)

pub returns-clause-fault : goal.returns-clause-fault
returns-clause-fault c =
    λ text ending fault. (log_fault-answers text ending fault, answers-log_fault text ending fault)
