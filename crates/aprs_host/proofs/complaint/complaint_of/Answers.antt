use Rattle.aprs_host.proofs.Common.{◌∙◌, ap, sym}
use Rattle.aprs_runs.specs.declared.fault.RunFault.{RunFault}
use Rattle.aprs_host.specs.Complaint.{run_words}
use Rattle.aprs_host.proofs.complaint.complaint_of.Goals as goal

pub returns-in-Input-clause-words : goal.returns-in-Input-clause-words
returns-in-Input-clause-words c = c.complaint_of_input.ensures.words c.in-Input.index
    ∙ sym (ap (λ (f : RunFault). run_words c.args.place.now f) c.in-Input.is)
