use Rattle.aprs_log.proofs.Common.{◌∙◌, ap, sym, Ok, Err}
use Rattle.aprs_log.specs.ReaderSteps.{line_in}
use Rattle.aprs_log.proofs.Lines.{IsOk-line_of}
use Rattle.aprs_log.proofs.line.read_line.Goals as goal

pub returns-in-Ok-clause-sound : goal.returns-in-Ok-clause-sound
returns-in-Ok-clause-sound c = IsOk-line_of c.args.line.now (Ok c.read_fields.new.found)
    (ap (λ r. line_in r c.read_fields.new.found) (sym c.in-Ok.is) ∙ c.read_fields.ensures.line)

pub returns-in-Err-clause-sound : goal.returns-in-Err-clause-sound
returns-in-Err-clause-sound c = IsOk-line_of c.args.line.now (Err c.in-Err.fault)
    (ap (λ r. line_in r c.read_fields.new.found) (sym c.in-Err.is) ∙ c.read_fields.ensures.line)
