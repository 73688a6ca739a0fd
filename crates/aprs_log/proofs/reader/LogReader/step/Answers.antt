use Rattle.aprs_log.proofs.Common.{◌∙◌, ap, sym, refl, rules}
use Rattle.aprs_log.specs.ReaderSteps.{line_in}
use Rattle.aprs_log.proofs.LogAnswers.{uncut_lacks}
use Rattle.aprs_log.proofs.Awaiting.{step_line, step_fault, faults_keep}
use Rattle.aprs_log.proofs.Lasts.{fault_asks_nothing}
use Rattle.aprs_log.proofs.reader.LogReader.step.Goals as goal

pub invariant_of-self-in-Some-Err-clause-no_memory
    : goal.invariant_of-self-in-Some-Err-clause-no_memory
invariant_of-self-in-Some-Err-clause-no_memory g c = faults_keep c.in-Some-Err.fault c.from.result
    c.from.ensures

pub returns-in-Some-Ok-clause-given : goal.returns-in-Some-Ok-clause-given
returns-in-Some-Ok-clause-given g c =
    let t = c.in-Some-Ok.ensures.some in
    let found = c.take_line.new.found in (
      refl,
      λ end a. step_line _ _ end _ _ _ _ found t.0 a c.requires t.1
          (ap (λ r. line_in r found) (sym c.in-Some-Ok.field-0-is) ∙ t.2) t.3,
    )

pub returns-in-Some-Err-clause-none : goal.returns-in-Some-Err-clause-none
returns-in-Some-Err-clause-none g c =
    let t = c.in-Some-Err.ensures.some in
    let found = c.take_line.new.found in (
      refl,
      search rules,
      λ end a w. step_fault _ _ end _ _ _ c.in-Some-Err.fault t.0 c.from.result a c.requires t.1
          (ap (λ r. line_in r found) (sym c.in-Some-Err.field-0-is) ∙ t.2) c.from.ensures w,
    )

pub returns-in-None-clause-unread : goal.returns-in-None-clause-unread
returns-in-None-clause-unread g c line = absurd (uncut_lacks 10 _ c.in-None.ensures.none.0 line)

pub returns-in-Some-Err-clause-calls : goal.returns-in-Some-Err-clause-calls
returns-in-Some-Err-clause-calls g c =
    let t = c.in-Some-Err.ensures.some in
    fault_asks_nothing _ _ c.in-Some-Err.fault c.from.result
    (ap (λ r. line_in r c.take_line.new.found) (sym c.in-Some-Err.field-0-is) ∙ t.2)
    c.from.ensures
