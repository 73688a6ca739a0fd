use Rattle.aprs_runs.proofs.Common.{refl, got_so}
use Rattle.aprs_runs.proofs.LastRefused.{text_cut, text_none, text_sent}
use Rattle.aprs_runs.proofs.Outcomes.{prefix_went, text_went}
use Rattle.aprs_runs.proofs.Widens.{not_wide, not_widened, wide_text, within}
use Rattle.aprs_runs.proofs.widen.widen_run.Goals as goal

-- ---- the input is refused

pub returns-in-Err-clause-refuses : goal.returns-in-Err-clause-refuses
returns-in-Err-clause-refuses g c =
    got_so _ _ c.args.limit (λ input. input) _ _
    (λ t e h. (not_widened c.args.gap t e c.in-Err.fault h, refl)) c.in-Err.ensures.reads

pub returns-then-seconds-clause-writes : goal.returns-then-seconds-clause-writes
returns-then-seconds-clause-writes g c = rw c.narrower_fault.ensures
    (got_so _ _ c.args.limit (λ input. input) _ _ (λ t e h. tt) c.in-Ok.ensures.reads)

pub returns-then-seconds-clause-refuses : goal.returns-then-seconds-clause-refuses
returns-then-seconds-clause-refuses g c =
    rw c.narrower_fault.ensures
    (got_so _ _ c.args.limit (λ input. input) _ _
    (λ t e h. (
      not_wide c.args.gap c.in-Ok.own _ _ _ c.read_input_rows.new.gathered t e
          c.seconds-2.ensures.value c.seconds.ensures.value c.new-gathered.ensures h
          c.if-seconds.true,
      refl,
    ))
    c.in-Ok.ensures.reads)

-- ---- the text was written

pub returns-in-Ok-write-clause-writes : goal.returns-in-Ok-write-clause-writes
returns-in-Ok-write-clause-writes g c =
    got_so _ _ c.args.limit (λ input. input) _ _
    (λ t e h. text_went _ g.W.Write.contents c.args.w.now c.write.new.w _
    (wide_text c.args.gap c.in-Ok.own _ _ _ c.read_input_rows.new.gathered t e
    c.seconds-2.ensures.value c.seconds.ensures.value c.new-gathered.ensures h
    c.seconds-2.ensures.range c.seconds.ensures.range c.if-seconds.false)
    (text_sent _ _ _ _ c.in-Ok-write.ensures)) c.in-Ok.ensures.reads

pub returns-in-Ok-write-clause-refuses : goal.returns-in-Ok-write-clause-refuses
returns-in-Ok-write-clause-refuses g c =
    got_so _ _ c.args.limit (λ input. input) _ _ (λ t e h. tt) c.in-Ok.ensures.reads

pub returns-in-Ok-write-clause-calls : goal.returns-in-Ok-write-clause-calls
returns-in-Ok-write-clause-calls g c = (text_sent _ _ _ _ c.in-Ok-write.ensures).calls

-- ---- an allocation failed

pub returns-in-Err-Memory-clause-writes : goal.returns-in-Err-Memory-clause-writes
returns-in-Err-Memory-clause-writes g c =
    got_so _ _ c.args.limit (λ input. input) _ _ (λ t e h. tt) c.in-Ok.ensures.reads

pub returns-in-Err-Memory-clause-refuses : goal.returns-in-Err-Memory-clause-refuses
returns-in-Err-Memory-clause-refuses g c =
    let none = text_none _ _ _ _ _ c.in-Err-Memory.field-0-is c.in-Err-Memory.ensures in
    got_so _ _ c.args.limit (λ input. input) _ _
    (λ t e h. (
      within c.args.gap c.in-Ok.own _ _ _ c.read_input_rows.new.gathered t e
          c.seconds-2.ensures.value c.seconds.ensures.value c.new-gathered.ensures h
          c.if-seconds.false,
      none.0,
    )) c.in-Ok.ensures.reads

pub returns-in-Err-Memory-clause-calls : goal.returns-in-Err-Memory-clause-calls
returns-in-Err-Memory-clause-calls g c =
    (text_none _ _ _ _ _ c.in-Err-Memory.field-0-is c.in-Err-Memory.ensures).0

-- ---- the output was refused

pub returns-in-Err-Write-clause-writes : goal.returns-in-Err-Write-clause-writes
returns-in-Err-Write-clause-writes g c =
    got_so _ _ c.args.limit (λ input. input) _ _
    (λ t e h. prefix_went _ g.W.Write.contents c.args.w.now c.write.new.w _
    (wide_text c.args.gap c.in-Ok.own _ _ _ c.read_input_rows.new.gathered t e
    c.seconds-2.ensures.value c.seconds.ensures.value c.new-gathered.ensures h
    c.seconds-2.ensures.range c.seconds.ensures.range c.if-seconds.false)
    (text_cut _ _ _ _ _ c.in-Err-Write.field-0-is c.in-Err-Write.ensures)) c.in-Ok.ensures.reads

pub returns-in-Err-Write-clause-refuses : goal.returns-in-Err-Write-clause-refuses
returns-in-Err-Write-clause-refuses g c =
    got_so _ _ c.args.limit (λ input. input) _ _ (λ t e h. tt) c.in-Ok.ensures.reads

pub returns-in-Err-Write-clause-calls : goal.returns-in-Err-Write-clause-calls
returns-in-Err-Write-clause-calls g c =
    (text_cut _ _ _ _ _ c.in-Err-Write.field-0-is c.in-Err-Write.ensures).calls
