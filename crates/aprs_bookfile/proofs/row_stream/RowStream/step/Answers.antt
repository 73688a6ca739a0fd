use Rattle.aprs_bookfile.proofs.Common.{◌+◌, ◌++◌, ◌∙◌, ap, arith, sym, subst, refl, length, err_from_is_err_and}
use Rattle.aprs_bookfile.specs.Reader.{is_done, IsFault}
use Rattle.aprs_bookfile.specs.RowReader.{HasReadTo}
use Rattle.aprs_bookfile.proofs.Standing.{ending_stop}
use Rattle.aprs_bookfile.proofs.RowStreams.{faulty_end, faulty_kept, faulty_line, rest_after, steps_line, steps_more}
use Rattle.aprs_bookfile.proofs.row_stream.RowStream.step.Goals as goal

pub returns-in_ok-is_row-in-Some-clause-steps : goal.returns-in_ok-is_row-in-Some-clause-steps
returns-in_ok-is_row-in-Some-clause-steps g c = λ limit head first rows h.
    let cuts = sym c.as_slice-bytes.ensures.value ∙ c.in-Some.ensures.some.0 in
    steps_line g.R.Read.remaining limit head first c.args.source.now c.args.self.now _ rows
    c.in-Some.part.now c.in-Some.after.now c.in_ok-is_row-in-Some.is_row cuts
    (rest_after _ c.in-Some.part.now c.in-Some.after.now _ _ cuts c.consume.ensures
    (omega (arith, c.in-Some.ensures.len))) refl
    (λ t k. c.in_ok-is_row-in-Some.ensures.reads rows t k c.in-Some.ensures.some.1) h

pub returns-in_err-is_row-in-Some-clause-fault : goal.returns-in_err-is_row-in-Some-clause-fault
returns-in_err-is_row-in-Some-clause-fault g c =
    let p = err_from_is_err_and c.from_residual.result c.from_residual.ensures.1 in
    let cuts = sym c.as_slice-bytes.ensures.value ∙ c.in-Some.ensures.some.0 in
    rw (p.1, p.2) (faulty_line g.R.Read.remaining c.args.source.now c.args.self.now _
    c.in_err-is_row-in-Some.ensures.cause (rw c.as_slice-bytes.ensures.value at c.as_slice-bytes.ensures.few)
    c.in-Some.part.now c.in-Some.after.now cuts
    (λ rows t more k. c.in_err-is_row-in-Some.ensures.fault rows t more k c.in-Some.ensures.some.1))

pub returns-in_err-append-in-None-clause-fault : goal.returns-in_err-append-in-None-clause-fault
returns-in_err-append-in-None-clause-fault g c =
    let p = err_from_is_err_and c.from_residual-in_err-append-in-None.result
    c.from_residual-in_err-append-in-None.ensures.1 in
    rw (p.1, p.2) (faulty_kept g.R.Read.remaining c.args.source.now c.args.self.now _
    c.in_err-append-in-None.ensures.cause (rw c.as_slice-bytes.ensures.value at c.as_slice-bytes.ensures.few)
    (λ rows t more k. subst (λ b. IsFault (length b + length more)
    c.in_err-append-in-None.field-0.0 ((t ++ b) ++ more))
    c.as_slice-bytes.ensures.value (c.in_err-append-in-None.ensures.fault rows t more k)))

pub returns-in-Ok-clause-steps : goal.returns-in-Ok-clause-steps
returns-in-Ok-clause-steps g c = λ limit head first rows h.
    steps_more g.R.Read.remaining limit head first c.args.source.now c.args.self.now _ rows
    c.refill.new.source (omega (arith, c.in-Ok.ensures.some))
    (λ t k. subst (λ b. HasReadTo c.append.new.self rows (t ++ b)) c.as_slice-bytes.ensures.value
    (c.in_ok-append-in-None.ensures.stands rows t k c.in-None.ensures.none))
    c.in-Ok.ensures.got c.in-Ok.ensures.calls h

pub returns-in-Err-clause-fault : goal.returns-in-Err-clause-fault
returns-in-Err-clause-fault g c =
    rw c.fault_of_ending.ensures (faulty_end g.R.Read.remaining c.args.source.now
    c.refill.new.source c.args.self.now c.append.new.self c.in-Err.ending
    (ap is_done c.in_ok-append-in-None.ensures.stage ∙ c.requires.going)
    (λ rows t k. subst (λ b. HasReadTo c.append.new.self rows (t ++ b)) c.as_slice-bytes.ensures.value
    (c.in_ok-append-in-None.ensures.stands rows t k c.in-None.ensures.none))
    c.in-Err.ensures.end.1 c.in-Err.ensures.calls)

pub returns-in_err-is_row-in-Some-clause-stops : goal.returns-in_err-is_row-in-Some-clause-stops
returns-in_err-is_row-in-Some-clause-stops g c =
    let p = err_from_is_err_and c.from_residual.result c.from_residual.ensures.1 in
    rw (p.1, p.2) (λ limit head first rows h. let held = h.got.stands in
    c.in_err-is_row-in-Some.ensures.stops rows held.0 held.2 c.in-Some.ensures.some.1)

pub returns-in_err-append-in-None-clause-stops : goal.returns-in_err-append-in-None-clause-stops
returns-in_err-append-in-None-clause-stops g c =
    let p = err_from_is_err_and c.from_residual-in_err-append-in-None.result
    c.from_residual-in_err-append-in-None.ensures.1 in
    rw (p.1, p.2) (λ limit head first rows h. let held = h.got.stands in
    c.in_err-append-in-None.ensures.stops rows held.0 held.2)

pub returns-in-Err-clause-stops : goal.returns-in-Err-clause-stops
returns-in-Err-clause-stops g c = λ limit head first rows h each.
    rw c.fault_of_ending.ensures (ending_stop c.in-Err.ending _ _)
