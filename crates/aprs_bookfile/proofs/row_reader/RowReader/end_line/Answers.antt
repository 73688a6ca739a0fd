use Rattle.aprs_bookfile.proofs.Common.{◌+◌, ◌++◌, ◌∷◌, length, arith, err_from_is_err_and, IfErr-weaker}
use Rattle.aprs_bookfile.proofs.Standing.{fault_near}
use Rattle.aprs_bookfile.proofs.row_reader.RowReader.end_line.Goals as goal

pub returns-then-is_empty-clause-fault : goal.returns-then-is_empty-clause-fault
returns-then-is_empty-clause-fault g c = IfErr-weaker c.take_line.result _ _
    (λ f fails rows t more h lacks. fault_near _ (length c.args.part.now + (length more + 1)) f _
    (omega arith) (fails rows t more h lacks)) c.take_line.ensures.fault

pub returns-in_err-append-clause-fault : goal.returns-in_err-append-clause-fault
returns-in_err-append-clause-fault g c =
    let p = err_from_is_err_and c.from_residual.result c.from_residual.ensures.1 in
    rw (p.1, p.2) (λ rows t more h lacks. fault_near _
    (length c.args.part.now + (length more + 1)) _ _ (omega arith)
    (c.in_err-append.ensures.fault rows t (10 ∷ more) h))

pub returns-clause-fault : goal.returns-clause-fault
returns-clause-fault g c = IfErr-weaker c.take_kept_line.result _ _
    (λ f fails rows t more h lacks. fault_near _ (length c.args.part.now + (length more + 1)) f _
    (omega arith) (fails rows (t ++ c.args.part.now) more
    (c.in_ok-append.ensures.stands rows t h lacks))) c.take_kept_line.ensures.fault

pub returns-then-is_empty-clause-stops : goal.returns-then-is_empty-clause-stops
returns-then-is_empty-clause-stops g c = IfErr-weaker c.take_line.result _ _
    (λ f stops rows t h lacks. stops rows t h) c.take_line.ensures.stops

pub returns-in_err-append-clause-stops : goal.returns-in_err-append-clause-stops
returns-in_err-append-clause-stops g c =
    let p = err_from_is_err_and c.from_residual.result c.from_residual.ensures.1 in
    rw (p.1, p.2) (λ rows t h lacks. c.in_err-append.ensures.stops rows t h)

pub returns-clause-stops : goal.returns-clause-stops
returns-clause-stops g c = IfErr-weaker c.take_kept_line.result _ _
    (λ f stops rows t h lacks. stops rows (t ++ c.args.part.now)
    (c.in_ok-append.ensures.stands rows t h lacks)) c.take_kept_line.ensures.stops
