use Rattle.aprs_fold.proofs.Common.{[], Err, List, Row, refl, sym, subst, Puts-fails, ◌∈◌}
use Rattle.aprs_bookfile.specs.RowReader.{list_of_row}
use Rattle.aprs_fold.specs.Taking.{HasPut}
use Rattle.aprs_fold.specs.declared.fault.FoldFault.TheVariants.{Write}
use Rattle.aprs_fold.proofs.InErr.{in_err}
use Rattle.aprs_fold.proofs.Lacking.{new_none, new_one}
use Rattle.aprs_fold.proofs.Puttings.{HasPut-none, HasPut-one}
use Rattle.aprs_fold.proofs.taking_new.put_new.Goals as goal

pub returns-then-is_known-clause-wrote : goal.returns-then-is_known-clause-wrote
returns-then-is_known-clause-wrote g c =
    new_none (list_of_row c.args.known) c.args.row.now
    (subst (λ (x : Row). x ∈ (list_of_row c.args.known)) c.row.ensures
    (c.is_known.ensures.same c.if-is_known.true))

pub returns-then-is_known-clause-puts : goal.returns-then-is_known-clause-puts
returns-then-is_known-clause-puts g c =
    subst (λ (l : List Row). HasPut g.W.Write.contents c.args.out.now c.args.out.now l)
    (sym (new_none (list_of_row c.args.known) c.args.row.now
    (subst (λ (x : Row). x ∈ (list_of_row c.args.known)) c.row.ensures
    (c.is_known.ensures.same c.if-is_known.true))))
    (HasPut-none c.args.out.now)

pub returns-in_err-put-clause-fails : goal.returns-in_err-put-clause-fails
returns-in_err-put-clause-fails g c =
    in_err _ _ c.from_residual.ensures.1
    (refl, Puts-fails (Err Write) refl c.in_err-put.ensures.puts [])

pub returns-clause-wrote : goal.returns-clause-wrote
returns-clause-wrote g c = (
  c.args.row.now,
  new_one (list_of_row c.args.known) c.args.row.now (λ h. c.is_known.ensures.other
      c.if-is_known.false (subst (λ (x : Row). x ∈ (list_of_row c.args.known)) (sym c.row.ensures) h)),
)

pub returns-clause-puts : goal.returns-clause-puts
returns-clause-puts g c =
    subst (λ (l : List Row). HasPut g.W.Write.contents c.args.out.now c.put.new.out l)
    (sym (new_one (list_of_row c.args.known) c.args.row.now (λ h. c.is_known.ensures.other
    c.if-is_known.false (subst (λ (x : Row). x ∈ (list_of_row c.args.known)) (sym c.row.ensures) h))))
    (HasPut-one c.args.out.now c.put.new.out c.args.row.now c.in_ok-put.ensures.puts
    c.in_ok-put.ensures.spelled)
