use Rattle.aprs_fold.proofs.Common.{◌∙◌, [], Err, List, Row, refl, sym, ap, subst, Puts-fails, Puts-is}
use Rattle.aprs_bookfile.specs.RowReader.{list_of_row}
use Rattle.aprs_fold.specs.Taking.{lines_of_rows, HasPut}
use Rattle.aprs_fold.specs.declared.fault.FoldFault.TheVariants.{Write}
use Rattle.aprs_fold.proofs.InErr.{in_err}
use Rattle.aprs_fold.proofs.Kept.{is_row_within}
use Rattle.aprs_fold.proofs.Puttings.{one_within, one_without, HasPut-none, HasPut-one}
use Rattle.aprs_fold.proofs.taking.put_last.Goals as goal

pub returns-then-not-contains_row-clause-wrote : goal.returns-then-not-contains_row-clause-wrote
returns-then-not-contains_row-clause-wrote g c =
    one_without c.args.range.now c.in-Some.row (list_of_row c.args.last) (ap list_of_row c.in-Some.is)
    (ap (is_row_within c.args.range.now) (sym c.row.ensures) ∙ sym c.contains_row.ensures
    ∙ c.if-not-contains_row.true)

pub returns-then-not-contains_row-clause-puts : goal.returns-then-not-contains_row-clause-puts
returns-then-not-contains_row-clause-puts g c =
    subst (λ (l : List Row). HasPut g.W.Write.contents c.args.out.now c.args.out.now l)
    (sym (one_without c.args.range.now c.in-Some.row (list_of_row c.args.last) (ap list_of_row c.in-Some.is)
    (ap (is_row_within c.args.range.now) (sym c.row.ensures) ∙ sym c.contains_row.ensures
    ∙ c.if-not-contains_row.true)))
    (HasPut-none c.args.out.now)

pub returns-in_err-put-clause-fails : goal.returns-in_err-put-clause-fails
returns-in_err-put-clause-fails g c =
    in_err _ _ c.from_residual.ensures.1 (
      refl,
      Puts-is (Puts-fails (Err Write) refl c.in_err-put.ensures.puts [])
          (ap lines_of_rows (sym (one_within c.args.range.now c.in-Some.row (list_of_row c.args.last)
          (ap list_of_row c.in-Some.is) (ap (is_row_within c.args.range.now) (sym c.row.ensures) ∙ sym
          c.contains_row.ensures
          ∙ c.if-not-contains_row.false)))),
    )

pub returns-clause-wrote : goal.returns-clause-wrote
returns-clause-wrote g c = (
  c.in-Some.row,
  one_within c.args.range.now c.in-Some.row (list_of_row c.args.last) (ap list_of_row c.in-Some.is)
      (ap (is_row_within c.args.range.now) (sym c.row.ensures) ∙ sym c.contains_row.ensures
      ∙ c.if-not-contains_row.false),
)

pub returns-clause-puts : goal.returns-clause-puts
returns-clause-puts g c =
    subst (λ (l : List Row). HasPut g.W.Write.contents c.args.out.now c.put.new.out l)
    (sym (one_within c.args.range.now c.in-Some.row (list_of_row c.args.last) (ap list_of_row c.in-Some.is)
    (ap (is_row_within c.args.range.now) (sym c.row.ensures) ∙ sym c.contains_row.ensures
    ∙ c.if-not-contains_row.false)))
    (HasPut-one c.args.out.now c.put.new.out c.in-Some.row c.in_ok-put.ensures.puts
    c.in_ok-put.ensures.spelled)
