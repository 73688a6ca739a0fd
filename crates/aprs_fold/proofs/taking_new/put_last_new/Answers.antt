use Rattle.aprs_fold.proofs.Common.{◌∙◌, ap, sym, IfErr-weaker}
use Rattle.aprs_bookfile.specs.RowReader.{list_of_row}
use Rattle.aprs_fold.proofs.Kept.{is_row_within}
use Rattle.aprs_fold.proofs.Puttings.{one_within, one_without}
use Rattle.aprs_fold.proofs.PuttingNew.{fails_one, puts_none, puts_one}
use Rattle.aprs_fold.proofs.taking_new.put_last_new.Goals as goal

pub returns-then-not-contains_row-clause-puts : goal.returns-then-not-contains_row-clause-puts
returns-then-not-contains_row-clause-puts g c =
    puts_none g.W.Write.contents c.args.range.now (list_of_row c.args.known) c.args.out.now
    (list_of_row c.args.last) (one_without c.args.range.now c.in-Some.row
    (list_of_row c.args.last) (ap list_of_row c.in-Some.is)
    (ap (is_row_within c.args.range.now) (sym c.row.ensures) ∙ sym c.contains_row.ensures
    ∙ c.if-not-contains_row.true))

pub returns-clause-puts : goal.returns-clause-puts
returns-clause-puts g c =
    let kept = one_within c.args.range.now c.in-Some.row (list_of_row c.args.last) (ap list_of_row c.in-Some.is)
    (ap (is_row_within c.args.range.now) (sym c.row.ensures) ∙ sym c.contains_row.ensures
    ∙ c.if-not-contains_row.false) in
    puts_one g.W.Write.contents c.args.range.now (list_of_row c.args.known) c.in-Some.row (list_of_row c.args.last) kept
    c.args.out.now c.put_new.new.out c.put_new.result c.put_new.ensures.wrote c.put_new.ensures.puts

pub returns-clause-fails : goal.returns-clause-fails
returns-clause-fails g c =
    let kept = one_within c.args.range.now c.in-Some.row (list_of_row c.args.last) (ap list_of_row c.in-Some.is)
    (ap (is_row_within c.args.range.now) (sym c.row.ensures) ∙ sym c.contains_row.ensures
    ∙ c.if-not-contains_row.false) in
    IfErr-weaker c.put_new.result _ _ (λ fault fails. fails_one g.W.Write.contents
    c.args.range.now (list_of_row c.args.known) c.in-Some.row (list_of_row c.args.last) kept c.args.out.now
    c.put_new.new.out fault fails) c.put_new.ensures.fails
