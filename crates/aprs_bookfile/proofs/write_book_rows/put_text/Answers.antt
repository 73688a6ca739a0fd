use Rattle.aprs_bookfile.proofs.Common.{◌≡◌, length, Err, arith, ap, refl, rules, sym, Puts-fails, Puts-is, Puts-then}
use Rattle.aprs_bookfile.specs.Text.{IsBookRows, written_version}
use Rattle.aprs_bookfile.proofs.TextParts.{text_parts}
use Rattle.aprs_bookfile.proofs.Written.{PutSoFar-all, PutSoFar-broken, PutSoFar-each, PutSoFar-more, PutSoFar-none, book_rows}
use Rattle.aprs_bookfile.proofs.write_book_rows.put_text.Goals as goal

pub returns-in_err-put-clause-puts : goal.returns-in_err-put-clause-puts
returns-in_err-put-clause-puts g c =
    let whole = text_parts c.args.rows _ _ c.gap.ensures.value (cc) _ _ refl refl in
    Puts-is (Puts-fails _ c.from_residual.ensures.0 c.in_err-put.ensures _) (sym whole)

pub loop-row-init : goal.loop-row-init
loop-row-init g c = rw c.into_iter-row-iterator.ensures.into_iter_gives
    (record { put = PutSoFar-none _ _; left = omega arith })

pub overflow_add-count : goal.overflow_add-count
overflow_add-count g c =
    let one = ap length c.in-Some.ensures.steps in
    omega (arith, one, c.loop-row.invariant.left, c.most_rows-most.ensures)

pub returns-in_err-put_row-clause-puts : goal.returns-in_err-put_row-clause-puts
returns-in_err-put_row-clause-puts g c =
    let whole = text_parts c.args.rows _ _ c.gap.ensures.value (cc) _ _ refl refl in
    Puts-is (Puts-then c.in_ok-put.ensures (Puts-fails _ c.from_residual-in_err-put_row.ensures.0
    (PutSoFar-broken c.loop-row.invariant.put _ _ c.in-Some.ensures.steps (Err _) refl
    c.in_err-put_row.ensures.puts) _)) (sym whole)

pub loop-row-preserved : goal.loop-row-preserved
loop-row-preserved g c =
    let one = ap length c.in-Some.ensures.steps in
    record {
      put = PutSoFar-more c.loop-row.invariant.put _ _ c.in-Some.ensures.steps _
          c.gap.ensures.sound.sound c.in_ok-put_row.ensures.puts c.in_ok-put_row.ensures.spelled;
      left = omega (arith, one, c.loop-row.invariant.left);
    }

pub returns-clause-puts : goal.returns-clause-puts
returns-clause-puts g c =
    let none = ap length c.in-None.ensures.steps.0 in
    let counted : c.loop-row.count ≡ length c.args.rows.rows =
    omega (arith, none, c.loop-row.invariant.left) in
    let whole = text_parts c.args.rows _ _ c.gap.ensures.value (cc) _ _ counted (cc) in
    Puts-is (Puts-then c.in_ok-put.ensures (Puts-then
    (PutSoFar-all c.loop-row.invariant.put c.in-None.ensures.steps.0) c.put-2.ensures)) (sym whole)

pub returns-clause-spelled : goal.returns-clause-spelled
returns-clause-spelled g c =
    let is : IsBookRows (written_version c.args.rows) c.args.rows.rows =
    book_rows c.args.rows c.gap.ensures.sound
    (PutSoFar-each c.loop-row.invariant.put c.in-None.ensures.steps.0) in
    search rules
