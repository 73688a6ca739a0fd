use Rattle.aprs_convert.proofs.Common.{inl, inr, arith, refl, sym, ◌∙◌, None, Ok, Err, subst, rules, err_from_is_err_and, Calls, Going, Calls-none, Calls-then, current_of, lent_device}
use Rattle.aprs_convert.specs.Check.{Checks}
use Rattle.aprs_convert.specs.Plan.{check_plan}
use Rattle.aprs_convert.proofs.Planned.{runs_back}
use Rattle.aprs_convert.proofs.Writings.{checks}
use Rattle.aprs_convert.specs.declared.fault.ConvertFault.TheVariants.{Log, Write}
use Rattle.aprs_convert.proofs.Checked.{Checked-none, Checked-sum, Checked-heard, Checked-passed, Checked-refused, Checked-ended, Checked-totals_refused, Checked-fault}
use Rattle.aprs_convert.proofs.check.check_log.Goals as goal

pub lines-init : goal.lines-init
lines-init g c = record {
  same_reference = refl;
  reads = subst (Calls Going c.args.r.now) (sym c.new-reader.ensures.source) (Calls-none _);
  writes = Calls-none _;
  going = c.new-reader.ensures.starts.going;
  checked = λ end. Checked-none _ _ _ c.new-reader.ensures.starts.first;
}

pub overflow_add-heard : goal.overflow_add-heard
overflow_add-heard g c =
    let sum = Checked-sum _ _ _ _ _ _ _ (c.lines.invariant.checked None) in
    let few = c.lines.reader.few in
    omega (arith, sum, few)

pub lines-preserved-in-Heard : goal.lines-preserved-in-Heard
lines-preserved-in-Heard g c =
    let gives = rw c.if-not-branch.false at c.in_ok-advance.ensures.gives in
    record {
      same_reference = cc;
      reads = Calls-then c.lines.invariant.reads
          (rw c.if-not-branch.false at (c.in_ok-advance.ensures.calls c.lines.invariant.going));
      writes = c.lines.invariant.writes;
      going = gives.1;
      checked = λ end. Checked-heard _ _ _ _ _ _ _ _ (c.lines.invariant.checked end) _ gives.0
          (current_of c.advance.new.self) _
          (sym c.current.ensures ∙ c.in-Heard.is) (gives.2 end);
    }

pub overflow_add-passed : goal.overflow_add-passed
overflow_add-passed g c =
    let sum = Checked-sum _ _ _ _ _ _ _ (c.lines.invariant.checked None) in
    let few = c.lines.reader.few in
    omega (arith, sum, few)

pub lines-preserved : goal.lines-preserved
lines-preserved g c =
    let gives = rw c.if-not-branch.false at c.in_ok-advance.ensures.gives in
    record {
      same_reference = cc;
      reads = Calls-then c.lines.invariant.reads
          (rw c.if-not-branch.false at (c.in_ok-advance.ensures.calls c.lines.invariant.going));
      writes = Calls-then c.lines.invariant.writes
          c.in_ok-write_passed-in-Passed.ensures.calls;
      going = gives.1;
      checked = λ end. Checked-passed _ _ _ _ _ _ _ _ (c.lines.invariant.checked end) _ gives.0 _ _
          (current_of c.advance.new.self) _
          c.line.ensures (sym c.current.ensures
          ∙ c.in-Passed.is) (gives.2 end)
          c.in_ok-write_passed-in-Passed.ensures.sent;
    }

pub returns-in_err-write_passed-in-Passed :
    goal.returns-in_err-write_passed-in-Passed
returns-in_err-write_passed-in-Passed g c =
    let p = err_from_is_err_and c.from_residual-in_err-write_passed-in-Passed.result
    c.from_residual-in_err-write_passed-in-Passed.ensures.1 in
    let gives = rw c.if-not-branch.false at c.in_ok-advance.ensures.gives in
    rw (p.1, p.2) (runs_back check_plan c.args.limit g.R.Read.remaining g.W.Write.contents (Err Write)
    c.args.r.now (lent_device c.advance.new.self) _ c.args.w.now c.write_passed.new.w
    (search rules depth 1) (record {
      run = Checked-refused _ _ _ _ _ _ _ _ (c.lines.invariant.checked _) _ gives.0 c.args.limit _ _ _ _
          (current_of c.advance.new.self) _
          c.line.ensures (sym c.current.ensures ∙ c.in-Passed.is)
          (gives.2 _) c.in_ok-advance.ensures.awaits.0 c.in_ok-advance.ensures.awaits.1
          c.in_err-write_passed-in-Passed.ensures.prefix (c.new-reader.ensures.whole _);
      reads = inl (Calls-then c.lines.invariant.reads
          (rw c.if-not-branch.false at (c.in_ok-advance.ensures.calls c.lines.invariant.going)));
      writes = Calls-then c.lines.invariant.writes
          c.in_err-write_passed-in-Passed.ensures.calls;
    }) Checks checks)

pub returns-then-not-branch : goal.returns-then-not-branch
returns-then-not-branch g c =
    let gives = rw c.if-not-branch.true at c.in_ok-advance.ensures.gives in
    runs_back check_plan c.args.limit g.R.Read.remaining g.W.Write.contents (Ok tt)
    c.args.r.now (lent_device c.advance.new.self) _ c.args.w.now c.write_totals.new.w
    (search rules depth 1) (record {
      run = Checked-ended _ _ _ _ _ _ _ (c.lines.invariant.checked _) c.args.limit _ _
          (c.new-reader.ensures.whole _) _ gives.2 c.in_ok-write_totals.ensures.sent;
      reads = Calls-then c.lines.invariant.reads
          (rw c.if-not-branch.true at (c.in_ok-advance.ensures.calls c.lines.invariant.going));
      writes = Calls-then c.lines.invariant.writes c.in_ok-write_totals.ensures.calls;
    }) Checks checks

pub returns-in_err-write_totals : goal.returns-in_err-write_totals
returns-in_err-write_totals g c =
    let p = err_from_is_err_and c.from_residual-in_err-write_totals.result
    c.from_residual-in_err-write_totals.ensures.1 in
    let gives = rw c.if-not-branch.true at c.in_ok-advance.ensures.gives in
    rw (p.1, p.2) (runs_back check_plan c.args.limit g.R.Read.remaining g.W.Write.contents (Err Write)
    c.args.r.now (lent_device c.advance.new.self) _ c.args.w.now c.write_totals.new.w
    (search rules depth 1) (record {
      run = Checked-totals_refused _ _ _ _ _ _ _ (c.lines.invariant.checked _) c.args.limit _ _
          (c.new-reader.ensures.whole _) _ gives.2 c.in_err-write_totals.ensures.prefix;
      reads = inr (Calls-then c.lines.invariant.reads
          (rw c.if-not-branch.true at (c.in_ok-advance.ensures.calls c.lines.invariant.going)));
      writes = Calls-then c.lines.invariant.writes c.in_err-write_totals.ensures.calls;
    }) Checks checks)

pub returns-in_err-advance : goal.returns-in_err-advance
returns-in_err-advance g c =
    let p = err_from_is_err_and c.from_residual.result c.from_residual.ensures.1 in
    let fault = c.in_err-advance.field-0.0 in
    rw (p.1, p.2) (runs_back check_plan c.args.limit g.R.Read.remaining g.W.Write.contents (Err (Log fault))
    c.args.r.now (lent_device c.advance.new.self) _ c.args.w.now c.lines.w
    (search rules depth 1) (record {
      run = Checked-fault _ _ _ _ _ _ _ (c.lines.invariant.checked _) c.args.limit _ _
          (c.new-reader.ensures.whole _) fault _ refl
          c.in_err-advance.ensures.gives.2;
      reads = Calls-then c.lines.invariant.reads
          (c.in_err-advance.ensures.calls c.lines.invariant.going);
      writes = c.lines.invariant.writes;
    }) Checks checks)
