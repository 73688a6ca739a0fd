use Rattle.aprs_convert.proofs.Common.{inl, sym, refl, subst, Ok, Err, rules, err_from_is_err_and, Calls, Going, Calls-none, Calls-then, current_of, lent_device}
use Rattle.aprs_convert.specs.declared.fault.ConvertFault.TheVariants.{Log, Write}
use Rattle.aprs_convert.specs.Plan.{line_text, lines_plan}
use Rattle.aprs_convert.proofs.Planned.{planned_back}
use Rattle.aprs_convert.proofs.Seen.{Ran-none, Ran-line, Ran-refused, Ran-fault, Ran-ended}
use Rattle.aprs_convert.proofs.convert.convert_lines.Goals as goal

pub lines-init : goal.lines-init
lines-init g c = record {
  same_reference = refl;
  reads = subst (Calls Going c.args.r.now) (sym c.new-reader.ensures.source) (Calls-none _);
  writes = Calls-none _;
  going = c.new-reader.ensures.starts.going;
  ran = λ end. Ran-none _ _ _;
}

pub lines-preserved : goal.lines-preserved
lines-preserved g c =
    let gives = rw c.if-not-branch.false at c.in_ok-advance.ensures.gives in
    record {
      same_reference = cc;
      reads = Calls-then c.lines.invariant.reads
          (rw c.if-not-branch.false at (c.in_ok-advance.ensures.calls c.lines.invariant.going));
      writes = Calls-then c.lines.invariant.writes c.in_ok-write_line_as.ensures.calls;
      going = gives.1;
      ran = λ end. Ran-line (line_text c.args.form.now) _ _ _ _ _ _
          (current_of c.advance.new.self) _ c.current.ensures (c.lines.invariant.ran end)
          (gives.2 end) c.in_ok-write_line_as.ensures.sent;
    }

pub returns-in_err-write_line_as : goal.returns-in_err-write_line_as
returns-in_err-write_line_as g c =
    let p = err_from_is_err_and c.from_residual-in_err-write_line_as.result
    c.from_residual-in_err-write_line_as.ensures.1 in
    let gives = rw c.if-not-branch.false at c.in_ok-advance.ensures.gives in
    rw (p.1, p.2) (planned_back (lines_plan c.args.form.now) c.args.limit g.R.Read.remaining
    g.W.Write.contents (Err Write) c.args.r.now (lent_device c.advance.new.self) _ c.args.w.now c.write_line_as.new.w
    (search rules depth 1) (record {
      run = Ran-refused c.args.form.now _ _ _ c.args.limit _ _ _ _ _
          (current_of c.advance.new.self) _ c.current.ensures (c.lines.invariant.ran _)
          (gives.2 _) c.in_ok-advance.ensures.awaits.0 c.in_ok-advance.ensures.awaits.1
          c.in_err-write_line_as.ensures.prefix (c.new-reader.ensures.whole _);
      reads = inl (Calls-then c.lines.invariant.reads
          (rw c.if-not-branch.false at (c.in_ok-advance.ensures.calls c.lines.invariant.going)));
      writes = Calls-then c.lines.invariant.writes c.in_err-write_line_as.ensures.calls;
    }))

pub returns-in_err-advance : goal.returns-in_err-advance
returns-in_err-advance g c =
    let p = err_from_is_err_and c.from_residual.result c.from_residual.ensures.1 in
    let fault = c.in_err-advance.field-0.0 in
    rw (p.1, p.2) (planned_back (lines_plan c.args.form.now) c.args.limit g.R.Read.remaining
    g.W.Write.contents (Err (Log fault)) c.args.r.now (lent_device c.advance.new.self) _ c.args.w.now c.lines.w
    (search rules depth 1) (record {
      run = Ran-fault c.args.form.now _ _ c.args.limit _ _ _ _ fault _ refl (c.lines.invariant.ran _)
          c.in_err-advance.ensures.gives.2 (c.new-reader.ensures.whole _);
      reads = Calls-then c.lines.invariant.reads
          (c.in_err-advance.ensures.calls c.lines.invariant.going);
      writes = c.lines.invariant.writes;
    }))

pub returns-then-not-branch : goal.returns-then-not-branch
returns-then-not-branch g c =
    let gives = rw c.if-not-branch.true at c.in_ok-advance.ensures.gives in
    planned_back (lines_plan c.args.form.now) c.args.limit g.R.Read.remaining
    g.W.Write.contents (Ok tt) c.args.r.now (lent_device c.advance.new.self) _ c.args.w.now c.lines.w
    (search rules depth 1) (record {
      run = Ran-ended c.args.form.now _ _ c.args.limit _ _ _ _ (c.lines.invariant.ran _) gives.2
          (c.new-reader.ensures.whole _);
      reads = Calls-then c.lines.invariant.reads
          (rw c.if-not-branch.true at (c.in_ok-advance.ensures.calls c.lines.invariant.going));
      writes = c.lines.invariant.writes;
    })
