use Rattle.aprs_runs.proofs.Common.{single, ap, map, refl, rules, sym, ◌∙◌, ◌++◌, ◌∷◌, [], subst, IfSome, Ok, Err, err_from_is_err_and, Calls, Going, device_of, Calls-none, Calls-then, receptions_of, current_of, lent_device, Line}
use Rattle.aprs_io.specs.Device.{End}
use Rattle.aprs_runs.specs.Gathered.{with_rows}
use Rattle.aprs_runs.specs.InputRows.{HoldsOfGot, ReadsLog}
use Rattle.aprs_runs.specs.declared.fault.InputFault.TheVariants.{Log, Memory}
use Rattle.aprs_log.specs.Awaits.{last_of_cause}
use Rattle.aprs_runs.proofs.Logs.{Took-none, Took-line, Took-ended, Took-fault, Took-refused}
use Rattle.aprs_runs.proofs.input.read_log.Goals as goal

pub lines-init : goal.lines-init
lines-init g c = record {
  same_reference = refl;
  calls = subst (Calls Going c.args.r.now) (sym c.new-reader.ensures.source) (Calls-none _);
  going = c.new-reader.ensures.starts.going;
  took = λ end. Took-none _ _;
  gap = refl;
}

pub lines-preserved : goal.lines-preserved
lines-preserved g c =
    let gives = rw c.if-not-branch.false at c.in_ok-advance.ensures.gives in
    record {
      same_reference = cc;
      calls = Calls-then c.lines.invariant.calls
          (rw c.if-not-branch.false at (c.in_ok-advance.ensures.calls c.lines.invariant.going));
      going = gives.1;
      took = λ end. Took-line _ _ _ _ _ _ _ (current_of c.advance.new.self) refl
          (c.lines.invariant.took end) (gives.2 end)
          (c.in_ok-push_heard.ensures.pushed
          ∙ ap (λ (y : Line). with_rows c.lines.store (map single (receptions_of (y ∷ []))))
          c.current.ensures);
      gap = c.push_heard.ensures.gap ∙ c.lines.invariant.gap;
    }

pub returns-then-not-branch-clause-reads : goal.returns-then-not-branch-clause-reads
returns-then-not-branch-clause-reads g c =
    let gives = rw c.if-not-branch.true at c.in_ok-advance.ensures.gives in
    let loan = c.in_ok-advance.ensures.same_reference ∙ c.lines.invariant.same_reference
    ∙ c.new-reader.ensures.same_reference in
    let back = c.r-then-not-branch-1.given.1 (sym loan) in
    subst (λ k. IfSome (g.R.Read.remaining (device_of c.args.r.now))
    (λ input. HoldsOfGot c.args.limit (c.args.head.now ++ input) k
    (ReadsLog (Ok tt) c.args.store.now c.lines.store)))
    (ap (λ k. g.R.Read.remaining (device_of k)) (sym back))
    (Took-ended _ _ _ _ _ _ c.args.limit c.args.head.now (c.lines.invariant.took _)
    gives.2 (c.new-reader.ensures.whole _))

pub returns-in_err-advance-clause-reads : goal.returns-in_err-advance-clause-reads
returns-in_err-advance-clause-reads g c =
    let p = err_from_is_err_and c.from_residual.result c.from_residual.ensures.1 in
    let loan = c.in_err-advance.ensures.same_reference ∙ c.lines.invariant.same_reference
    ∙ c.new-reader.ensures.same_reference in
    let back = c.in_err-advance.r-1-own.given.1 (sym loan) in
    let fault = c.in_err-advance.field-0.0 in
    rw (p.1, p.2)
    (subst (λ k. IfSome (g.R.Read.remaining (device_of c.args.r.now))
    (λ input. HoldsOfGot c.args.limit (c.args.head.now ++ input) k
    (ReadsLog (Err (Log fault)) c.args.store.now c.lines.store)))
    (ap (λ k. g.R.Read.remaining (device_of k)) (sym back))
    (Took-fault _ _ _ _ _ _ c.args.limit c.args.head.now fault
    (c.lines.invariant.took _) c.in_err-advance.ensures.gives.2 (c.new-reader.ensures.whole _)))

pub returns-in_err-push_heard-clause-reads : goal.returns-in_err-push_heard-clause-reads
returns-in_err-push_heard-clause-reads g c =
    let p = err_from_is_err_and c.from_residual-in_err-push_heard.result
    c.from_residual-in_err-push_heard.ensures.1 in
    let gives = rw c.if-not-branch.false at c.in_ok-advance.ensures.gives in
    let remaining = g.R.Read.remaining in
    let loan = c.in_ok-advance.ensures.same_reference ∙ c.lines.invariant.same_reference
    ∙ c.new-reader.ensures.same_reference in
    let back = c.in_err-push_heard.r-in-Break-branch-2-1-own.given.1 (sym loan) in
    rw (p.1, p.2)
    (subst (λ k. IfSome (remaining (device_of c.args.r.now))
    (λ input. HoldsOfGot c.args.limit (c.args.head.now ++ input) (remaining (device_of k))
    (ReadsLog (Err Memory) c.args.store.now c.push_heard.new.store))) (sym back)
    (Took-refused _ _ _ _ _ c.push_heard.new.store (remaining (device_of c.args.r.now))
    (remaining (device_of (lent_device c.advance.new.self))) c.args.limit c.args.head.now
    (current_of c.advance.new.self) (c.lines.invariant.took _) (gives.2 _)
    c.in_ok-advance.ensures.awaits.0 c.in_ok-advance.ensures.awaits.1
    (c.new-reader.ensures.whole _)))

pub returns-then-not-branch-clause-calls : goal.returns-then-not-branch-clause-calls
returns-then-not-branch-clause-calls g c = subst (Calls End c.args.r.now) (search rules)
    (Calls-then c.lines.invariant.calls
    (rw c.if-not-branch.true at (c.in_ok-advance.ensures.calls c.lines.invariant.going)))

pub returns-in_err-advance-clause-calls : goal.returns-in_err-advance-clause-calls
returns-in_err-advance-clause-calls g c =
    let p = err_from_is_err_and c.from_residual.result c.from_residual.ensures.1 in
    rw (p.1, p.2)
    (subst (Calls (last_of_cause c.in_err-advance.field-0.0.cause) c.args.r.now) (search rules)
    (Calls-then c.lines.invariant.calls (c.in_err-advance.ensures.calls c.lines.invariant.going)))

pub returns-in_err-push_heard-clause-calls : goal.returns-in_err-push_heard-clause-calls
returns-in_err-push_heard-clause-calls g c =
    let p = err_from_is_err_and c.from_residual-in_err-push_heard.result
    c.from_residual-in_err-push_heard.ensures.1 in
    rw (p.1, p.2) (subst (Calls Going c.args.r.now) (search rules)
    (Calls-then c.lines.invariant.calls
    (rw c.if-not-branch.false at (c.in_ok-advance.ensures.calls c.lines.invariant.going))))
