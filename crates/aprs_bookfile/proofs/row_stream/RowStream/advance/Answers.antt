use Rattle.aprs_bookfile.proofs.Common.{◌∙◌, Bool, arith, sym, subst, err_from_is_err_and, on_ok_weaker, IfErr-weaker}
use Rattle.aprs_bookfile.specs.RowStream.{StepsTo}
use Rattle.aprs_bookfile.proofs.RowStreams.{ends_faulty, ends_ok, gets_none, gets_row, not_ended, text_got}
use Rattle.aprs_bookfile.proofs.Moves.{taken_end, taken_row}
use Rattle.aprs_bookfile.specs.RowReader.{MovesOn}
use Rattle.aprs_bookfile.proofs.row_stream.RowStream.advance.Goals as goal

pub returns-in_err-step-clause-fault : goal.returns-in_err-step-clause-fault
returns-in_err-step-clause-fault g c =
    let p = err_from_is_err_and c.from_residual.result c.from_residual.ensures.1 in
    rw (p.1, p.2) (λ limit head first rows h. c.in_err-step.ensures.fault limit head first rows
    (c.loop-self.invariant.fed limit head first rows h))

pub returns-then-branch-clause-one : goal.returns-then-branch-clause-one
returns-then-branch-clause-one g c = λ limit head first rows h.
    gets_row g.R.Read.remaining limit head first c.step.new.source c.step.new.self rows
    (subst (λ (b : Bool). StepsTo g.R.Read.remaining b limit head first c.step.new.source
    c.step.new.self rows) c.if-branch.true
    (c.in_ok-step.ensures.steps limit head first rows
    (c.loop-self.invariant.fed limit head first rows h)))

pub loop-self-preserved : goal.loop-self-preserved
loop-self-preserved g c = record {
  size = omega (arith, c.loop-self.invariant.size, c.in_ok-step.ensures.size);
  less = omega (arith, c.loop-self.invariant.less, c.in_ok-step.ensures.less);
  keeping = c.in_ok-step.ensures.keeping ∙ c.loop-self.invariant.keeping;
  rows = λ last. subst (λ (b : Bool). MovesOn b c.step.new.self.reader.stage
      c.loop-self.self.reader.rows c.step.new.self.reader.rows c.step.new.self.reader.taken)
      c.if-branch.false (c.in_ok-step.ensures.moves (c.loop-self.invariant.keeping ∙ last))
      ∙ c.loop-self.invariant.rows last;
  version = λ v is. c.in_ok-step.ensures.version v (c.loop-self.invariant.version v is);
  fed = λ limit head first rows h.
      subst (λ (b : Bool). StepsTo g.R.Read.remaining b limit head first c.step.new.source
      c.step.new.self rows) c.if-branch.false
      (c.in_ok-step.ensures.steps limit head first rows
      (c.loop-self.invariant.fed limit head first rows h));
}

pub returns-clause-one : goal.returns-clause-one
returns-clause-one g c =
    on_ok_weaker c.end.result (λ ends limit head first rows h.
    gets_none g.R.Read.remaining limit head first c.end.new.source c.loop-self.self
    c.end.new.self rows (sym c.is_done.ensures ∙ c.loop-self-test.false) c.end.ensures.reader
    (ends limit head first rows (text_got g.R.Read.remaining limit head first c.loop-self.source
    c.loop-self.self rows (c.loop-self.invariant.fed limit head first rows h))))
    (ends_ok g.R.Read.remaining c.loop-self.source c.end.new.source c.loop-self.self c.end.result
    c.end.ensures.answer)

pub returns-clause-less : goal.returns-clause-less
returns-clause-less g c =
    on_ok_weaker c.end.result (λ size e. absurd (not_ended c.loop-self.self c.end.new.self
    (sym c.is_done.ensures ∙ c.loop-self-test.false) c.end.ensures.reader e)) c.end.ensures.size

pub returns-clause-fault : goal.returns-clause-fault
returns-clause-fault g c =
    IfErr-weaker c.end.result _ _ (λ f faulty limit head first rows h.
    faulty limit head first rows (text_got g.R.Read.remaining limit head first c.loop-self.source
    c.loop-self.self rows (c.loop-self.invariant.fed limit head first rows h)))
    (ends_faulty g.R.Read.remaining c.loop-self.source c.end.new.source c.loop-self.self
    c.end.result c.end.ensures.answer)

pub returns-then-branch-clause-taken : goal.returns-then-branch-clause-taken
returns-then-branch-clause-taken g c = λ limit head first rows last h.
    let moves = subst (λ (b : Bool). MovesOn b c.step.new.self.reader.stage
    c.loop-self.self.reader.rows c.step.new.self.reader.rows c.step.new.self.reader.taken)
    c.if-branch.true (c.in_ok-step.ensures.moves (c.loop-self.invariant.keeping ∙ last)) in
    taken_row g.R.Read.remaining c.args.source.now c.args.self.now c.step.new.self moves.0
    (λ e. moves.1 ∙ c.loop-self.invariant.rows last) limit head first rows last h

pub returns-clause-taken : goal.returns-clause-taken
returns-clause-taken g c =
    on_ok_weaker c.end.result (λ size. taken_end g.R.Read.remaining c.args.source.now
    c.args.self.now c.end.new.self
    (rw c.end.ensures.reader (sym c.is_done.ensures ∙ c.loop-self-test.false))
    (rw c.end.ensures.reader c.loop-self.invariant.rows)) c.end.ensures.size

pub returns-clause-keeping : goal.returns-clause-keeping
returns-clause-keeping g c = rw c.end.ensures.reader c.loop-self.invariant.keeping
