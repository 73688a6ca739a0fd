use Rattle.aprs_bookfile.proofs.Common.{◌∙◌, arith, refl, sym, err_from_is_err_and, on_ok_weaker, IfErr-weaker}
use Rattle.aprs_bookfile.proofs.RowStreams.{ends_rest, got_kept, steps_kept, text_got}
use Rattle.aprs_bookfile.proofs.row_stream.RowStream.read_lines.Goals as goal

pub loop-self-init : goal.loop-self-init
loop-self-init g c = record {
  size = omega arith;
  keeping = refl;
  all = λ limit head first rows h. got_kept g.R.Read.remaining limit head first c.args.source.now
      c.args.self.now rows c.requires.each h;
}

pub returns-in_err-step-clause-fault : goal.returns-in_err-step-clause-fault
returns-in_err-step-clause-fault g c =
    let p = err_from_is_err_and c.from_residual.result c.from_residual.ensures.1 in
    rw (p.1, p.2) (λ limit head first rows h. c.in_err-step.ensures.fault limit head first
    c.loop-self.self.reader.rows (c.loop-self.invariant.all limit head first rows h))

pub returns-in_err-step-clause-stops : goal.returns-in_err-step-clause-stops
returns-in_err-step-clause-stops g c =
    let p = err_from_is_err_and c.from_residual.result c.from_residual.ensures.1 in
    rw (p.1, p.2) (λ limit head first rows h. c.in_err-step.ensures.stops limit head first
    c.loop-self.self.reader.rows (c.loop-self.invariant.all limit head first rows h))

pub loop-self-preserved : goal.loop-self-preserved
loop-self-preserved g c = record {
  size = omega (arith, c.loop-self.invariant.size, c.in_ok-step.ensures.size);
  keeping = c.in_ok-step.ensures.keeping ∙ c.loop-self.invariant.keeping;
  all = λ limit head first rows h.
      steps_kept g.R.Read.remaining limit head first c.step.new.source c.step.new.self
      c.loop-self.self.reader.rows _
      (c.in_ok-step.ensures.keeping ∙ c.loop-self.invariant.keeping ∙ c.requires.each)
      (c.in_ok-step.ensures.steps limit head first c.loop-self.self.reader.rows
      (c.loop-self.invariant.all limit head first rows h));
}

pub returns-clause-all : goal.returns-clause-all
returns-clause-all g c =
    on_ok_weaker c.refuse_rest.result (λ none limit head first rows h.
    c.loop-self.invariant.all limit head first rows h) c.refuse_rest.ensures.none

pub returns-clause-fault : goal.returns-clause-fault
returns-clause-fault g c =
    IfErr-weaker c.refuse_rest.result _ _ (λ f is limit head first rows h.
    ends_rest g.R.Read.remaining c.loop-self.source c.loop-self.self f is limit head first _
    (text_got g.R.Read.remaining limit head first c.loop-self.source c.loop-self.self _
    (c.loop-self.invariant.all limit head first rows h))) c.refuse_rest.ensures.fault

pub returns-clause-stops : goal.returns-clause-stops
returns-clause-stops g c =
    IfErr-weaker c.refuse_rest.result _ _ (λ f is limit head first rows h each e.
    absurd (let other = sym is.0 ∙ e in cc)) c.refuse_rest.ensures.fault
