use Rattle.aprs_report.proofs.Common.{◌∙◌, sym, arith, length-take, ℕ}
use Rattle.aprs_report.specs.TrailingBytes.{is_trailing}
use Rattle.aprs_report.proofs.Cuts.{cut_one, cut_none, cut_nothing}
use Rattle.aprs_report.proofs.bytes.Trailing.cut.Goals as goal

pub returns-then-not-has-clause-exact : goal.returns-then-not-has-clause-exact
returns-then-not-has-clause-exact c =
    cut_none (is_trailing c.args.self) c.loop-rest.rest.now c.in-len1-up.len_at_least
    (sym c.has.ensures ∙ c.if-not-has.true)
    ∙ c.loop-rest.invariant.same

pub loop-rest-preserved : goal.loop-rest-preserved
loop-rest-preserved c = record {
  same =
      cut_one (is_trailing c.args.self) c.loop-rest.rest.now c.in-len1-up.len_at_least
      (sym c.has.ensures ∙ c.if-not-has.false)
      ∙ c.loop-rest.invariant.same;
  short = omega (arith, length-take {A = ℕ});
}

pub returns-clause-exact : goal.returns-clause-exact
returns-clause-exact c =
    cut_nothing (is_trailing c.args.self) c.loop-rest.rest.now (omega arith)
    ∙ c.loop-rest.invariant.same
