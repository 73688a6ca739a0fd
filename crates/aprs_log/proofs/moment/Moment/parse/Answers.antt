use Rattle.aprs_log.proofs.Common.{ap, ◌∙◌}
use Rattle.aprs_log.specs.MomentReading.{moment_in}
use Rattle.aprs_log.proofs.Moments.{IsExact, exact-value}
use Rattle.aprs_log.proofs.moment.Moment.parse.Goals as goal

pub returns-clause-value : goal.returns-clause-value
returns-clause-value c =
    exact-value c.form_of.result c.args.text.now c.parse_in.result
    c.parse_in.ensures.exact
    ∙ ap (λ form. moment_in form c.args.text.now) c.form_of.ensures

pub returns-clause-exact : goal.returns-clause-exact
returns-clause-exact c = IsExact c.args.text.now c.parse_in.result (returns-clause-value c)
