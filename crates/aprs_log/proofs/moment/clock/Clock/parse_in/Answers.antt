use Rattle.aprs_log.proofs.Common.{◌≡◌, ◌∙◌, length, None, sym}
use Rattle.aprs_log.proofs.Moments.{IsExactIn, moment_by_size, no_moment_by_size}
use Rattle.aprs_log.specs.Clock.{form_size}
use Rattle.aprs_log.proofs.moment.clock.Clock.parse_in.Goals as goal

pub returns-then-text-size : goal.returns-then-text-size
returns-then-text-size c = record {
  exact = IsExactIn c.args.form c.args.text.now None
      (sym (no_moment_by_size c.args.form c.args.text.now
      (λ h. c.if-text-size.true (h ∙ sym c.size.ensures))));
}

pub returns : goal.returns
returns c =
    let size : length c.args.text.now ≡ form_size c.args.form = c.if-text-size.false ∙ c.size.ensures in
    record {
      exact = IsExactIn c.args.form c.args.text.now c.parse.result
          (c.parse.ensures ∙ moment_by_size c.args.form c.args.text.now size);
    }
