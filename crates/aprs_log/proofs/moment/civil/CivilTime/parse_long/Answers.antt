use Rattle.aprs_log.proofs.Common.{◌≡◌, ◌+◌, ◌*◌, sym, ap, ◌∙◌, arith, bytes_eq-Decides}
use Rattle.aprs_log.specs.declared.moment_form.MomentForm.TheVariants.{Millis}
use Rattle.aprs_log.specs.MomentReading.{civil_text}
use Rattle.aprs_log.specs.Places.{near_civil, near_millis}
use Rattle.aprs_log.proofs.moment.civil.CivilTime.parse_long.Goals as goal

pub returns-then-eq : goal.returns-then-eq
returns-then-eq c =
    let text = c.args.text.now in
    let same = (bytes_eq-Decides c.as_slice.result.now text).0 (sym c.eq.ensures ∙ c.if-eq.true) in
    let millis : c.from.result * 100 + c.from-2.result ≡ near_millis Millis text
    = omega (arith, c.near_digit.ensures, c.from.ensures, c.nearest_pair.ensures, c.from-2.ensures) in
    let spelled = ap (λ d. civil_text Millis d (near_millis Millis text))
    (sym c.from_digits-civil.ensures)
    ∙ ap (civil_text Millis c.from_digits-civil.result) (sym millis) ∙ sym c.text.ensures
    ∙ sym c.as_slice.ensures ∙ same in (
      spelled,
      ap (λ d. (d, c.from.result * 100 + c.from-2.result)) c.from_digits-civil.ensures
          ∙ ap (λ n. (near_civil text, n)) millis,
    )
