use Rattle.aprs_log.proofs.Common.{◌≡◌, Some, ◌-◌, ◌%◌, ◌++◌, ap, sym, ◌∙◌}
use Rattle.aprs_log.proofs.Clocks.{moment_of-midnight}
use Rattle.aprs_log.specs.declared.moment_form.MomentForm.TheVariants.{Seconds}
use Rattle.aprs_log.specs.Clock.{midnight_text}
use Rattle.aprs_log.specs.MomentReading.{moment_in}
use Rattle.aprs_log.proofs.moment.clock.Clock.parse_and_keep_date.Goals as goal

pub invariant_of-self : goal.invariant_of-self
invariant_of-self c =
    let millis = c.millis-millis.ensures.value in
    let start : c.in_ok-moment.moment - c.in_ok-moment.moment % 86400000 ≡ c.in-Some.midnight
    = ap (λ n. n - n % 86400000) (sym millis) ∙ sym c.in-Some.ensures.1 in
    record {
      reads = ap (λ l. moment_in Seconds (l ++ midnight_text)) c.copy_from_slice.ensures.after
          ∙ moment_of-midnight c.args.text.now c.in_ok-moment.moment
          (sym c.in_ok-moment.ensures.value)
          ∙ ap (λ n. Some n) start;
    }
