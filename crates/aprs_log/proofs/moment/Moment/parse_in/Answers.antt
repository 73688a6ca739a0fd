use Rattle.aprs_log.proofs.Common.{◌≡◌, ◌+◌, ◌*◌, ◌<◌, ℕ, None, Some, ap, sym, subst, ◌∙◌}
use Rattle.aprs_log.specs.Moment.{moments_per_second}
use Rattle.aprs_log.specs.MomentReading.{civil_text, moment_in, seconds_of}
use Rattle.aprs_log.specs.Places.{near_civil}
use Rattle.aprs_log.proofs.Moments.{moment_in-civil, moment_in-unfound, moment_in-unreal, near_millis-below, IsExactIn}
use Rattle.aprs_log.proofs.moment.Moment.parse_in.Goals as goal

pub returns-in-Some-seconds : goal.returns-in-Some-seconds
returns-in-Some-seconds c =
    let form = c.args.form in
    let read = c.in-Some.ensures in
    let civil = ap (λ p. p.0) read.1 in
    let millis = ap (λ p. p.1) read.1 in
    let real = c.in-Some-seconds.ensures.value in
    let below = subst (λ (n : ℕ). n < moments_per_second form) (sym millis)
    (near_millis-below form c.args.text.now) in
    let value : Some (c.in-Some-seconds.seconds * 1000 + c.from.result)
    ≡ moment_in form c.args.text.now
    = ap (λ n. Some (n * 1000 + c.from.result)) real.1
    ∙ ap (λ n. Some (seconds_of c.in-Some.read.0 * 1000 + n)) c.from.ensures
    ∙ sym (moment_in-civil form c.in-Some.read.0 c.in-Some.read.1 real.0 below)
    ∙ ap (moment_in form) (ap (λ d. civil_text form d c.in-Some.read.1) civil
    ∙ ap (civil_text form (near_civil c.args.text.now)) millis ∙ read.0) in
    record { exact = IsExactIn form c.args.text.now _ value }

pub returns-in-None-seconds : goal.returns-in-None-seconds
returns-in-None-seconds c =
    let form = c.args.form in
    let read = c.in-Some.ensures in
    let civil = ap (λ p. p.0) read.1 in
    let millis = ap (λ p. p.1) read.1 in
    let value : None ≡ moment_in form c.args.text.now
    = moment_in-unreal form c.in-Some.read.0 c.in-Some.read.1 c.in-None-seconds.ensures.value
    ∙ ap (moment_in form) (ap (λ d. civil_text form d c.in-Some.read.1) civil
    ∙ ap (civil_text form (near_civil c.args.text.now)) millis ∙ read.0) in
    record { exact = IsExactIn form c.args.text.now None value }

pub returns-in-None : goal.returns-in-None
returns-in-None c = record {
  exact = IsExactIn c.args.form c.args.text.now None
      (moment_in-unfound c.args.form c.args.text.now c.in-None.ensures);
}
