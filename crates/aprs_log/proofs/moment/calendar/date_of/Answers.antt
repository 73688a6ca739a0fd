use Rattle.aprs_log.proofs.Common.{arith, ap, ◌∙◌, w16, w64, FitsSigned, to_z-of_z, to_z_pos, signed_arith, civil}
use Rattle.jiff_core.specs.Calendar.{days_from_civil}
use Rattle.aprs_log.proofs.Days.{years_are, abs_is, IsDay-from, days_after}
use Rattle.aprs_log.proofs.moment.calendar.date_of.Goals as goal

pub returns : goal.returns
returns c =
    let d = c.to_plain-date.result in
    let only = simp (to_z_pos w64 c.args.day (omega arith)) at c.days-span.ensures in
    let number = days_after c.constant.result d c.saturating_add.result c.args.day
    c.days-span.result c.constant.ensures only c.requires c.to_plain-date.ensures
    c.saturating_add.ensures.fits in
    let is = years_are d.year d.month d.day c.args.day (civil d) number c.requires in
    let fits : FitsSigned w16 d.year = omega (arith, signed_arith, is.0, is.1) in
    let year = abs_is d.year c.unsigned_abs.result (simp to_z-of_z at c.unsigned_abs.ensures.value)
    is.0 in record {
      date = IsDay-from d.year c.unsigned_abs.result d.month d.day year (civil d) is.0 is.1;
      number = ap (λ y. days_from_civil y d.month d.day) year ∙ is.2;
    }
