use Rattle.aprs_log.proofs.Common.{sym, subst, arith}
use Rattle.aprs_log.specs.declared.moment_form.MomentForm.TheVariants.{Millis}
use Rattle.aprs_log.specs.CivilMoment.{IsMomentTextIn}
use Rattle.aprs_log.proofs.Moments.{civil_text-moment, text-moment_of, text-writable}
use Rattle.aprs_log.proofs.moment.Moment.text.Goals as goal

spells : (c : goal.After-text) → IsMomentTextIn Millis c.args.self.now c.text.result
spells c = subst (IsMomentTextIn Millis c.args.self.now) (sym c.text.ensures)
    (civil_text-moment Millis c.from_seconds.result _ c.args.self.now c.from_seconds.ensures.real
    (omega arith) (omega (arith, c.from_seconds.ensures.number, c.self.view_is)))

pub returns-clause-value : goal.returns-clause-value
returns-clause-value c = (text-writable Millis c.args.self.now c.text.result (spells c)).1

pub returns-clause-writable : goal.returns-clause-writable
returns-clause-writable c = (text-writable Millis c.args.self.now c.text.result (spells c)).0

pub returns-clause-reads_back : goal.returns-clause-reads_back
returns-clause-reads_back c = text-moment_of c.text.result c.args.self.now (Millis, spells c)
