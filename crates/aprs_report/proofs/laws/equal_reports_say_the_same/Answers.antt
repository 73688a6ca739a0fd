use Rattle.aprs_report.proofs.Equality.{equal_says_the_same}
use Rattle.aprs_report.proofs.laws.equal_reports_say_the_same.Goals as goal

pub returns : goal.returns
returns c = rw c.eq.ensures (equal_says_the_same c.args.a.now c.args.b.now)
