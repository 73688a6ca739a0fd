use Rattle.aprs_bookfile.proofs.Common.{arith}
use Rattle.aprs_bookfile.proofs.Cuts.{lacks_of}
use Rattle.aprs_bookfile.proofs.cut.cut.Goals as goal

pub returns-in-None-clause-none : goal.returns-in-None-clause-none
returns-in-None-clause-none c = lacks_of c.args.stop c.args.text.now
    (λ k h. c.in-None.ensures k (omega arith) h)
