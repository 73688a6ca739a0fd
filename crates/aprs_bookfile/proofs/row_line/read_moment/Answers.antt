use Rattle.aprs_bookfile.proofs.Common.{◌≡◌, None, Some, refl}
use Rattle.aprs_bookfile.proofs.row_line.read_moment.Goals as goal

pub returns-in-Some-clause-some : goal.returns-in-Some-clause-some
returns-in-Some-clause-some c = (c.in-Some.ensures.exact c.in-Some.moment).0 refl

pub returns-in-None-clause-none : goal.returns-in-None-clause-none
returns-in-None-clause-none c = λ m h is.
    let no : None ≡ Some m = (c.in-None.ensures.exact m).1 (h, is) in cc
