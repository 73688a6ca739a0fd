use Rattle.aprs_fold.proofs.Common.{Puts-is}
use Rattle.aprs_fold.proofs.Puttings.{Puts-sent}
use Rattle.aprs_fold.proofs.fold.put_header.Goals as goal

pub returns-clause-puts : goal.returns-clause-puts
returns-clause-puts g c =
    Puts-sent c.flush.result _ _ _ _ (Puts-is c.in_ok-put.ensures (cc)) c.flush.ensures.same_reference
    c.flush.ensures.empty c.flush.ensures.sent
