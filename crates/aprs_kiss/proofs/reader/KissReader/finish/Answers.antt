use Rattle.aprs_kiss.proofs.Holding.{HoldsAfter-begun}
use Rattle.aprs_kiss.proofs.reader.KissReader.finish.Goals as goal

pub returns-in_default : goal.returns-in_default
returns-in_default c e s =
    (λ f. cc, λ n. absurd (HoldsAfter-begun _ _ e c.in_default.not-Ended s.held n))
