use Rattle.aprs_transmissions.specs.BestLaws.{Passes}
use Rattle.aprs_transmissions.proofs.Spans.{first_moment_is, last_moment_is}
use Rattle.aprs_transmissions.proofs.laws.last_known_law.books_tell_spans.Goals as goal

pub returns-clause-first : goal.returns-clause-first
returns-clause-first c = λ gap test S rows m b. first_moment_is gap S rows (Passes test) b m

pub returns-clause-last : goal.returns-clause-last
returns-clause-last c = λ gap test S rows m b. last_moment_is gap S rows (Passes test) b m
