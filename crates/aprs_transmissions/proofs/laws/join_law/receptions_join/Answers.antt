use Rattle.aprs_transmissions.specs.Joining.{IsAny, AreAny, IsGreaterOf}
use Rattle.aprs_transmissions.proofs.Joins.{greatest_laws}
use Rattle.aprs_transmissions.proofs.Folds.{fold_same}
use Rattle.aprs_transmissions.proofs.laws.join_law.receptions_join.Goals as goal

pub returns-clause-laws : goal.returns-clause-laws
returns-clause-laws c = greatest_laws

pub returns-clause-folds : goal.returns-clause-folds
returns-clause-folds c = fold_same IsAny AreAny IsGreaterOf greatest_laws
