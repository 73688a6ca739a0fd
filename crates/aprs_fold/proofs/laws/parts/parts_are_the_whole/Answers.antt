use Rattle.aprs_fold.proofs.Kept.{all_within}
use Rattle.aprs_fold.proofs.Parts.{parts_are_whole}
use Rattle.aprs_fold.proofs.laws.parts.parts_are_the_whole.Goals as goal

pub returns-clause-all : goal.returns-clause-all
returns-clause-all c = all_within

pub returns-clause-parts : goal.returns-clause-parts
returns-clause-parts c = parts_are_whole
