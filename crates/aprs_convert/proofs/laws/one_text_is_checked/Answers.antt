use Rattle.aprs_convert.specs.Plan.{check_plan}
use Rattle.aprs_convert.proofs.OneText.{checks_plan, one_text}
use Rattle.aprs_convert.proofs.Writings.{checks}
use Rattle.aprs_convert.proofs.laws.one_text_is_checked.Goals as goal

pub returns-clause-some : goal.returns-clause-some
returns-clause-some c =
    λ text ending. (
      (check_plan text ending).fault,
      (check_plan text ending).text,
      checks text ending,
    )

pub returns-clause-one : goal.returns-clause-one
returns-clause-one c = λ text ending fault other written more a b.
    one_text (check_plan text ending) fault other written more
    (checks_plan text ending fault written a) (checks_plan text ending other more b)
