use Rattle.aprs_convert.specs.Plan.{convert_plan}
use Rattle.aprs_convert.proofs.OneText.{converts_plan, one_text}
use Rattle.aprs_convert.proofs.Writings.{converts}
use Rattle.aprs_convert.proofs.laws.one_text_is_converted.Goals as goal

pub returns-clause-some : goal.returns-clause-some
returns-clause-some c =
    λ f text ending. (
      (convert_plan f text ending).fault,
      (convert_plan f text ending).text,
      converts f text ending,
    )

pub returns-clause-one : goal.returns-clause-one
returns-clause-one c = λ f text ending fault other written more a b.
    one_text (convert_plan f text ending) fault other written more
    (converts_plan f text ending fault written a) (converts_plan f text ending other more b)
