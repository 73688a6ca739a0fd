use Rattle.aprs_details.specs.Precision.{precision_at}
use Rattle.aprs_details.specs.SaidDigits.{BeginsWithDigits}
use Rattle.aprs_details.proofs.FirstReadings.{first_found, first_takes}
use Rattle.aprs_details.proofs.SaidDigits.{digits_are_what_begins}
use Rattle.aprs_details.proofs.laws.first_digits_are_read.Goals as goal

pub returns : goal.returns
returns c = record {
  there = λ comment x e. first_found BeginsWithDigits precision_at digits_are_what_begins comment x e;
  read = λ comment x h. first_takes BeginsWithDigits precision_at digits_are_what_begins comment x h;
}
