use Rattle.aprs_details.proofs.SaidFrequencies.{frequency_found, frequency_takes, mic_e_found, mic_e_takes, tuned_found, tuned_takes}
use Rattle.aprs_details.proofs.laws.frequencies_are_read_where_they_stand.Goals as goal

pub returns : goal.returns
returns c = record {
  there = λ comment x e. frequency_found comment x e;
  read = λ comment x h. frequency_takes comment x h;
  mic_e_there = λ comment x e. mic_e_found comment x e;
  mic_e_read = λ comment x h. mic_e_takes comment x h;
  status_there = λ text x e. tuned_found text x e;
  status_read = λ text x h. tuned_takes text x h;
}
