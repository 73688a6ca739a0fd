use Rattle.aprs_kiss.proofs.Common.{refl}
use Rattle.aprs_kiss.specs.Judgement.{judgement_of}
use Rattle.aprs_kiss.specs.Stream.{judgements_of, pieces_of}
use Rattle.aprs_kiss.specs.Unspelling.{spelled_bytes}
use Rattle.aprs_kiss.proofs.example.leaving_kiss_mode_is_no_data.Goals as goal

pub returns : goal.returns
unfolding judgements_of judgement_of pieces_of spelled_bytes
returns c = record { judged = refl }
