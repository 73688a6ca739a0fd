use Rattle.aprs_kiss.proofs.Common.{refl}
use Rattle.aprs_kiss.specs.Judgement.{judgement_of}
use Rattle.aprs_kiss.specs.Stream.{judgements_of, pieces_of}
use Rattle.aprs_kiss.specs.Unspelling.{spelled_bytes}
use Rattle.aprs_kiss.proofs.example.hello_goes_to_port_5.Goals as goal

pub returns-clause-judged : goal.returns-clause-judged
unfolding judgements_of judgement_of pieces_of spelled_bytes
returns-clause-judged c = refl

pub returns-clause-misses_port : goal.returns-clause-misses_port
unfolding judgements_of judgement_of pieces_of spelled_bytes
returns-clause-misses_port c = refl
