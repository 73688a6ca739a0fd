use Rattle.aprs_kiss.proofs.Common.{refl}
use Rattle.aprs_kiss.specs.Judgement.{judgement_of}
use Rattle.aprs_kiss.specs.Stream.{judgements_of, pieces_of}
use Rattle.aprs_kiss.specs.Spelling.{spelling_of}
use Rattle.aprs_kiss.specs.Unspelling.{spelled_bytes}
use Rattle.aprs_kiss.proofs.example.test_goes_to_port_0.Goals as goal

pub returns-clause-sent : goal.returns-clause-sent
unfolding spelling_of
returns-clause-sent c = refl

pub returns-clause-judged : goal.returns-clause-judged
unfolding judgements_of judgement_of pieces_of spelled_bytes
returns-clause-judged c = refl

pub returns-clause-misses_end : goal.returns-clause-misses_end
unfolding judgements_of judgement_of pieces_of spelled_bytes
returns-clause-misses_end c = refl
