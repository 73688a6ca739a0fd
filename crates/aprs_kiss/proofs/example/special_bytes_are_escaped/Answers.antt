use Rattle.aprs_kiss.proofs.Common.{refl}
use Rattle.aprs_kiss.specs.Judgement.{judgement_of}
use Rattle.aprs_kiss.specs.Stream.{judgements_of, pieces_of}
use Rattle.aprs_kiss.specs.Spelling.{spelling_of}
use Rattle.aprs_kiss.specs.Unspelling.{spelled_bytes}
use Rattle.aprs_kiss.proofs.example.special_bytes_are_escaped.Goals as goal

pub returns-clause-sent : goal.returns-clause-sent
unfolding spelling_of
returns-clause-sent c = refl

pub returns-clause-judged : goal.returns-clause-judged
unfolding judgements_of judgement_of pieces_of spelled_bytes
returns-clause-judged c = refl

pub returns-clause-misses_escape : goal.returns-clause-misses_escape
unfolding judgements_of judgement_of pieces_of spelled_bytes
returns-clause-misses_escape c = refl
