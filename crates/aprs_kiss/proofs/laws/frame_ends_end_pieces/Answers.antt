use Rattle.aprs_kiss.proofs.Pieces.{judgements_of-none, judgements_of-end, judgements_of-empty, rest_of-none}
use Rattle.aprs_kiss.proofs.ReadingBack.{ended_stream}
use Rattle.aprs_kiss.proofs.laws.frame_ends_end_pieces.Goals as goal

pub returns : goal.returns
returns c = record {
  begun = λ bytes n. (judgements_of-none bytes n, rest_of-none bytes n);
  ended = judgements_of-end;
  empty = judgements_of-empty;
  left = ended_stream;
}
