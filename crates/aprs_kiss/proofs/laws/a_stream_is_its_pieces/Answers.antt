use Rattle.aprs_kiss.proofs.Common.{[]}
use Rattle.aprs_kiss.proofs.Pieces.{cuts, made_so}
use Rattle.aprs_kiss.proofs.laws.a_stream_is_its_pieces.Goals as goal

pub returns : goal.returns
returns c = record {
  joined = λ stream. (made_so stream).joined;
  cut = λ stream. ((made_so stream).clean, (cuts stream []).whole);
}
