use Rattle.aprs_kiss.proofs.ReadingBack.{read_back, read_back_long, read_whole}
use Rattle.aprs_kiss.proofs.laws.written_frames_are_read_back.Goals as goal

pub returns : goal.returns
returns c = record { frame = read_back; long = read_back_long; whole = read_whole }
