use Rattle.aprs_details.proofs.PassedFrames.{passed_found, passed_takes}
use Rattle.aprs_details.proofs.laws.passed_frames_are_read.Goals as goal

pub returns : goal.returns
returns c = record {
  there = λ info x e. passed_found info x e;
  read = λ info x h. passed_takes info x h;
}
