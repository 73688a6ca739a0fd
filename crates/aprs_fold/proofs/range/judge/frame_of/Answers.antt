use Rattle.aprs_fold.proofs.Frames.{frame_read}
use Rattle.aprs_fold.proofs.range.judge.frame_of.Goals as goal

pub returns-clause-frame : goal.returns-clause-frame
returns-clause-frame c = frame_read c.ok.result c.read.result c.args.bytes.now c.ok.ensures.value
    c.read.ensures.exact
