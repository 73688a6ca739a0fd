use Rattle.aprs_log.proofs.Pieces.{is_unended-last, is_unended-nil}
use Rattle.aprs_log.proofs.line.frame_in_line.is_unended.Goals as goal

pub returns-in-empty : goal.returns-in-empty
returns-in-empty c = is_unended-nil c.args.bytes.now c.in-empty.len_below

pub returns-in-len1-up : goal.returns-in-len1-up
returns-in-len1-up c = is_unended-last c.args.bytes.now
    c.in-len1-up.len_at_least
