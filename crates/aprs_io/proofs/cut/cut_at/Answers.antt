use Rattle.aprs_io.proofs.Common.{arith}
use Rattle.aprs_io.proofs.Cuts.{cut_at-found, cut_at-missing}
use Rattle.aprs_io.proofs.cut.cut_at.Goals as goal

pub returns-then-len-text : goal.returns-then-len-text
returns-then-len-text c = cut_at-found c.args.stop c.args.text.now c.len_before-len.result
    c.len_before-len.ensures c.if-len-text.true

pub returns-else-len-text : goal.returns-else-len-text
returns-else-len-text c = cut_at-missing c.args.stop c.args.text.now
    (omega (arith, c.len_before-len.ensures))
