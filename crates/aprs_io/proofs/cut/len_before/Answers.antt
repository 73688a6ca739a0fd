use Rattle.aprs_io.proofs.Common.{◌∙◌}
use Rattle.aprs_io.proofs.Cuts.{first_byte-place}
use Rattle.aprs_io.proofs.cut.len_before.Goals as goal

pub returns : goal.returns
returns c = c.unwrap_or.ensures ∙ first_byte-place c.args.stop c.args.text.now _ c.memchr.ensures
