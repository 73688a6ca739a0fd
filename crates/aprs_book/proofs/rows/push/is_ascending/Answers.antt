use Rattle.aprs_book.proofs.Common.{◌∙◌, ascending_short}
use Rattle.aprs_book.proofs.rows.push.is_ascending.Goals as goal

pub returns : goal.returns
returns c = ascending_short c.loop-rest.rest.now c.in_default.len_below ∙ c.loop-rest.invariant
