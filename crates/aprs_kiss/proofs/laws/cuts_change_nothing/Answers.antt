use Rattle.aprs_kiss.proofs.ReadingBack.{begins_empty, judged_in_parts, left_in_parts}
use Rattle.aprs_kiss.proofs.laws.cuts_change_nothing.Goals as goal

pub returns : goal.returns
returns c = record { empty = begins_empty; judged = judged_in_parts; left = left_in_parts }
