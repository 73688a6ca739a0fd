use Rattle.aprs_kiss.proofs.Judging.{spells_once, judged_once}
use Rattle.aprs_kiss.proofs.laws.each_piece_is_judged_once.Goals as goal

pub returns : goal.returns
returns c = record { spelled = spells_once; judged = judged_once }
