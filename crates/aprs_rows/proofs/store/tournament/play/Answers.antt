use Rattle.std.proofs.Common.{arith}
use Rattle.aprs_rows.proofs.Matches.{winner_of-other, won_here}
use Rattle.aprs_rows.proofs.store.tournament.play.Goals as goal

pub returns-clause-won : goal.returns-clause-won
returns-clause-won g c = won_here g.T.HasFront.front c.args.streams.now c.args.winners.now c.args.number
    c.earlier.result c.winner_of-one.result c.winner_of-other.result c.requires.some
    (omega arith) c.winner_of-one.ensures c.winner_of-other.ensures c.earlier.ensures.either
    c.earlier.ensures.one c.earlier.ensures.other

pub returns-clause-others : goal.returns-clause-others
returns-clause-others g c k unlike =
    winner_of-other c.args.winners.now c.args.number k c.earlier.result unlike
