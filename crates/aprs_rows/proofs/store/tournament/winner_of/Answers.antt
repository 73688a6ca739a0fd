use Rattle.std.proofs.Common.{sym}
use Rattle.aprs_rows.proofs.Matches.{winner_of-get, winner_of-past}
use Rattle.aprs_rows.proofs.store.tournament.winner_of.Goals as goal

pub returns-then-number-winners : goal.returns-then-number-winners
returns-then-number-winners c =
    sym (winner_of-get c.args.winners.now c.args.number 0 c.if-number-winners.true)

pub returns-else-number-winners : goal.returns-else-number-winners
returns-else-number-winners c =
    sym (winner_of-past c.args.winners.now c.args.number c.if-number-winners.false)
