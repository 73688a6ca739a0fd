use Rattle.aprs_bookfile.proofs.Common.{arith, ap, length}
use Rattle.aprs_bookfile.proofs.row_stream.RowStream.with_head.Goals as goal

pub returns-clause-size : goal.returns-clause-size
returns-clause-size g c =
    omega (arith, c.new-2.ensures.size, ap length c.in_ok-piece.ensures, c.requires.within)
