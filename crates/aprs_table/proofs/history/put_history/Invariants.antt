use Rattle.aprs_table.specs.History.{history_line}
use Rattle.aprs_io.proofs.SoFar.{PutSoFar}
use Rattle.aprs_table.proofs.history.put_history.Given as goal

abbrev pub invariant-loop-row : goal.invariant-loop-row
invariant-loop-row g l =
    PutSoFar history_line g.W.Write.contents l.initial.out l.out l.fn.rows.rows l.row-iterator.rows
