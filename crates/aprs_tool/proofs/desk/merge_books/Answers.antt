use Rattle.aprs_tool.proofs.Common.{arith}
use Rattle.aprs_tool.proofs.Merged.{merges_empty}
use Rattle.aprs_runs.proofs.RowsTold.{known_none, known_sound, whatever}
use Rattle.aprs_tool.proofs.desk.merge_books.Goals as goal

pub returns-then-len-eq0-clause-merges : goal.returns-then-len-eq0-clause-merges
returns-then-len-eq0-clause-merges g c = merges_empty _ c.args.book.now.rows c.args.input.rows
    (omega (arith, c.len.ensures, c.if-len-eq0.true))

pub returns-then-len-eq0-clause-known : goal.returns-then-len-eq0-clause-known
returns-then-len-eq0-clause-known g c = known_none c.args.book.now.gap c.args.book.now.rows
    (omega (arith, c.len.ensures, c.if-len-eq0.true))

pub returns-clause-known : goal.returns-clause-known
returns-clause-known g c =
    whatever c.merge.result (known_sound c.args.book.now c.merge.ensures.sound)
