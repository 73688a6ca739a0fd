use Rattle.aprs_log.proofs.Common.{◌≤◌, None, Some, ap, arith, length}
use Rattle.aprs_log.proofs.Awaiting.{step_long, step_more, step_end}
use Rattle.aprs_log.specs.declared.line.TheConstants.{MAX_LINE}
use Rattle.aprs_log.proofs.Lasts.{stops_as_told}
use Rattle.aprs_log.proofs.reader.LogReader.read_on.Goals as goal
use Rattle.aprs_log.proofs.reader.LogReader.read_on.Goals.{in-Some, in-None}

pub returns-then-as_slice-gt-MAX_LINE-clause-moves
    : goal.returns-then-as_slice-gt-MAX_LINE-clause-moves
returns-then-as_slice-gt-MAX_LINE-clause-moves g c end a w =
    step_long _ _ end _ _ _ c.as_slice.result.now a c.requires.going c.requires.none
    c.as_slice.ensures.value c.if-as_slice-gt-MAX_LINE.true w

pub returns-in-Ok-clause-moves : goal.returns-in-Ok-clause-moves
returns-in-Ok-clause-moves g c end a =
    let m = c.in-Ok.ensures.more in
    step_more _ _ _ end _ c.in-Ok.count _ _ _ a c.requires.going c.in-Ok.ensures.some.1
    (record { more = m.0; count = m.1; grown = m.2; took = m.3 })

pub returns-after-refuse_tail-clause-moves : goal.returns-after-refuse_tail-clause-moves
returns-after-refuse_tail-clause-moves g c end a =
    let e = c.in-Err.ensures.end in
    elim c.match-refuse_tail.branch [
      | in-Some w ↦ step_end _ _ _ _ end _ _ _ _ _ c.in-Err.ending (Some w.in-Some.cause) a
          c.requires.going c.requires.none e.0 c.as_slice-in-Err.ensures.value e.1
          w.in-Some.ensures w.self-is
      | in-None w ↦ step_end _ _ _ _ end _ _ _ _ _ c.in-Err.ending None a c.requires.going
          c.requires.none e.0 c.as_slice-in-Err.ensures.value e.1 w.in-None.ensures w.self-is
    ]

pub returns-after-refuse_tail-clause-calls : goal.returns-after-refuse_tail-clause-calls
returns-after-refuse_tail-clause-calls g c =
    let short : length c.as_slice-in-Err.result.now ≤ MAX_LINE =
    omega (
      arith,
      ap length c.as_slice-in-Err.ensures.value,
      ap length c.in-Err.ensures.end.0,
      ap length c.as_slice.ensures.value,
      c.if-as_slice-gt-MAX_LINE.false,
    ) in
    elim c.match-refuse_tail.branch [
      | in-Some w ↦ stops_as_told {o = Some w.in-Some.cause} _ c.in-Err.ending short
          w.in-Some.ensures w.self-is c.in-Err.ensures.calls
      | in-None w ↦ stops_as_told {o = None} _ c.in-Err.ending short w.in-None.ensures
          w.self-is c.in-Err.ensures.calls
    ]
