-- What the steps of a reader of a log return. No public clause cites this module.
use Rattle.std.specs.Prelude.{ℕ, List, Option, Result, Ok, Err}
use Rattle.aprs_log.specs.LogAnswers.{Answers}
use Rattle.aprs_log.specs.Reader.{Awaits}
use Rattle.aprs_log.specs.States.{work_in}
use Rattle.aprs_log.specs.declared.fault.LineFault.{LineFault}
use Rattle.aprs_log.specs.declared.line.Line.{Line}
use Rattle.aprs_log.specs.declared.reader.LogReader.{LogReader}

-- The line that lies in `found` after it was read, or the fault of the reading.
abbrev pub line_in : Result (Unit {0}) LineFault → Line → Result Line LineFault
line_in (Ok u) found = Ok found
line_in (Err fault) found = Err fault

-- How many steps without a line a reader may take yet.
abbrev pub steps_left : {R : Type 0} → LogReader R → ℕ
steps_left r = work_in r.state r.left

-- A reader moves from `old` to `new` without an answer: what may follow now could have followed
-- before.
abbrev pub Moves : {R : Type 0} → Option (List ℕ) → LogReader R → Option (List ℕ) → LogReader R
    → Type 0
Moves known old after new = (end : Option (List ℕ)) (answers : Answers)
    → Awaits after end new answers → Awaits known end old answers
