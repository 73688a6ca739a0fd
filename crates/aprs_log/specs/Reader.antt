-- What contracts see of a reader of a log.
use Rattle.std.specs.Prelude.{◌≡◌, ◌≢◌, ℕ, ◌+◌, Bool, true, false, List, Option, None, Some, Result, Ok, Err, IfErr, IsTrue}
use Rattle.std.specs.Borrow.{GName}
use Rattle.aprs_io.specs.declared.device.Counted.{Counted}
use Rattle.aprs_log.specs.Awaits.{AwaitsIn, last_of_cause, stop_in}
use Rattle.aprs_io.specs.Cut.{has_byte}
use Rattle.aprs_io.specs.Device.{Calls, Last, Going, End}
use Rattle.aprs_log.specs.LogAnswers.{Answers, Gets, end_with, log_answers, prepend_line}
use Rattle.aprs_log.specs.Window.{items}
use Rattle.aprs_log.specs.declared.line.Line.{Line}
use Rattle.aprs_log.specs.declared.line.Line.TheVariants as line
use Rattle.aprs_log.specs.declared.fault.Reason.TheVariants.{NoFrame}
use Rattle.aprs_log.specs.declared.fault.LogCause.TheVariants as cause
use Rattle.aprs_log.specs.declared.fault.LogFault.{LogFault}
use Rattle.aprs_io.specs.declared.input.InputEnd.{InputEnd}
use Rattle.aprs_log.specs.declared.reader.LogReader.{LogReader}

-- The device that the reader borrows.
abbrev pub lent_device : {R : Type 0} → LogReader R → Counted R
lent_device r = r.source.now

-- The ghost name of the reference by which the reader borrows its device. By it clauses say that
-- the reader has the reference that it was given.
abbrev pub loan_of : {R : Type 0} → LogReader R → GName
loan_of r = r.source.ghost_name

-- How many lines it has returned.
abbrev pub line_count_of : {R : Type 0} → LogReader R → ℕ
line_count_of r = r.line

-- The line that it returned last.
abbrev pub current_of : {R : Type 0} → LogReader R → Line
current_of r = r.current

-- The bytes that it has read and not yet answered.
abbrev pub read_ahead_of : {R : Type 0} → LogReader R → List ℕ
read_ahead_of r = items r.window

-- An LF stands in the bytes, so that a whole line is among them.
abbrev pub HasLf : List ℕ → Type 0
HasLf bytes = IsTrue (has_byte 10 bytes)

-- The fault or the end that it answers from now on, if it has come to one.
abbrev pub stop_of : {R : Type 0} → LogReader R → Option (Option LogFault)
stop_of r = stop_in r.state r.line

-- These answers may follow, where the device has `known` left now and `end` at the end of reading:
-- some text got of `known` yields them. Where `known` is `None`, a reader that reads may give any.
abbrev pub Awaits : {R : Type 0} → Option (List ℕ) → Option (List ℕ) → LogReader R → Answers
    → Type 0
Awaits known end r answers =
    AwaitsIn r.state known end r.left r.line (items r.window) answers

-- Nothing was read yet: no line was returned, it holds the head alone, and it may go on.
pub record Starts {R : Type 0} (r : LogReader R) (head : List ℕ) : Type 0 where
  pub first : line_count_of r ≡ 0
  pub current : current_of r ≡ line.Passed NoFrame
  pub held : read_ahead_of r ≡ head
  pub going : stop_of r ≡ None

-- What the device answered last, by what the reader answers.
abbrev pub last_told : Result (Option Line) LogFault → Last
last_told (Ok (Some x)) = Going
last_told (Ok None) = End
last_told (Err fault) = last_of_cause fault.cause

-- These are the answers of a log of which at most `limit` bytes are got.
pub record AreAnswersOf (limit : ℕ) (input : List ℕ) (after : Option (List ℕ)) (answers : Answers)
    : Type 0 where
  pub text : List ℕ
  pub ending : InputEnd
  pub gets : Gets limit input after text ending
  pub is : answers ≡ log_answers text ending

-- What a reader answers that has come to a fault or to the end.
abbrev pub answer_of_stop : Option LogFault → Result (Option Line) LogFault
answer_of_stop None = Ok None
answer_of_stop (Some fault) = Err fault

-- The line that the reader keeps at this answer: the one that is answered, or the one before at the
-- end or a fault.
abbrev pub line_kept : Line → Result (Option Line) LogFault → Line
line_kept before (Ok (Some x)) = x
line_kept before other = before

-- The answer of `next`, from that of `advance` and the line that then lies in the reader.
abbrev pub answer_with : Result Bool LogFault → Line → Result (Option Line) LogFault
answer_with (Ok true) x = Ok (Some x)
answer_with (Ok false) x = Ok None
answer_with (Err fault) x = Err fault

-- The answer is right. Before it the reader and what its device had left were `old` and `known`,
-- now they are `new` and `after`. Many answers may still follow, one list for each rest of the
-- input. So to answer a line is right if that line, put before any answers that may follow now,
-- gives answers that could have followed before; and the end or a fault is right if it, and nothing
-- after it, could have followed before.
abbrev pub GivesNext : {R : Type 0} → Result (Option Line) LogFault → Option (List ℕ) → LogReader R
    → Option (List ℕ) → LogReader R → Type 0
GivesNext (Ok (Some x)) known old after new =
    (line_count_of new ≡ line_count_of old + 1) × (stop_of new ≡ None)
    × ((end : Option (List ℕ)) (answers : Answers) → Awaits after end new answers
    → Awaits known end old (prepend_line x answers))
GivesNext (Ok None) known old after new =
    (line_count_of new ≡ line_count_of old) × (stop_of new ≡ Some None)
    × Awaits known after old (end_with None)
GivesNext (Err fault) known old after new =
    (line_count_of new ≡ line_count_of old) × (stop_of new ≡ Some (Some fault))
    × Awaits known after old (end_with (Some fault))

-- The reader goes from `old` to `new`, and gives its next answer. The answer is right, and some
-- answers may always come. An error is in the line after those that were returned, and isn't
-- `Memory`. The line that is answered is kept, and else the one before. A reader that has come to
-- the end or to a fault answers that again, reads no more and stays so. One that hasn't reads
-- nothing where it holds a whole line; and what it answers tells what its device answered last, so
-- that it never asks again.
pub record Advances {R : Type 0} (remaining : R → Option (List ℕ))
    (answer : Result (Option Line) LogFault) (old new : LogReader R) : Type 0 where
  pub gives : GivesNext answer (remaining (lent_device old).device) old
      (remaining (lent_device new).device) new
  pub awaits : (answers : Answers) × Awaits (remaining (lent_device new).device)
      (remaining (lent_device new).device) new answers
  pub fault : IfErr answer
      (λ fault. (fault.line ≡ line_count_of new + 1) × (fault.cause ≢ cause.Memory))
  pub current : current_of new ≡ line_kept (current_of old) answer
  pub stays : (stop : Option LogFault) → stop_of old ≡ Some stop → (answer ≡ answer_of_stop stop)
      × (stop_of new ≡ Some stop) × (lent_device new ≡ lent_device old)
  pub unread : stop_of old ≡ None → HasLf (read_ahead_of old) → lent_device new ≡ lent_device old
  pub same_reference : loan_of new ≡ loan_of old
  pub calls : stop_of old ≡ None → Calls (last_told answer) (lent_device old) (lent_device new)
