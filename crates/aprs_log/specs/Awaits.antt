-- What a reader of a log may still answer, by what it has read so far, and what its device answered
-- last. What the device will give isn't known yet: answers may follow if some way to read on gives
-- them.
use Rattle.std.specs.Prelude.{◌≡◌, ℕ, ◌+◌, List, ◌++◌, Option, None, Some, IfSome}
use Rattle.aprs_log.specs.LogAnswers.{Answers, answers_from, end_with, Gets}
use Rattle.aprs_log.specs.declared.fault.LogCause.{LogCause}
use Rattle.aprs_log.specs.declared.fault.LogCause.TheVariants as cause
use Rattle.aprs_log.specs.declared.fault.LogFault.{LogFault}
use Rattle.aprs_io.specs.declared.input.InputEnd.{InputEnd}
pub use Rattle.aprs_io.specs.Input.{EndsIfKnown}
use Rattle.aprs_io.specs.Device.{Last, Going, Fault, End}
use Rattle.aprs_log.specs.declared.reader.ending.State.{State}
use Rattle.aprs_log.specs.declared.reader.ending.State.TheVariants.{Reading, Ended, Failed}

-- Answers that may still follow: some text that can be got of the input, and some way in which it
-- ends, yield them. `line` lines were given before, `held` was read of the next ones, and `left`
-- bytes may be read yet. `after` is what the device has left when the input has ended so.
pub record Awaited (left line : ℕ) (held input : List ℕ) (after : Option (List ℕ))
    (answers : Answers)
    : Type 0 where
  pub text : List ℕ
  pub ending : InputEnd
  pub gets : Gets left input after text ending
  pub is : answers ≡ answers_from (line + 1) (held ++ text) ending

-- The fault with this cause in the line that follows.
abbrev pub fault_after : ℕ → LogCause → LogFault
fault_after line why = record { line = line + 1; cause = why }

-- These answers may follow. `known` is what the device has left now, and `after` what it has left
-- at the end. A reader that is reading may answer what some text got of `known` yields, or anything
-- where `known` is `None`. One that has stopped reads no more: its end or its fault is all.
abbrev pub AwaitsIn : State → Option (List ℕ) → Option (List ℕ) → ℕ → ℕ → List ℕ → Answers → Type 0
AwaitsIn Reading known after left line held answers =
    IfSome known (λ input. Awaited left line held input after answers)
AwaitsIn Ended known after left line held answers = (after ≡ known) × (answers ≡ end_with None)
AwaitsIn (Failed cause) known after left line held answers =
    (after ≡ known) × (answers ≡ end_with (Some (fault_after line cause)))

-- The fault or the end that is answered from now on, if the reader has stopped.
abbrev pub stop_in : State → ℕ → Option (Option LogFault)
stop_in Reading line = None
stop_in Ended line = Some None
stop_in (Failed cause) line = Some (Some (fault_after line cause))

-- What the device answered last where a log is read no further for this cause.
abbrev pub last_of_cause : LogCause → Last
last_of_cause cause.Read = Fault
last_of_cause cause.NoNewline = End
last_of_cause other = Going
