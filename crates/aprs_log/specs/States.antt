-- What the state of a reader of a log tells. No public clause cites this module.
use Rattle.std.specs.Prelude.{◌≢◌, ℕ, ◌+◌, Option, None, Some}
use Rattle.aprs_io.specs.Device.{Last, Going, End}
use Rattle.aprs_log.specs.Awaits.{last_of_cause}
use Rattle.aprs_log.specs.declared.reader.ending.State.{State}
use Rattle.aprs_log.specs.declared.reader.ending.State.TheVariants.{Reading, Ended, Failed}
use Rattle.aprs_log.specs.declared.fault.LogCause.{LogCause}
use Rattle.aprs_log.specs.declared.fault.LogCause.TheVariants as cause

-- In this state no failed allocation stopped the reader.
abbrev pub HasNotRunOutOfMemory : State → Type 0
HasNotRunOutOfMemory state = state ≢ Failed cause.Memory

-- What a reader does after the tail: it stops well, or with this cause.
abbrev pub state_after : Option LogCause → State
state_after None = Ended
state_after (Some cause) = Failed cause

-- What the device answered last, by the state of its reader.
abbrev pub last_in : State → Last
last_in Reading = Going
last_in Ended = End
last_in (Failed cause) = last_of_cause cause

-- How many steps without a line a reader may take yet: one for each byte that it may read, and one
-- to stop.
abbrev pub work_in : State → ℕ → ℕ
work_in Reading left = left + 1
work_in Ended left = 0
work_in (Failed cause) left = 0
