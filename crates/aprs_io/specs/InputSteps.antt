-- What a step of reading an input returns at the limit. No public clause cites this module.
use Rattle.std.specs.Prelude.{ℕ, ◌+◌, ◌≤◌, List, Option}
use Rattle.aprs_io.specs.Device.{Calls, most_failures}
use Rattle.aprs_io.specs.Input.{EndsIfKnown, last_of_ending}
use Rattle.aprs_io.specs.declared.device.Counted.{Counted}
use Rattle.aprs_io.specs.declared.input.InputEnd.{InputEnd}

-- Nothing more is read of the input, since it ends in this way where the limit allows `left` bytes
-- more. The device answered last what goes with this way, and no call came after an end or a fault:
-- its counts of answers would show it. No more tries failed than may fail in one call.
pub record EndsInput {R : Type 0} (remaining : R → Option (List ℕ)) (way : InputEnd) (left : ℕ)
    (old new : Counted R) : Type 0 where
  pub end : EndsIfKnown way left (remaining old.device) (remaining new.device)
  pub calls : Calls (last_of_ending way) old new
  pub tries : new.failed ≤ old.failed + most_failures (last_of_ending way) 1
