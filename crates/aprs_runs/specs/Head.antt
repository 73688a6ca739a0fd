-- The first bytes of an input, as they are read before the others.
use Rattle.std.specs.Prelude.{◌≡◌, ◌<◌, ◌⊎◌, ℕ, List, [], ◌∷◌, ◌++◌, length, Result, Ok, Err}
use Rattle.aprs_io.specs.Device.{Last, Going, End}
use Rattle.aprs_io.specs.Input.{last_of_ending}
use Rattle.aprs_log.specs.Awaits.{last_of_cause}
use Rattle.aprs_log.specs.declared.fault.LogFault.{LogFault}
use Rattle.aprs_runs.specs.declared.head.ShortInput.{ShortInput}
use Rattle.aprs_runs.specs.declared.head.TheConstants.{HEAD_LEN}

-- These are eight bytes, or fewer of which the last is an LF.
abbrev pub IsHead : List ℕ → Type 0
IsHead head = (length head ≡ HEAD_LEN)
    ⊎ ((line : List ℕ) × (length line < HEAD_LEN) × (head ≡ line ++ 10 ∷ []))

-- What a reader answered last, by what reading the first bytes answered: at `Ok` bytes, and else
-- what the input's ending says.
abbrev pub last_of_head : {A : Type 0} → Result A ShortInput → Last
last_of_head (Ok head) = Going
last_of_head (Err short) = last_of_ending short.ending

-- What a reader answered last, by the answer for an input of fewer than eight bytes without an LF:
-- at `Ok` the end, at a fault what its cause says.
abbrev pub last_of_short : Result (Unit {0}) LogFault → Last
last_of_short (Ok u) = End
last_of_short (Err fault) = last_of_cause fault.cause
