-- What widening an input writes and answers.
use Rattle.std.specs.Prelude.{◌<◌, ◌≤◌, ℕ, zero, suc, List}
use Rattle.aprs_io.specs.declared.input.InputEnd.{InputEnd}
use Rattle.aprs_log.specs.Reception.{Received}
use Rattle.aprs_runs.specs.Inputs.{GivesSet, IsBookFileOf}
use Rattle.aprs_runs.specs.Refused.{IsFaulty}
use Rattle.aprs_runs.specs.declared.fault.InputFault.{InputFault}
use Rattle.aprs_runs.specs.declared.fault.InputFault.TheVariants.{Narrower}

-- The input stands for the set S, and its own gap, if it is a book file, is not greater than this
-- one.
abbrev pub GivesSetWithin : ℕ → List ℕ → InputEnd → List Received → Type 0
GivesSetWithin gap text ending S = (own : ℕ) × (own ≤ gap) × GivesSet own text ending S

-- The only input, number 0, is refused for this fault. At `Narrower` it is a whole book file of a
-- greater gap than this one, and else `IsFaulty` says that it has the fault.
abbrev pub IsNotWidened : ℕ → List ℕ → InputEnd → ℕ → InputFault → Type 0
IsNotWidened gap text ending zero Narrower =
    (own : ℕ) × (S : List Received) × (gap < own) × IsBookFileOf own S text ending
IsNotWidened gap text ending zero fault = IsFaulty fault text ending
IsNotWidened gap text ending (suc index) fault = ⊥
