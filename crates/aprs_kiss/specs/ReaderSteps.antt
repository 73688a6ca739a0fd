-- What the steps of a KISS reader return. No public clause cites this module.
use Rattle.std.specs.Prelude.{◌≡◌, ℕ, ◌<◌, List, [], ◌∷◌, length, drop, Option, None, Some, Result, Ok, Err}
use Rattle.aprs_kiss.specs.Judgement.{Judgement}
use Rattle.aprs_kiss.specs.declared.fault.PassFault.{PassFault}
use Rattle.aprs_kiss.specs.declared.reader.State.{State}
use Rattle.aprs_kiss.specs.declared.reader.State.TheVariants.{Plain, Escape, LongEscape}

-- The judgements that an outcome reports, one at most. At a port `held` is the frame's type byte
-- and then the frame.
abbrev pub judgements_of_outcome : Option (Result ℕ PassFault) → List ℕ → List Judgement
judgements_of_outcome None held = []
judgements_of_outcome (Some (Ok port)) held = Ok (record { port = port; bytes = drop 1 held }) ∷ []
judgements_of_outcome (Some (Err fault)) held = Err fault ∷ []

-- In the state `Plain` at least one byte is held.
abbrev pub HoldsSome : State → List ℕ → Type 0
HoldsSome state held = state ≡ Plain → 0 < length held

-- In this state an escape has begun, and its second byte hasn't come yet.
abbrev pub IsOpen : State → Type 0
IsOpen Escape = Unit {0}
IsOpen LongEscape = Unit {0}
IsOpen _ = ⊥

-- In this state no escape waits for its second byte.
abbrev pub IsClosed : State → Type 0
IsClosed Escape = ⊥
IsClosed LongEscape = ⊥
IsClosed _ = Unit {0}
