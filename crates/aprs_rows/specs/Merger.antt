-- Rows of several lists in order, taken out in the order of all. No public clause cites this
-- module.
use Rattle.std.specs.Prelude.{◌≡◌, ◌≢◌, ℕ, ◌⊎◌, Bool, false, List, [], ◌∷◌, Option, None, Some, get_or, set}
use Rattle.std.specs.List.{flat_map, AllByRecursion}
use Rattle.std.specs.Ordering.{is_eq}
use Rattle.aprs_transmissions.specs.Coalescing.{AreInOrder}
use Rattle.aprs_transmissions.specs.JoinRow.{compare_near}
use Rattle.aprs_transmissions.specs.Lists.{◌∈◌, SameMembers}
use Rattle.aprs_transmissions.specs.Order.{IsUpTo}
use Rattle.aprs_transmissions.specs.Row.{Row, row_cmp}
use Rattle.aprs_transmissions.specs.Sound.{AreSoundRows}
use Rattle.aprs_rows.specs.Packed.{room_of}
use Rattle.aprs_rows.specs.Told.{HasNamesAndFrame}

-- The first of the rows, if there is one.
abbrev pub first_in : List Row → Option Row
first_in [] = None
first_in (x ∷ rows) = Some x

-- All of these rows: the first one, if it is there, and then the rows after it.
abbrev pub rows_ahead : Option Row → List Row → List Row
rows_ahead None rest = rest
rows_ahead (Some x) rest = x ∷ rest

-- The rows of all, one list after another.
abbrev pub all_ahead : List (List Row) → List Row
all_ahead = flat_map (λ rows. rows)

-- The rows are in order, and each is sound by itself, with names of receivers and a UI frame.
pub record IsRun (rows : List Row) : Type 0 where
  pub ordered : AreInOrder rows
  pub each : AreSoundRows rows
  pub told : AllByRecursion HasNamesAndFrame rows

-- The rows of each are a run.
abbrev pub AreRuns : List (List Row) → Type 0
AreRuns = AllByRecursion IsRun

-- Each list has rows.
abbrev pub HaveRows : List (List Row) → Type 0
HaveRows = AllByRecursion (λ rows. rows ≢ [])

-- x is taken out of the rows, of which `rest` remain. It comes after none of them.
pub record IsTakenOut (rows : List Row) (x : Row) (rest : List Row) : Type 0 where
  pub members : SameMembers rows (x ∷ rest)
  pub room : room_of rows ≡ room_of (x ∷ rest)
  pub least : (y : Row) → y ∈ rest → IsUpTo row_cmp x y

-- x was the first row of the list of this number, of which those after it remain.
abbrev pub TakesAt : List (List Row) → ℕ → Row → List (List Row) → Type 0
TakesAt old index x new =
    (rest : List Row) × (x ∷ rest ≡ get_or old index (x ∷ rest)) × (new ≡ set old index rest)

-- The row of these names, and of the first moment and the greatest reception of others.
abbrev pub with_names : ℕ → Row → List (List ℕ) → Row
with_names first x names = record { first = first; receivers = names; greatest = x.greatest }

-- `near` says whether x is near to the row of `with_names`, whatever names that has.
abbrev pub IsByTest : Bool → ℕ → ℕ → Row → Row → Type 0
IsByTest near gap first latest x =
    (names : List (List ℕ)) → near ≡ is_eq (compare_near gap (with_names first latest names) x)

-- There are no rows, or the first of them in order isn't near to the row of `with_names`.
abbrev pub NoneIsNear : ℕ → ℕ → Row → List Row → Type 0
NoneIsNear gap first latest rows =
    (rows ≡ []) ⊎ ((x : Row) × (rest : List Row) × IsTakenOut rows x rest
    × IsByTest false gap first latest x)
