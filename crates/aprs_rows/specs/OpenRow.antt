-- A row that later ones may still join.
use Rattle.std.specs.Prelude.{◌≡◌, ◌⊎◌, ℕ, Bool, true, false, List, [], ◌∷◌}
use Rattle.std.specs.Ordering.{is_eq}
use Rattle.aprs_transmissions.specs.JoinRow.{combine, compare_near}
use Rattle.aprs_transmissions.specs.Row.{Row}

-- At `true` the next row is near to the open one, and joins it. At `false` it isn't near, or no row
-- is open, and nothing changes.
abbrev pub JoinsOrNot : Bool → ℕ → List Row → Row → List Row → Type 0
JoinsOrNot true gap old next new =
    (own : Row) × (old ≡ own ∷ []) × (is_eq (compare_near gap own next) ≡ true)
    × (new ≡ combine own next ∷ [])
JoinsOrNot false gap old next new = (new ≡ old)
    × ((old ≡ []) ⊎ ((own : Row) × (old ≡ own ∷ [])
    × (is_eq (compare_near gap own next) ≡ false)))

-- At `true` the next row is near to `own`, and the row of both is there. At `false` it isn't near,
-- and nothing changes.
abbrev pub PutsJoined : Bool → ℕ → List Row → Row → Row → List Row → Type 0
PutsJoined true gap old own next new =
    (is_eq (compare_near gap own next) ≡ true) × (new ≡ combine own next ∷ [])
PutsJoined false gap old own next new =
    (is_eq (compare_near gap own next) ≡ false) × (new ≡ old)
