-- The rows that several lists or streams have in front, and which of them comes first.
use Rattle.std.specs.Prelude.{◌≡◌, ℕ, ◌<◌, zero, suc, List, [], ◌∷◌, length, Option, None, Some}
use Rattle.aprs_transmissions.specs.Order.{IsUpTo}
use Rattle.aprs_transmissions.specs.Row.{Row, row_cmp}

-- The row that the stream of this number has in front, if there is such a stream and it has one.
abbrev pub front_at : {X : Type 0} → (X → Option Row) → List X → ℕ → Option Row
front_at front [] k = None
front_at front (s ∷ streams) zero = front s
front_at front (s ∷ streams) (suc k) = front_at front streams k

-- The one row doesn't come after the other; where one isn't there, it comes after all.
abbrev pub NotAfter : Option Row → Option Row → Type 0
NotAfter one None = Unit {0}
NotAfter None (Some y) = ⊥
NotAfter (Some x) (Some y) = IsUpTo row_cmp x y

-- The stream of this number has a row in front, and no other's comes before it.
pub record ComesFirst {X : Type 0} (front : X → Option Row) (streams : List X) (index : ℕ)
    : Type 0 where
  pub within : index < length streams
  pub row : Row
  pub is : front_at front streams index ≡ Some row
  pub least : (k : ℕ) → NotAfter (front_at front streams index) (front_at front streams k)
