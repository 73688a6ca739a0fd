-- From when to when something was heard.
use Rattle.std.specs.Prelude.{◌≡◌, ℕ, ◌≤◌, List}
use Rattle.aprs_log.specs.Reception.{Received}
use Rattle.aprs_transmissions.specs.Lists.{◌∈◌}
use Rattle.aprs_transmissions.specs.Key.{Key, key_of}
use Rattle.aprs_transmissions.specs.Row.{Row, row_key, last_moment}

-- The least moment at which S has a reception whose key has the property.
pub record IsFirstMoment (S : List Received) (P : Key → Type 0) (m : ℕ) : Type 0 where
  pub heard : (s : Received) × (s ∈ S) × P (key_of s.frame) × (s.moment ≡ m)
  pub least : (s : Received) → s ∈ S → P (key_of s.frame) → m ≤ s.moment

-- The greatest moment at which S has a reception whose key has the property.
pub record IsLastMoment (S : List Received) (P : Key → Type 0) (m : ℕ) : Type 0 where
  pub heard : (s : Received) × (s ∈ S) × P (key_of s.frame) × (s.moment ≡ m)
  pub greatest : (s : Received) → s ∈ S → P (key_of s.frame) → s.moment ≤ m

-- The least first moment of the rows whose key has the property.
pub record IsLeastFirst (rows : List Row) (P : Key → Type 0) (m : ℕ) : Type 0 where
  pub row : (x : Row) × (x ∈ rows) × P (row_key x) × (x.first ≡ m)
  pub least : (x : Row) → x ∈ rows → P (row_key x) → m ≤ x.first

-- The greatest last moment of the rows whose key has the property.
pub record IsGreatestLast (rows : List Row) (P : Key → Type 0) (m : ℕ) : Type 0 where
  pub row : (x : Row) × (x ∈ rows) × P (row_key x) × (last_moment x ≡ m)
  pub greatest : (x : Row) → x ∈ rows → P (row_key x) → last_moment x ≤ m
