-- Transmissions. One is a maximal run of receptions of one key: none of them is missing, and no
-- neighbours in it are further apart than the gap.
use Rattle.std.specs.Prelude.{◌≡◌, ℕ, ◌+◌, ◌<◌, ◌≤◌, List}
use Rattle.aprs_log.specs.Reception.{Received}
use Rattle.aprs_transmissions.specs.Lists.{◌∈◌}
use Rattle.aprs_transmissions.specs.Key.{Key, key_of}

-- S has a reception of this key at this moment.
abbrev pub HeardAt : List Received → Key → ℕ → Type 0
HeardAt S key moment = (s : Received) × (s ∈ S) × (key_of s.frame ≡ key) × (s.moment ≡ moment)

-- The receptions of the key in S from one moment to another are one transmission: there is one at
-- the first moment, and one at the last, which isn't before it; each before the last moment has a
-- later one at most `gap` milliseconds after it; and none of the key lies that near before the
-- first moment or after the last.
pub record Run (gap : ℕ) (S : List Received) (key : Key) (first last : ℕ) : Type 0 where
  pub in_order : first ≤ last
  pub at_first : HeardAt S key first
  pub at_last : HeardAt S key last
  pub none_before : (m : ℕ) → m < first → first ≤ m + gap → HeardAt S key m → ⊥
  pub none_after : (m : ℕ) → last < m → m ≤ last + gap → HeardAt S key m → ⊥
  pub linked : (m : ℕ) → HeardAt S key m → first ≤ m → m < last
      → (n : ℕ) × (m < n) × (n ≤ m + gap) × HeardAt S key n
