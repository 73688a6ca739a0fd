-- The greatest reception with a property: what is last known.
use Rattle.std.specs.Prelude.{List, [], ◌∷◌, Option, None, Some, Bool, if◌then◌else◌}
use Rattle.aprs_log.specs.Reception.{Received, heard_cmp}
use Rattle.aprs_transmissions.specs.Lists.{◌∈◌}
use Rattle.aprs_transmissions.specs.Order.{IsUpTo}
use Rattle.aprs_transmissions.specs.Key.{Key, key_of}
use Rattle.aprs_transmissions.specs.JoinRow.{greater}

-- g is the greatest of the receptions in S whose key has the property.
pub record IsBest (S : List Received) (P : Key → Type 0) (g : Received) : Type 0 where
  pub member : g ∈ S
  pub property : P (key_of g.frame)
  pub greatest : (s : Received) → s ∈ S → P (key_of s.frame) → IsUpTo heard_cmp s g

-- What is last known: the greatest of the receptions in S whose key has the property, or none where
-- there are none of these.
abbrev pub LastKnown : List Received → (Key → Type 0) → Option Received → Type 0
LastKnown S P None = (s : Received) → s ∈ S → P (key_of s.frame) → ⊥
LastKnown S P (Some g) = IsBest S P g

-- The greater of what is known and one more reception.
abbrev pub greater_known : Option Received → Received → Received
greater_known None s = s
greater_known (Some g) s = greater g s

-- What is known after one more reception: nothing new, unless its key passes the test.
abbrev pub known_after : (Key → Bool) → Option Received → Received → Option Received
known_after test known s = if test (key_of s.frame) then Some (greater_known known s) else known

-- The plain way to what is last known: one reception after another.
abbrev pub known_of : (Key → Bool) → Option Received → List Received → Option Received
known_of test known [] = known
known_of test known (s ∷ S) = known_of test (known_after test known s) S
