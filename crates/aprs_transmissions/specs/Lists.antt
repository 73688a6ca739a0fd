-- Lists as sets, and lists in order.
use Rattle.std.specs.Prelude.{◌≡◌, List, [], ◌∷◌, ◌⊎◌, ◌↔◌, None, IfSome}
use Rattle.std.specs.List.{last_or}

-- x is a member of the list.
infix 50 ◌∈◌
abbrev pub ◌∈◌ : {X : Type 0} → X → List X → Type 0
x ∈ [] = ⊥
x ∈ (y ∷ ys) = (y ≡ x) ⊎ (x ∈ ys)

-- What is a member of one list is a member of the other: as sets they are equal.
abbrev pub SameMembers : {X : Type 0} → List X → List X → Type 0
SameMembers {X} xs ys = (x : X) → (x ∈ xs) ↔ (x ∈ ys)

-- Each element is in this relation to each later one.
abbrev pub Ordered : {X : Type 0} → (X → X → Type 0) → List X → Type 0
Ordered R [] = Unit {0}
Ordered {X} R (x ∷ xs) = ((y : X) → y ∈ xs → R x y) × Ordered R xs

-- The last member of the list has this property, if the list has members.
abbrev pub IfLast : {X : Type 0} → List X → (X → Type 0) → Type 0
IfLast xs P = IfSome (last_or None xs) P
