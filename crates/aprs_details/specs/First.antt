-- What is read first in a text.
use Rattle.std.specs.Prelude.{ℕ, List, [], ◌∷◌, Option, Some, None}

-- The first value, or else the second.
abbrev pub or_other : {A : Type 0} → Option A → Option A → Option A
or_other (Some x) other = Some x
or_other None other = other

-- What the reading finds at the first place of the text at which it finds something.
unfoldable pub first_in : {A : Type 0} → (List ℕ → Option A) → List ℕ → Option A
first_in reading [] = None
first_in reading (b ∷ bs) = or_other (reading (b ∷ bs)) (first_in reading bs)
