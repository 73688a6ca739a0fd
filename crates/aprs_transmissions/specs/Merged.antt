-- Two ascending lists in one, as code makes it: in one pass over both.
use Rattle.std.specs.Prelude.{List, [], ◌∷◌}
use Rattle.std.specs.declared.cmp.Ordering.{Ordering}
use Rattle.aprs_transmissions.specs.Lists.{Ordered}
use Rattle.aprs_transmissions.specs.Order.{IsBelow}
use Rattle.aprs_transmissions.specs.Joining.{IsUnited}
use Rattle.aprs_transmissions.specs.JoinRow.{choose}

-- x and what follows it, merged with others, where `rest` does this for what follows x.
abbrev pub ascending_union_from : {X : Type 0}
    → (X → X → Ordering) → X → List X → (List X → List X) → List X → List X
ascending_union_from cmp x xs rest [] = x ∷ xs
ascending_union_from cmp x xs rest (y ∷ ys) =
    choose (cmp x y) (x ∷ rest (y ∷ ys)) (x ∷ rest ys) (y ∷ ascending_union_from cmp x xs rest ys)

-- The members of two ascending lists, each once, ascending.
abbrev pub ascending_union : {X : Type 0} → (X → X → Ordering) → List X → List X → List X
ascending_union cmp [] ys = ys
ascending_union cmp (x ∷ xs) ys = ascending_union_from cmp x xs (ascending_union cmp xs) ys

-- The one list that is made of two ascending lists in one pass is their joined value.
abbrev pub MergesInOnePass : {X : Type 0} → (X → X → Ordering) → Type 0
MergesInOnePass {X} cmp =
    (a b : List X) → Ordered (IsBelow cmp) a → Ordered (IsBelow cmp) b
    → IsUnited cmp a b (ascending_union cmp a b)
