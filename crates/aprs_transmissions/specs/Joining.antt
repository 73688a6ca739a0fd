-- What it is to be joined, of each kind of value, and the laws of that.
use Rattle.std.specs.Prelude.{◌≡◌, ℕ, List, [], ◌∷◌, ◌++◌, ◌⊎◌, ◌↔◌}
use Rattle.std.specs.declared.cmp.Ordering.{Ordering}
use Rattle.aprs_log.specs.Reception.{Received, heard_cmp}
use Rattle.aprs_transmissions.specs.Lists.{◌∈◌, SameMembers, Ordered}
use Rattle.aprs_transmissions.specs.Order.{IsBelow, IsUpTo}
use Rattle.aprs_transmissions.specs.Row.{Row}
use Rattle.aprs_transmissions.specs.Book.{BookOf}
use Rattle.aprs_transmissions.specs.Witnesses.{witnesses}

-- Which values are alike is an equivalence. Valid values that are alike have exactly one joined
-- value, which is valid and alike to both; others have none. Neither order nor grouping changes it,
-- and a valid value joined with itself is itself.
pub record JoinLaws {X : Type 0} (valid : X → Type 0) (alike : X → X → Type 0)
    (joined : X → X → X → Type 0) : Type 0 where
  pub reflexive : (a : X) → alike a a
  pub symmetric : (a b : X) → alike a b → alike b a
  pub transitive : (a b c : X) → alike a b → alike b c → alike a c
  pub both : (a b c : X) → joined a b c → alike a c × alike b c
  pub some : (a b : X) → valid a → valid b → alike a b → (c : X) × joined a b c
  pub only : (a b c d : X) → joined a b c → joined a b d → c ≡ d
  pub stays : (a b c : X) → joined a b c → valid c
  pub commutative : (a b c : X) → joined a b c → joined b a c
  pub idempotent : (a x : X) → valid a → (joined a a x ↔ (x ≡ a))
  pub associative : (a b c x y p q : X)
      → joined a b x → joined x c p → joined b c y → joined a y q → p ≡ q

-- c is the greater of two receptions.
pub record IsGreaterOf (a b c : Received) : Type 0 where
  pub one : (c ≡ a) ⊎ (c ≡ b)
  pub left : IsUpTo heard_cmp a c
  pub right : IsUpTo heard_cmp b c

-- Any two are alike.
abbrev pub AreAny : {X : Type 0} → X → X → Type 0
AreAny x y = Unit {0}

-- Each item is alike to `start`.
abbrev pub AreAllAlike : {X : Type 0} → (X → X → Type 0) → X → List X → Type 0
AreAllAlike {X} alike start items = (item : X) → item ∈ items → alike start item

-- Every reception is valid.
abbrev pub IsAny : Received → Type 0
IsAny x = Unit {0}

-- c ascends, and has the members of a and of b, no others.
pub record IsUnited {X : Type 0} (cmp : X → X → Ordering) (a b c : List X) : Type 0 where
  pub ascending : Ordered (IsBelow cmp) c
  pub members : (x : X) → (x ∈ c) ↔ ((x ∈ a) ⊎ (x ∈ b))

-- c is the book of the witnesses of a and b: of receptions that, if heard, give just these rows.
abbrev pub Joined : ℕ → List Row → List Row → List Row → Type 0
Joined gap a b c = BookOf gap (witnesses a ++ witnesses b) c

-- The items joined to `start` one after another.
abbrev pub FoldsTo : {X : Type 0} → (X → X → X → Type 0) → X → List X → X → Type 0
FoldsTo joined start [] end = end ≡ start
FoldsTo {X} joined start (x ∷ xs) end =
    (next : X) × joined start x next × FoldsTo joined next xs end

-- Valid items in another order or with repeats fold to the same.
abbrev pub FoldsFreely : {X : Type 0} → (X → Type 0) → (X → X → X → Type 0) → Type 0
FoldsFreely {X} valid joined =
    (start : X) (xs ys : List X) (c d : X)
    → valid start → ((x : X) → x ∈ xs → valid x) → SameMembers xs ys
    → FoldsTo joined start xs c → FoldsTo joined start ys d → c ≡ d
