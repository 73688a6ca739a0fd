-- Between members and places: what std's clauses say by index.
use Rattle.aprs_transmissions.proofs.Common.{◌≡◌, ℕ, zero, suc, ◌<◌, List, [], ◌∷◌, ◌++◌, inl, inr, refl, arith, length, get_or}
use Rattle.aprs_transmissions.specs.Lists.{◌∈◌, Ordered}
use Rattle.aprs_transmissions.proofs.Lists.{in_either}

pub in_place : {X : Type 0} (xs : List X) (k : ℕ) (d : X) → k < length xs → get_or xs k d ∈ xs
in_place [] k d h = absurd (omega arith)
in_place (x ∷ xs) zero d h = inl refl
in_place (x ∷ xs) (suc k) d h = inr (in_place xs k d (omega arith))

pub place_of : {X : Type 0} (xs : List X) (z : X) → z ∈ xs
    → (k : ℕ) × (k < length xs) × ((d : X) → get_or xs k d ≡ z)
place_of [] z h = absurd h
place_of (x ∷ xs) z (inl e) = (zero, omega arith, λ d. e)
place_of (x ∷ xs) z (inr h) = let t = place_of xs z h in (suc t.0, omega (arith, t.1), t.2)

pub ordered_append : {X : Type 0} (R : X → X → Type 0) (xs ys : List X) → Ordered R xs
    → Ordered R ys → ((x y : X) → x ∈ xs → y ∈ ys → R x y) → Ordered R (xs ++ ys)
ordered_append R [] ys o p f = p
ordered_append R (x ∷ xs) ys o p f = (
  λ z h. elim (in_either z xs ys h) [ inl k ↦ o.0 z k | inr k ↦ f x z (inl refl) k ],
  ordered_append R xs ys o.1 p (λ a b h k. f a b (inr h) k),
)
