-- Members of lists, and lists in order.
use Rattle.aprs_transmissions.proofs.Common.{◌≡◌, List, [], ◌∷◌, ◌++◌, ◌⊎◌, inl, inr, sym, refl, ap, ◌∙◌, subst, map}
use Rattle.aprs_transmissions.specs.Lists.{◌∈◌, Ordered}

pub in_left : {X : Type 0} (z : X) (xs ys : List X) → z ∈ xs → z ∈ (xs ++ ys)
in_left z [] ys h = absurd h
in_left z (x ∷ xs) ys (inl e) = inl e
in_left z (x ∷ xs) ys (inr h) = inr (in_left z xs ys h)

pub in_right : {X : Type 0} (z : X) (xs ys : List X) → z ∈ ys → z ∈ (xs ++ ys)
in_right z [] ys h = h
in_right z (x ∷ xs) ys h = inr (in_right z xs ys h)

pub in_either : {X : Type 0} (z : X) (xs ys : List X) → z ∈ (xs ++ ys) → (z ∈ xs) ⊎ (z ∈ ys)
in_either z [] ys h = inr h
in_either z (x ∷ xs) ys (inl e) = inl (inl e)
in_either z (x ∷ xs) ys (inr h) = elim (in_either z xs ys h) [ inl k ↦ inl (inr k) | inr k ↦ inr k ]

-- what holds of each member, one after another
abbrev pub EachOf : {X : Type 0} → (X → Type 0) → List X → Type 0
EachOf P [] = Unit {0}
EachOf P (x ∷ xs) = P x × EachOf P xs

pub each_of : {X : Type 0} (P : X → Type 0) (xs : List X) → EachOf P xs → (x : X) → x ∈ xs → P x
each_of P [] a z h = absurd h
each_of P (x ∷ xs) a z (inl e) = subst P e a.0
each_of P (x ∷ xs) a z (inr h) = each_of P xs a.1 z h

-- members of a list that a function made
pub in_map : {X Y : Type 0} (f : X → Y) (x : X) (xs : List X) → x ∈ xs → f x ∈ map f xs
in_map f a [] h = absurd h
in_map f a (x ∷ xs) (inl e) = inl (ap f e)
in_map f a (x ∷ xs) (inr h) = inr (in_map f a xs h)

pub from_map : {X Y : Type 0} (f : X → Y) (y : Y) (xs : List X) → y ∈ map f xs
    → (x : X) × (x ∈ xs) × (f x ≡ y)
from_map f b [] h = absurd h
from_map f b (x ∷ xs) (inl e) = (x, inl refl, e)
from_map f b (x ∷ xs) (inr h) = let k = from_map f b xs h in (k.0, inr k.1, k.2)

-- a weaker relation, between members
pub ordered_weaker : {X : Type 0} (R Q : X → X → Type 0) (xs : List X)
    → ((x y : X) → x ∈ xs → y ∈ xs → R x y → Q x y) → Ordered R xs → Ordered Q xs
ordered_weaker R Q [] f o = tt
ordered_weaker R Q (x ∷ xs) f o = (
  λ y h. f x y (inl refl) (inr h) (o.0 y h),
  ordered_weaker R Q xs
      (λ a b ha hb r. f a b (inr ha) (inr hb) r) o.1,
)

-- lists in order with the same members are equal
pub ordered_same : {X : Type 0} (R : X → X → Type 0) → ((x y : X) → R x y → R y x → ⊥)
    → (xs ys : List X) → Ordered R xs → Ordered R ys → ((z : X) → z ∈ xs → z ∈ ys)
    → ((z : X) → z ∈ ys → z ∈ xs) → xs ≡ ys
ordered_same R asym [] [] o p f g = refl
ordered_same R asym [] (y ∷ ys) o p f g = absurd (g y (inl refl))
ordered_same R asym (x ∷ xs) [] o p f g = absurd (f x (inl refl))
ordered_same {X} R asym (x ∷ xs) (y ∷ ys) o p f g =
    let e : x ≡ y =
    elim
    (f x (inl refl)) [
      | inl d ↦ sym d
      | inr h ↦ elim
          (g y (inl refl)) [ inl d ↦ d | inr k ↦ absurd (asym x y (o.0 y k) (p.0 x h)) ]
    ] in
    let t : xs ≡ ys = ordered_same R asym xs ys o.1 p.1
    (λ z h. elim
    (f z (inr h)) [
      | inl d ↦ absurd
          (let r = subst (λ (w : X). R w z) (e ∙ d) (o.0 z h) in asym z z r r)
      | inr k ↦ k
    ])
    (λ z h. elim
    (g z (inr h)) [
      | inl d ↦ absurd
          (let r = subst (λ (w : X). R w z) (sym e ∙ d) (p.0 z h) in asym z z r r)
      | inr k ↦ k
    ]) in
    ap (λ w. w ∷ xs) e ∙ ap (λ w. y ∷ w) t
