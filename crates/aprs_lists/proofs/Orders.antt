-- Lists in order.
use Rattle.aprs_lists.proofs.Common.{◌≡◌, ◌∙◌, ◌<◌, ◌≤◌, ℕ, false, List, [], ◌∷◌, drop, length, get_or, suc, zero, ap, arith, refl, subst, inl, inr, is_gt, is_lt, ordering_reverse, IsTotalOrder, IsSortedBy, Ordered, Ordering, Less, Equal, Greater, IsUpTo, place_of, AllByRecursion, All-from_recursion, recursion_from_All, All-permutation, IsPermutation, IsPermutation-sym, SameMembers, ranks_by, sorted_far, ◌∈◌}

module _ {X : Type 0} {R : X → X → Ordering} (total : IsTotalOrder R) where
  -- x is not after y where y is not before x
  pub not_after : (x y : X) → is_lt (R y x) ≡ false → IsUpTo R x y
  not_after x y e = ap is_gt (total.antisymm x y) ∙ reversed (R y x) e where
    reversed : (o : Ordering) → is_lt o ≡ false → is_gt (ordering_reverse o) ≡ false
    reversed Less e = absurd (cc)
    reversed Equal e = refl
    reversed Greater e = refl

  ordered : (xs : List X)
      → ((i j : ℕ) (d : X) → i ≤ j → j < length xs → is_lt (R (get_or xs j d) (get_or xs i d)) ≡ false)
      → Ordered (IsUpTo R) xs
  ordered [] h = tt
  ordered (x ∷ xs) h = (
    λ y m.
        let p = place_of xs y m in
        subst (λ (z : X). IsUpTo R x z) (p.2 y)
        (not_after x (get_or xs p.0 y) (h 0 (suc p.0) y (omega arith) (omega (arith, p.1)))),
    ordered xs (λ i j d p q. h (suc i) (suc j) d (omega (arith, p)) (omega (arith, q))),
  )

  -- what a sort gives
  pub sorted_ordered : (xs : List X) → IsSortedBy (λ x y. is_lt (R x y)) xs → Ordered (IsUpTo R) xs
  sorted_ordered xs up =
      ordered xs (sorted_far (λ x y. is_lt (R x y)) (ranks_by total (λ (x : X). x)) xs up)

pub ordered_drop : {X : Type 0} (Q : X → X → Type 0) (n : ℕ) (xs : List X) → Ordered Q xs
    → Ordered Q (drop n xs)
ordered_drop Q zero xs o = o
ordered_drop Q (suc n) [] o = tt
ordered_drop Q (suc n) (x ∷ xs) o = ordered_drop Q n xs o.1

pub dropped_in : {X : Type 0} (n : ℕ) (xs : List X) (x : X) → x ∈ drop n xs → x ∈ xs
dropped_in zero xs x h = h
dropped_in (suc n) [] x h = h
dropped_in (suc n) (y ∷ xs) x h = inr (dropped_in n xs x h)

-- ---- the same members in another order

module _ {X : Type 0} where
  each : (xs ys : List X) → ((x : X) → x ∈ xs → x ∈ ys) → AllByRecursion (λ x. x ∈ ys) xs
  each [] ys f = tt
  each (x ∷ xs) ys f = (f x (inl refl), each xs ys (λ z h. f z (inr h)))

  one_of : (xs ys : List X) → AllByRecursion (λ x. x ∈ ys) xs → (z : X) → z ∈ xs → z ∈ ys
  one_of [] ys a z h = absurd h
  one_of (x ∷ xs) ys a z (inl e) = subst (λ (w : X). w ∈ ys) e a.0
  one_of (x ∷ xs) ys a z (inr h) = one_of xs ys a.1 z h

  into : (xs ys : List X) → IsPermutation xs ys → (z : X) → z ∈ ys → z ∈ xs
  into xs ys p =
      one_of ys xs (recursion_from_All (λ x. x ∈ xs) ys
      (All-permutation (λ x. x ∈ xs) xs ys p
      (All-from_recursion (λ x. x ∈ xs) xs (each xs xs (λ z h. h)))))

  pub same_members : (xs ys : List X) → IsPermutation xs ys → SameMembers xs ys
  same_members xs ys p z = (into ys xs (IsPermutation-sym xs ys p) z, into xs ys p z)
