-- Rows that a sort has put in order.
use Rattle.aprs_rows.proofs.Common.{◌≡◌, ◌∙◌, ℕ, suc, ◌<◌, ◌≤◌, false, List, [], ◌∷◌, length, get_or, inl, inr, refl, ap, subst, arith, AllByRecursion, IsPermutation, is_lt, is_gt, ordering_reverse, Ordering, Less, Equal, Greater, All-from_recursion, recursion_from_All, All-permutation, IsPermutation-sym, AreInOrder, ◌∈◌, SameMembers, IsUpTo, Row, row_cmp, place_of, Bool, Bor, IsStrictWeakOrder, IsSortedBy, ranks_by, sorted_far}
use Rattle.std.specs.Fn.{Called, ComparesAs, Mut}
use Rattle.std.proofs.lemmas.Fn.{always_returns_same}
use Rattle.aprs_transmissions.proofs.Books.{row_total}

-- x is not after y where y is not before x
pub not_after : (x y : Row) → is_lt (row_cmp y x) ≡ false → IsUpTo row_cmp x y
not_after x y e = ap is_gt (row_total.antisymm x y) ∙ reversed (row_cmp y x) e where
  reversed : (o : Ordering) → is_lt o ≡ false → is_gt (ordering_reverse o) ≡ false
  reversed Less e = absurd (cc)
  reversed Equal e = refl
  reversed Greater e = refl

pub ordered : (xs : List Row)
    → ((i j : ℕ) (d : Row) → i ≤ j → j < length xs
    → is_lt (row_cmp (get_or xs j d) (get_or xs i d)) ≡ false)
    → AreInOrder xs
ordered [] h = tt
ordered (x ∷ xs) h = (
  λ y m.
      let p = place_of xs y m in
      subst (λ (z : Row). IsUpTo row_cmp x z) (p.2 y)
      (not_after x (get_or xs p.0 y) (h 0 (suc p.0) y (omega arith) (omega (arith, p.1)))),
  ordered xs (λ i j d p q. h (suc i) (suc j) d (omega (arith, p)) (omega (arith, q))),
)

-- what a sort by the order of rows gives
pub ordered_by_sort : {F : Type 0} {g : Mut F (Bor Row × (Bor Row × Unit {0})) Ordering} {f : F}
    (rows : List Row)
    → ((lt : Row → Row → Bool) → IsStrictWeakOrder lt → ComparesAs g lt f → IsSortedBy lt rows)
    → ((a : Bor Row × (Bor Row × Unit {0})) (r : Ordering) (f' : F) → Called g f a r f'
    → (r ≡ row_cmp a.0.now a.1.0.now) × (f' ≡ f))
    → AreInOrder rows
ordered_by_sort {g = g} {f = f} rows up h =
    let order = ranks_by row_total (λ (x : Row). x) in
    ordered rows (sorted_far (λ x y. is_lt (row_cmp x y)) order rows
    (up (λ x y. is_lt (row_cmp x y)) order
    (always_returns_same g (λ a r. is_lt r ≡ is_lt (row_cmp a.0.now a.1.0.now)) f
    (λ a r f' k. (ap is_lt (h a r f' k).0, (h a r f' k).1)))))

-- ---- the same rows in another order

module _ {X : Type 0} where
  each : (xs ys : List X) → ((x : X) → x ∈ xs → x ∈ ys) → AllByRecursion (λ x. x ∈ ys) xs
  each [] ys f = tt
  each (x ∷ xs) ys f = (f x (inl refl), each xs ys (λ z h. f z (inr h)))

  one_of : (xs ys : List X) → AllByRecursion (λ x. x ∈ ys) xs → (z : X) → z ∈ xs → z ∈ ys
  one_of [] ys a z h = absurd h
  one_of (x ∷ xs) ys a z (inl e) = subst (λ (w : X). w ∈ ys) e a.0
  one_of (x ∷ xs) ys a z (inr h) = one_of xs ys a.1 z h

  into : (xs ys : List X) → IsPermutation xs ys → (z : X) → z ∈ ys → z ∈ xs
  into xs ys p =
      one_of ys xs (recursion_from_All (λ x. x ∈ xs) ys
      (All-permutation (λ x. x ∈ xs) xs ys p
      (All-from_recursion (λ x. x ∈ xs) xs (each xs xs (λ z h. h)))))

  pub same_members : (xs ys : List X) → IsPermutation xs ys → SameMembers xs ys
  same_members xs ys p z = (into ys xs (IsPermutation-sym xs ys p) z, into xs ys p z)
