-- Two ascending lists, merged in one pass, are united.
use Rattle.aprs_transmissions.proofs.Common.{◌≡◌, List, [], ◌∷◌, ◌⊎◌, ◌↔◌, inl, inr, sym, ◌∙◌, subst, IsTotalOrder, Ordering, Less, CmpEqualImpliesEq}
use Rattle.aprs_transmissions.specs.Lists.{◌∈◌, Ordered}
use Rattle.aprs_transmissions.specs.Order.{IsBelow}
use Rattle.aprs_transmissions.specs.Joining.{IsUnited}
use Rattle.aprs_transmissions.specs.JoinRow.{union}
use Rattle.aprs_transmissions.specs.Merged.{ascending_union_from, ascending_union}
use Rattle.aprs_transmissions.proofs.Orders.{compared}
use Rattle.aprs_transmissions.proofs.Choices.{by_choice, united_is_union}

module _ {X : Type 0} {R : X → X → Ordering} (o : IsTotalOrder R) (e : CmpEqualImpliesEq R) where
  from_members : (x : X) (xs : List X) (rest : List X → List X)
      → ((ys : List X) (z : X) → (z ∈ rest ys) ↔ ((z ∈ xs) ⊎ (z ∈ ys))) → (ys : List X) (z : X)
      → (z ∈ ascending_union_from R x xs rest ys) ↔ ((z ∈ (x ∷ xs)) ⊎ (z ∈ ys))
  from_members x xs rest f [] z = (λ h. inl h, λ h. elim h [ inl k ↦ k | inr k ↦ absurd k ])
  from_members x xs rest f (y ∷ ys) z =
      by_choice (λ (zs : List X). (z ∈ zs) ↔ ((z ∈ (x ∷ xs)) ⊎ (z ∈ (y ∷ ys)))) _ _ _ _ _ _ (R x y)
      (compared o e x y)
      (λ _. let i = f (y ∷ ys) z in (
        λ h. elim h [
          | inl d ↦ inl (inl d)
          | inr k ↦ elim
              (i.0 k) [ inl j ↦ inl (inr j) | inr j ↦ inr j ]
        ],
        λ h. elim h [
          | inl k ↦ elim k [ inl d ↦ inl d | inr j ↦ inr (i.1 (inl j)) ]
          | inr k ↦ inr
              (i.1 (inr k))
        ],
      ))
      (λ d. let i = f ys z in (
        λ h. elim h [
          | inl c ↦ inl (inl c)
          | inr k ↦ elim
              (i.0 k) [ inl j ↦ inl (inr j) | inr j ↦ inr (inr j) ]
        ],
        λ h. elim h [
          | inl k ↦ elim k [ inl c ↦ inl c | inr j ↦ inr (i.1 (inl j)) ]
          | inr k ↦ elim k [ inl c ↦ inl (d ∙ c) | inr j ↦ inr (i.1 (inr j)) ]
        ],
      ))
      (λ _. let i = from_members x xs rest f ys z in (
        λ h. elim h [
          | inl d ↦ inr (inl d)
          | inr k ↦ elim
              (i.0 k) [ inl j ↦ inl j | inr j ↦ inr (inr j) ]
        ],
        λ h. elim h [
          | inl k ↦ inr
              (i.1 (inl k))
          | inr k ↦ elim k [ inl d ↦ inl d | inr j ↦ inr (i.1 (inr j)) ]
        ],
      ))

  pub merged_members : (xs ys : List X) (z : X)
      → (z ∈ ascending_union R xs ys) ↔ ((z ∈ xs) ⊎ (z ∈ ys))
  merged_members [] ys z = (λ h. inr h, λ h. elim h [ inl k ↦ absurd k | inr k ↦ k ])
  merged_members (x ∷ xs) ys z = from_members x xs (ascending_union R xs) (merged_members xs) ys z

  from_ordered : (x : X) (xs ys : List X) → Ordered (IsBelow R) (x ∷ xs) → Ordered (IsBelow R) ys
      → ((zs : List X) → Ordered (IsBelow R) zs → Ordered (IsBelow R) (ascending_union R xs zs))
      → Ordered (IsBelow R) (ascending_union R (x ∷ xs) ys)
  from_ordered x xs [] p q f = p
  from_ordered x xs (y ∷ ys) p q f =
      by_choice (λ (zs : List X). Ordered (IsBelow R) zs) _ _ _ _ _ _ (R x y) (compared o e x y)
      (λ l. (
        λ z h. elim ((merged_members xs (y ∷ ys) z).0 h) [
          | inl k ↦ p.0 z k
          | inr k ↦ elim k [
            | inl d ↦ subst (λ (w : X). R x w ≡ Less) d l
            | inr j ↦ o.trans x y z l
                (q.0 z j)
          ]
        ],
        f (y ∷ ys) q,
      ))
      (λ d. (
        λ z h. elim ((merged_members xs ys z).0 h) [
          | inl k ↦ p.0 z k
          | inr k ↦ subst (λ (w : X). R w z ≡ Less) (sym d) (q.0 z k)
        ],
        f ys q.1,
      ))
      (λ g. (
        λ z h. elim ((merged_members (x ∷ xs) ys z).0 h) [
          | inl k ↦ elim k [
            | inl d ↦ subst (λ (w : X). R y w ≡ Less) d g
            | inr j ↦ o.trans y x z g
                (p.0 z j)
          ]
          | inr k ↦ q.0 z k
        ],
        from_ordered x xs ys p q.1 f,
      ))

  pub merged_ordered : (xs ys : List X) → Ordered (IsBelow R) xs → Ordered (IsBelow R) ys
      → Ordered (IsBelow R) (ascending_union R xs ys)
  merged_ordered [] ys p q = q
  merged_ordered (x ∷ xs) ys p q = from_ordered x xs ys p q (λ zs r. merged_ordered xs zs p.1 r)

  -- so it is the joined value
  pub merged_is_united : (xs ys : List X) → Ordered (IsBelow R) xs → Ordered (IsBelow R) ys
      → IsUnited R xs ys (ascending_union R xs ys)
  merged_is_united xs ys p q =
      record { ascending = merged_ordered xs ys p q; members = merged_members xs ys }

  pub merged_is_union : (xs ys : List X) → Ordered (IsBelow R) xs → Ordered (IsBelow R) ys
      → ascending_union R xs ys ≡ union R xs ys
  merged_is_union xs ys p q =
      united_is_union o e xs ys (ascending_union R xs ys) q (merged_is_united xs ys p q)
