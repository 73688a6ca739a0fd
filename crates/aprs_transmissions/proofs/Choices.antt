-- Choices by an ordering; lists in order with more members.
use Rattle.aprs_transmissions.proofs.Common.{◌≡◌, List, [], ◌∷◌, ◌⊎◌, ◌↔◌, inl, inr, sym, ◌∙◌, subst, IsTotalOrder, MatchOrdering, Ordering, Less, Equal, Greater, CmpEqualImpliesEq}
use Rattle.aprs_transmissions.specs.Lists.{◌∈◌, SameMembers, Ordered}
use Rattle.aprs_transmissions.specs.Order.{IsBelow}
use Rattle.aprs_transmissions.specs.JoinRow.{choose, add, union}
use Rattle.aprs_transmissions.specs.Joining.{IsUnited}
use Rattle.aprs_transmissions.proofs.Lists.{ordered_same}
use Rattle.aprs_transmissions.proofs.Orders.{compared, not_both}

pub by_choice : {A : Type 0} (G : A → Type 0) (a b c : A) (P Q R : Type 0) (o : Ordering)
    → MatchOrdering o P Q R → (P → G a) → (Q → G b) → (R → G c) → G (choose o a b c)
by_choice G a b c P Q R Less h f g k = f h
by_choice G a b c P Q R Equal h f g k = g h
by_choice G a b c P Q R Greater h f g k = k h

module _ {X : Type 0} {R : X → X → Ordering} (o : IsTotalOrder R) (e : CmpEqualImpliesEq R) where
  pub in_add : (x : X) (ys : List X) (z : X) → z ∈ add R x ys ↔ ((x ≡ z) ⊎ (z ∈ ys))
  in_add x [] z = (λ h. h, λ h. h)
  in_add x (y ∷ ys) z =
      by_choice (λ (zs : List X). z ∈ zs ↔ ((x ≡ z) ⊎ (z ∈ (y ∷ ys)))) _ _ _ _ _ _ (R x y)
      (compared o e x y)
      (λ _. (λ h. h, λ h. h))
      (λ d. (λ h. inr h, λ h. elim h [ inl k ↦ inl (sym d ∙ k) | inr k ↦ k ]))
      (λ _. let i = in_add x ys z in (
        λ h. elim h [
          | inl k ↦ inr (inl k)
          | inr k ↦ elim
              (i.0 k) [ inl j ↦ inl j | inr j ↦ inr (inr j) ]
        ],
        λ h. elim h [
          | inl k ↦ inr
              (i.1 (inl k))
          | inr k ↦ elim k [ inl j ↦ inl j | inr j ↦ inr (i.1 (inr j)) ]
        ],
      ))

  pub add_ordered : (x : X) (ys : List X) → Ordered (IsBelow R) ys
      → Ordered (IsBelow R) (add R x ys)
  add_ordered x [] p = (λ z h. absurd h, tt)
  add_ordered x (y ∷ ys) p =
      by_choice (λ (zs : List X). Ordered (IsBelow R) zs) _ _ _ _ _ _ (R x y) (compared o e x y)
      (λ l. (
        λ z h. elim h [
          | inl k ↦ subst (λ (w : X). R x w ≡ Less) k l
          | inr k ↦ o.trans x y z l
              (p.0 z k)
        ],
        p,
      ))
      (λ _. p)
      (λ g. (
        λ z h. elim
            ((in_add x ys z).0 h) [
              | inl k ↦ subst
                  (λ (w : X). R y w ≡ Less) k g
              | inr k ↦ p.0 z k
            ],
        add_ordered x ys p.1,
      ))

  pub in_union : (xs ys : List X) (z : X) → z ∈ union R xs ys ↔ ((z ∈ xs) ⊎ (z ∈ ys))
  in_union [] ys z = (λ h. inr h, λ h. elim h [ inl k ↦ absurd k | inr k ↦ k ])
  in_union (x ∷ xs) ys z =
      let i = in_union xs ys z in let a = in_add x (union R xs ys) z in (
        λ h. elim
            (a.0 h) [
              | inl k ↦ inl (inl k)
              | inr k ↦ elim
                  (i.0 k) [ inl j ↦ inl (inr j) | inr j ↦ inr j ]
            ],
        λ h. elim h [
          | inl k ↦ elim k [
            | inl j ↦ a.1 (inl j)
            | inr j ↦ a.1
                (inr (i.1 (inl j)))
          ]
          | inr k ↦ a.1 (inr (i.1 (inr k)))
        ],
      )

  pub union_ordered : (xs ys : List X) → Ordered (IsBelow R) ys
      → Ordered (IsBelow R) (union R xs ys)
  union_ordered [] ys p = p
  union_ordered (x ∷ xs) ys p = add_ordered x (union R xs ys) (union_ordered xs ys p)

  pub same_members : (xs ys : List X) → Ordered (IsBelow R) xs → Ordered (IsBelow R) ys
      → SameMembers xs ys → xs ≡ ys
  same_members xs ys p q f =
      ordered_same (IsBelow R) (λ x y. not_both o x y) xs ys p q (λ z h. (f z).0 h)
      (λ z h. (f z).1 h)

  -- what is there is not added
  pub add_listed : (x : X) (ys : List X) → Ordered (IsBelow R) ys → x ∈ ys → add R x ys ≡ ys
  add_listed x ys p h = same_members (add R x ys) ys (add_ordered x ys p) p
      (λ z. (
        λ k. elim
            ((in_add x ys z).0 k) [ inl d ↦ subst (λ (w : X). w ∈ ys) d h | inr j ↦ j ],
        λ k.
            (in_add x ys z).1 (inr k),
      ))

  -- one more member, as a union
  pub union_one : (xs : List X) (x : X) → Ordered (IsBelow R) xs → union R xs (x ∷ []) ≡ add R x xs
  union_one xs x p =
      same_members (union R xs (x ∷ [])) (add R x xs)
      (union_ordered xs (x ∷ []) (λ y h. absurd h, tt)) (add_ordered x xs p)
      (λ z. (
        λ h. elim ((in_union xs (x ∷ []) z).0 h) [
          | inl k ↦ (in_add x xs z).1 (inr k)
          | inr k ↦ elim k [ inl d ↦ (in_add x xs z).1 (inl d) | inr j ↦ absurd j ]
        ],
        λ h. elim
            ((in_add x xs z).0 h) [
              | inl d ↦ (in_union xs (x ∷ []) z).1 (inr (inl d))
              | inr k ↦
                  (in_union xs (x ∷ []) z).1 (inl k)
            ],
      ))

  pub union_flip : (xs ys : List X) → Ordered (IsBelow R) xs → Ordered (IsBelow R) ys
      → union R xs ys ≡ union R ys xs
  union_flip xs ys p q =
      same_members (union R xs ys) (union R ys xs) (union_ordered xs ys q) (union_ordered ys xs p)
      (λ z. (λ h. to xs ys z h, λ h. to ys xs z h)) where
        to : (xs ys : List X) (z : X) → z ∈ union R xs ys → z ∈ union R ys xs
        to xs ys z h =
            elim
            ((in_union xs ys z).0 h) [
              | inl k ↦ (in_union ys xs z).1 (inr k)
              | inr k ↦
                  (in_union ys xs z).1 (inl k)
            ]

  -- a united list is the union
  pub united_is_union : (xs ys zs : List X) → Ordered (IsBelow R) ys → IsUnited R xs ys zs
      → zs ≡ union R xs ys
  united_is_union xs ys zs q u = same_members zs (union R xs ys) u.ascending (union_ordered xs ys q)
      (λ z. (
        λ h. (in_union xs ys z).1 ((u.members z).0 h),
        λ h. (u.members z).1
            ((in_union xs ys z).0 h),
      ))
