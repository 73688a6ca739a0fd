-- Merging in one pass: rows that come by key and first moment, from any number of books, join only
-- the last one so far.
use Rattle.aprs_transmissions.proofs.Common.{◌≡◌, ℕ, ◌≤◌, min, List, [], ◌∷◌, ◌++◌, ◌↔◌, inl, inr, sym, refl, ap, ◌∙◌, subst, arith, false, nat_tests, nat_cmp, ordering_then, ordering_reverse, is_gt, Ordering, Less, Equal, Greater, Received}
use Rattle.aprs_transmissions.specs.Lists.{◌∈◌, Ordered}
use Rattle.aprs_transmissions.specs.Order.{IsUpTo}
use Rattle.aprs_transmissions.specs.Key.{Key, key_cmp}
use Rattle.aprs_transmissions.specs.Row.{Row, row_key, row_cmp}
use Rattle.aprs_transmissions.specs.Witnesses.{witnesses_of_row, witnesses}
use Rattle.aprs_transmissions.specs.JoinRow.{combine, compare_near, coalesce}
use Rattle.aprs_transmissions.proofs.Lists.{in_left, in_right, in_either}
use Rattle.aprs_transmissions.proofs.Choices.{by_choice}
use Rattle.aprs_transmissions.proofs.Rows.{Makes, IsBefore, combined, combined_key, combines, place_means, before_combined}
use Rattle.aprs_transmissions.proofs.Made.{IsUnion, Made, span}
use Rattle.aprs_transmissions.proofs.Books.{below, row_total}
use Rattle.aprs_transmissions.proofs.Parts.{before_up_to}

-- U = L + (X + T) is (L + X) + T
joined_left : (U L X T W : List Received) → IsUnion U L W → IsUnion W X T → IsUnion U (L ++ X) T
joined_left U L X T W u v s = (
  λ h. elim
      ((u s).0 h) [
        | inl k ↦ inl (in_left s L X k)
        | inr k ↦ elim
            ((v s).0 k) [ inl j ↦ inl (in_right s L X j) | inr j ↦ inr j ]
      ],
  λ h. elim h [
    | inl k ↦ elim
        (in_either s L X k) [
          | inl j ↦ (u s).1 (inl j)
          | inr j ↦ (u s).1
              (inr ((v s).1 (inl j)))
        ]
    | inr k ↦ (u s).1 (inr ((v s).1 (inr k)))
  ],
)

pub made_coalesce : (gap : ℕ) (U L T : List Received) (l : Row) (xs : List Row) → IsUnion U L T
    → Makes gap L l → Made gap T xs → Made gap U (coalesce gap l xs)
made_coalesce gap U L T l [] u ml m = (L, T, u, ml, m)
made_coalesce gap U L T l (x ∷ xs) u ml m =
    by_choice (λ (rows : List Row). Made gap U rows) _ _ _ _ _ _ (compare_near gap l x)
    (place_means gap l x)
    (λ _. (L, T, u, ml, made_coalesce gap T m.0 m.1 x xs m.2 m.3 m.4))
    (λ n. made_coalesce gap U (L ++ m.0) m.1 (combine l x) xs (joined_left U L m.0 m.1 T u m.2)
    (combined gap L m.0 l x (combine l x) ml m.3 n (combines gap L m.0 l x n.key ml m.3)) m.4)
    (λ _. (L, T, u, ml, made_coalesce gap T m.0 m.1 x xs m.2 m.3 m.4))

pub down : (a c : ℕ) → is_gt (nat_cmp a c) ≡ false → a ≤ c
down a c u = grind (arith, nat_tests)

up : (a c : ℕ) → a ≤ c → is_gt (nat_cmp a c) ≡ false
up a c l = grind (arith, nat_tests)

pub combined_up_to : (l x y : Row) → row_key l ≡ row_key x → IsUpTo row_cmp l y
    → IsUpTo row_cmp (combine l x) y
combined_up_to l x y e u =
    subst
    (λ (k : Key). is_gt
    (ordering_then (key_cmp k (row_key y)) (nat_cmp (min l.first x.first) y.first)) ≡ false)
    (sym (combined_key l x e))
    (by_case (key_cmp (row_key l) (row_key y)) l.first x.first y.first u) where
      by_case : (o : Ordering) (a b c : ℕ) → is_gt (ordering_then o (nat_cmp a c)) ≡ false
          → is_gt (ordering_then o (nat_cmp (min a b) c)) ≡ false
      by_case Less a b c u = refl
      by_case Equal a b c u = up (min a b) c (let n = down a c u in omega arith)
      by_case Greater a b c u = u

pub before_coalesce : (gap : ℕ) (L T : List Received) (w l : Row) (xs : List Row) → Makes gap L l
    → Made gap T xs → IsBefore gap w l → ((y : Row) → y ∈ xs → IsUpTo row_cmp l y)
    → Ordered (IsUpTo row_cmp) xs → (y : Row) → y ∈ coalesce gap l xs → IsBefore gap w y
before_coalesce gap L T w l [] ml m b f o =
    λ y i. elim i [ inl e ↦ subst (λ (z : Row). IsBefore gap w z) e b | inr k ↦ absurd k ]
before_coalesce gap L T w l (x ∷ xs) ml m b f o =
    by_choice (λ (rows : List Row). (y : Row) → y ∈ rows → IsBefore gap w y) _ _ _ _ _ _
    (compare_near gap l x) (place_means gap l x)
    (λ _. λ y i. elim i [
      | inl e ↦ subst
          (λ (z : Row). IsBefore gap w z) e b
      | inr k ↦ before_coalesce gap m.0 m.1 w x xs m.3 m.4
          (before_up_to gap w l x (f x (inl refl)) b) o.0 o.1 y k
    ])
    (λ n. before_coalesce gap (L ++ m.0) m.1 w (combine l x) xs
    (combined gap L m.0 l x (combine l x) ml m.3 n (combines gap L m.0 l x n.key ml m.3)) m.4
    (before_combined gap w l x (combine l x) n.key (combines gap L m.0 l x n.key ml m.3) b
    (before_up_to gap w l x (f x (inl refl)) b))
    (λ y h. combined_up_to l x y n.key (f y (inr h))) o.1)
    (λ _. λ y i. elim i [
      | inl e ↦ subst
          (λ (z : Row). IsBefore gap w z) e b
      | inr k ↦ before_coalesce gap m.0 m.1 w x xs m.3 m.4
          (before_up_to gap w l x (f x (inl refl)) b) o.0 o.1 y k
    ])

pub ordered_coalesce : (gap : ℕ) (L T : List Received) (l : Row) (xs : List Row) → Makes gap L l
    → Made gap T xs → ((y : Row) → y ∈ xs → IsUpTo row_cmp l y) → Ordered (IsUpTo row_cmp) xs
    → Ordered (IsBefore gap) (coalesce gap l xs)
ordered_coalesce gap L T l [] ml m f o = (λ y h. absurd h, tt)
ordered_coalesce gap L T l (x ∷ xs) ml m f o =
    by_choice (λ (rows : List Row). Ordered (IsBefore gap) rows) _ _ _ _ _ _ (compare_near gap l x)
    (place_means gap l x)
    (λ b. (
      before_coalesce gap m.0 m.1 l x xs m.3 m.4 b o.0 o.1,
      ordered_coalesce gap m.0 m.1 x xs m.3 m.4 o.0 o.1,
    ))
    (λ n. ordered_coalesce gap (L ++ m.0) m.1 (combine l x) xs
    (combined gap L m.0 l x (combine l x) ml m.3 n (combines gap L m.0 l x n.key ml m.3)) m.4
    (λ y h. combined_up_to l x y n.key (f y (inr h))) o.1)
    (λ b. absurd (wrong b (f x (inl refl)))) where
      wrong : IsBefore gap x l → IsUpTo row_cmp l x → ⊥
      wrong b u =
          cc (
            ap is_gt
                (row_total.antisymm l x ∙ ap ordering_reverse
                (below gap x l (span gap m.0 x m.3) b)),
            u,
          )

pub in_witnesses : (rows : List Row) (s : Received)
    → (s ∈ witnesses rows) ↔ ((x : Row) × (x ∈ rows) × (s ∈ witnesses_of_row x))
in_witnesses [] s = (λ h. absurd h, λ t. t.1)
in_witnesses (x ∷ xs) s = (
  λ h. elim (in_either s (witnesses_of_row x) (witnesses xs) h) [
    | inl k ↦ (x, inl refl, k)
    | inr k ↦ let t = (in_witnesses xs s).0 k in (t.0, inr t.1, t.2)
  ],
  λ t. elim t.1 [
    | inl e ↦ in_left s (witnesses_of_row x) (witnesses xs)
        (subst (λ (z : Row). s ∈ witnesses_of_row z) (sym e) t.2)
    | inr k ↦ in_right s (witnesses_of_row x) (witnesses xs) ((in_witnesses xs s).1 (t.0, k, t.2))
  ],
)
