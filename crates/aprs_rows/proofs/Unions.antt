-- Unions of names.
use Rattle.aprs_rows.proofs.Common.{◌≡◌, ◌<◌, List, [], ◌∷◌, ◌++◌, ℕ, inl, inr, length, refl, subst, arith, All, AllByRecursion, All-from_recursion, recursion_from_All, IsName, bytes_cmp, union, ◌∈◌, Ordered, IsBelow, in_left, in_right, in_either, bytes_total, bytes_exact, in_union, same_members, union_ordered}

abbrev Ascends : List (List ℕ) → Type 0
Ascends names = Ordered (IsBelow bytes_cmp) names

pub united_alone : (xs : List (List ℕ)) → Ascends xs → union bytes_cmp xs [] ≡ xs
united_alone xs o =
    same_members bytes_total bytes_exact (union bytes_cmp xs []) xs
    (union_ordered bytes_total bytes_exact xs [] tt) o
    (λ z. (
      λ h. elim ((in_union bytes_total bytes_exact xs [] z).0 h) [
        | inl k ↦ k
        | inr k ↦ absurd k
      ],
      λ h. (in_union bytes_total bytes_exact xs [] z).1 (inl h),
    ))

pub united_more : (xs ys : List (List ℕ)) → Ascends ys
    → union bytes_cmp (xs ++ ys) [] ≡ union bytes_cmp (union bytes_cmp xs []) ys
united_more xs ys o =
    let u = in_union bytes_total bytes_exact in
    same_members bytes_total bytes_exact (union bytes_cmp (xs ++ ys) [])
    (union bytes_cmp (union bytes_cmp xs []) ys)
    (union_ordered bytes_total bytes_exact (xs ++ ys) [] tt)
    (union_ordered bytes_total bytes_exact (union bytes_cmp xs []) ys o)
    (λ z. (
      λ h. (u (union bytes_cmp xs []) ys z).1 (elim ((u (xs ++ ys) [] z).0 h) [
        | inl k ↦ elim (in_either z xs ys k) [
          | inl j ↦ inl ((u xs [] z).1 (inl j))
          | inr j ↦ inr j
        ]
        | inr k ↦ absurd k
      ]),
      λ h. (u (xs ++ ys) [] z).1 (inl (elim ((u (union bytes_cmp xs []) ys z).0 h) [
        | inl k ↦ elim ((u xs [] z).0 k) [
          | inl j ↦ in_left z xs ys j
          | inr j ↦ absurd j
        ]
        | inr k ↦ in_right z xs ys k
      ])),
    ))

-- ---- all are names

pub all_append : (xs ys : List (List ℕ)) → All IsName xs → All IsName ys → All IsName (xs ++ ys)
all_append xs ys h k =
    All-from_recursion IsName (xs ++ ys)
    (both xs ys (recursion_from_All IsName xs h) (recursion_from_All IsName ys k)) where
      both : (xs ys : List (List ℕ)) → AllByRecursion IsName xs → AllByRecursion IsName ys
          → AllByRecursion IsName (xs ++ ys)
      both [] ys h k = k
      both (x ∷ xs) ys h k = (h.0, both xs ys h.1 k)

each_name : (xs : List (List ℕ)) → AllByRecursion IsName xs → (z : List ℕ) → z ∈ xs → IsName z
each_name [] a z h = absurd h
each_name (x ∷ xs) a z (inl e) = subst IsName e a.0
each_name (x ∷ xs) a z (inr h) = each_name xs a.1 z h

names_each : (xs : List (List ℕ)) → ((z : List ℕ) → z ∈ xs → IsName z) → AllByRecursion IsName xs
names_each [] f = tt
names_each (x ∷ xs) f = (f x (inl refl), names_each xs (λ z h. f z (inr h)))

pub all_union : (xs ys : List (List ℕ)) → AllByRecursion IsName xs → AllByRecursion IsName ys
    → All IsName (union bytes_cmp xs ys)
all_union xs ys h k =
    All-from_recursion IsName (union bytes_cmp xs ys)
    (names_each (union bytes_cmp xs ys)
    (λ z i. elim ((in_union bytes_total bytes_exact xs ys z).0 i) [
      | inl j ↦ each_name xs h z j
      | inr j ↦ each_name ys k z j
    ]))

pub united_names : (xs : List (List ℕ)) → All IsName xs → All IsName (union bytes_cmp xs [])
united_names xs h = all_union xs [] (recursion_from_All IsName xs h) tt

pub united_some : (xs : List (List ℕ)) → 0 < length xs → 0 < length (union bytes_cmp xs [])
united_some [] h = absurd (omega (arith, h))
united_some (x ∷ xs) h =
    has_some (union bytes_cmp (x ∷ xs) []) x
    ((in_union bytes_total bytes_exact (x ∷ xs) [] x).1 (inl (inl refl))) where
      has_some : (ys : List (List ℕ)) (z : List ℕ) → z ∈ ys → 0 < length ys
      has_some [] z h = absurd h
      has_some (y ∷ ys) z h = omega arith
