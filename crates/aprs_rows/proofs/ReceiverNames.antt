-- Lists of names in order.
use Rattle.aprs_rows.proofs.Common.{◌⊎◌, inl, inr, ◌≡◌, ℕ, zero, suc, ◌<◌, ◌≤◌, get_or, List, [], ◌∷◌, ◌++◌, length, drop, Result, Ok, Err, OnOk, OnErr, MatchResult, refl, sym, ap, subst, ◌∙◌, arith, drop_all, insert, HoldsAt, IsNonDecreasingBy, IsPartitionPoint, IsBinarySearchResult, IsSearchInRange, ordering_index, ordering_reverse, Ordering, Less, Equal, Greater, bytes_cmp, ◌∈◌, Ordered, IsBelow, add, IsUnited, ascending_union, bytes_total, bytes_exact, add_listed, add_ordered, merged_is_united, merged_is_union}
use Rattle.std.proofs.Common.{append-nil}
use Rattle.std.proofs.lemmas.List.Edits.{length-insert}
use Rattle.aprs_rows.proofs.Cases.{by_order}

merged-nil : (xs : List (List ℕ)) → ascending_union bytes_cmp xs [] ≡ xs
merged-nil [] = refl
merged-nil (x ∷ xs) = refl

-- where one list has ended, the other follows
pub merged_ended : (xs ys : List (List ℕ)) (i j : ℕ) → (length xs ≤ i) ⊎ (length ys ≤ j)
    → ascending_union bytes_cmp (drop i xs) (drop j ys) ≡ drop i xs ++ drop j ys
merged_ended xs ys i j (inl h) = rw (drop_all i xs h)
merged_ended xs ys i j (inr h) = rw (drop_all j ys h, merged-nil, append-nil)

-- a name that is there has no other place
pub listed_is_there : (x : List ℕ) (ys : List (List ℕ)) (i : ℕ) → Ordered (IsBelow bytes_cmp) ys
    → x ∈ ys → i ≤ length ys → add bytes_cmp x ys ≡ insert ys i x → ⊥
listed_is_there x ys i o h w e =
    let same : insert ys i x ≡ ys = sym e ∙ add_listed bytes_total bytes_exact x ys o h in
    absurd (let l = ap length same in omega (arith, l, length-insert ys i x w))

-- names that a new one is put among, or that stay
pub kept_ordered : {U E : Type 0} (r : Result U E) (name : List ℕ) (names new : List (List ℕ))
    (i : ℕ)
    → Ordered (IsBelow bytes_cmp) names → add bytes_cmp name names ≡ insert names i name
    → OnOk r (new ≡ insert names i name) → OnErr r (new ≡ names) → Ordered (IsBelow bytes_cmp) new
kept_ordered (Ok _) name names new i o e f g =
    subst (Ordered (IsBelow bytes_cmp)) (e ∙ sym f)
    (add_ordered bytes_total bytes_exact name names o)
kept_ordered (Err _) name names new i o e f g = subst (Ordered (IsBelow bytes_cmp)) (sym g) o

-- a name in its place among others is united with them
pub added_is_united : (name : List ℕ) (names : List (List ℕ)) → Ordered (IsBelow bytes_cmp) names
    → IsUnited bytes_cmp (name ∷ []) names (add bytes_cmp name names)
added_is_united name names o =
    let one : Ordered (IsBelow bytes_cmp) (name ∷ []) = (λ y h. absurd h, tt) in
    subst (IsUnited bytes_cmp (name ∷ []) names)
    (merged_is_union bytes_total bytes_exact (name ∷ []) names one o)
    (merged_is_united bytes_total bytes_exact (name ∷ []) names one o)

-- and so it is where it was put at that place, unless that failed
pub inserted_joins : {U E : Type 0} (r : Result U E) (name : List ℕ)
    (names new : List (List ℕ)) (i : ℕ) → Ordered (IsBelow bytes_cmp) names
    → add bytes_cmp name names ≡ insert names i name → OnOk r (new ≡ insert names i name)
    → OnOk r (IsUnited bytes_cmp (name ∷ []) names new)
inserted_joins (Ok _) name names new i o e f =
    subst (IsUnited bytes_cmp (name ∷ []) names) (e ∙ sym f) (added_is_united name names o)
inserted_joins (Err _) name names new i o e f = tt

-- ---- a name looked for by halves

index_bound : (o : Ordering) → ordering_index o ≤ 2
index_bound Less = omega arith
index_bound Equal = omega arith
index_bound Greater = omega arith

-- of two names in order the first lies no further after x than the second
below_rises : (y z x : List ℕ) → bytes_cmp y z ≡ Less
    → ordering_index (bytes_cmp y x) ≤ ordering_index (bytes_cmp z x)
below_rises y z x l =
    by_order (bytes_cmp z x)
    (λ o. let first = bytes_total.trans y z x l o in rw (first, o) (omega arith))
    (λ o.
    let first : bytes_cmp y x ≡ Less =
    subst (λ (t : List ℕ). bytes_cmp y t ≡ Less) (bytes_exact z x o) l in
    rw (first, o) (omega arith))
    (λ o. rw o (index_bound (bytes_cmp y x)))

in_names : (ys : List (List ℕ)) (i : ℕ) (d : List ℕ) → i < length ys → get_or ys i d ∈ ys
in_names [] i d h = absurd (omega (arith, h))
in_names (y ∷ ys) zero d h = inl refl
in_names (y ∷ ys) (suc i) d h = inr (in_names ys i d (omega (arith, h)))

rises : (x : List ℕ) (ys : List (List ℕ)) → Ordered (IsBelow bytes_cmp) ys
    → IsNonDecreasingBy (λ y. ordering_index (bytes_cmp y x)) ys
rises x [] o i j d l w = absurd (omega (arith, w))
rises x (y ∷ ys) o zero zero d l w = omega arith
rises x (y ∷ ys) o zero (suc j) d l w =
    below_rises y (get_or ys j d) x (o.0 _ (in_names ys j d (omega (arith, w))))
rises x (y ∷ ys) o (suc i) zero d l w = absurd (omega (arith, l))
rises x (y ∷ ys) o (suc i) (suc j) d l w =
    rises x ys o.1 i j d (omega (arith, l)) (omega (arith, w))

reversed : (x y : List ℕ) (o : Ordering) → bytes_cmp y x ≡ o → bytes_cmp x y ≡ ordering_reverse o
reversed x y o e = bytes_total.antisymm x y ∙ ap ordering_reverse e

-- x goes to the place before which all names are below it, and from which on all are above it
goes_there : (x : List ℕ) (ys : List (List ℕ)) (i : ℕ) → i ≤ length ys
    → ((k : ℕ) (d : List ℕ) → k < i → bytes_cmp (get_or ys k d) x ≡ Less)
    → ((k : ℕ) (d : List ℕ) → i ≤ k → k < length ys → bytes_cmp (get_or ys k d) x ≡ Greater)
    → add bytes_cmp x ys ≡ insert ys i x
goes_there x [] zero w b a = refl
goes_there x [] (suc i) w b a = absurd (omega (arith, w))
goes_there x (y ∷ ys) zero w b a =
    let o = reversed x y _ (a 0 y (omega arith) (omega arith)) in rw o refl
goes_there x (y ∷ ys) (suc i) w b a =
    let o = reversed x y _ (b 0 y (omega arith)) in
    rw o (ap (λ t. y ∷ t) (goes_there x ys i (omega (arith, w))
    (λ k d l. b (suc k) d (omega (arith, l)))
    (λ k d l m. a (suc k) d (omega (arith, l)) (omega (arith, m)))))

-- what a binary search finds
found_name : (x : List ℕ) (ys : List (List ℕ)) (i : ℕ) → Ordered (IsBelow bytes_cmp) ys
    → i < length ys → HoldsAt (λ y. bytes_cmp y x ≡ Equal) ys i → add bytes_cmp x ys ≡ ys
found_name x ys i o w h =
    let is : get_or ys i x ≡ x = bytes_exact _ x (h x) in
    add_listed bytes_total bytes_exact x ys o
    (subst (λ (t : List ℕ). t ∈ ys) is (in_names ys i x w))

found_place : (x : List ℕ) (ys : List (List ℕ)) (i : ℕ) → Ordered (IsBelow bytes_cmp) ys
    → i ≤ length ys
    → (IsNonDecreasingBy (λ y. ordering_index (bytes_cmp y x)) ys
    → IsPartitionPoint (λ y. bytes_cmp y x ≡ Less) (λ y. bytes_cmp y x ≡ Greater) ys i)
    → add bytes_cmp x ys ≡ insert ys i x
found_place x ys i o w p =
    let at = p (rises x ys o) in
    goes_there x ys i w (λ k d l. at.0 k d (omega arith) l) at.1

pub searched_name : (r : Result ℕ ℕ) (x : List ℕ) (ys : List (List ℕ))
    → Ordered (IsBelow bytes_cmp) ys → IsSearchInRange r (length ys)
    → IsBinarySearchResult (λ y. bytes_cmp y x) ys r
    → MatchResult r (λ _. add bytes_cmp x ys ≡ ys)
    (λ i. (i ≤ length ys) × (add bytes_cmp x ys ≡ insert ys i x))
searched_name (Ok i) x ys o w p = found_name x ys i o w p
searched_name (Err i) x ys o w p = (w, found_place x ys i o w p)
