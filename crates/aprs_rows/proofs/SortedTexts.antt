-- The text of names that ascend, of equal ones one, is that of their union.
use Rattle.aprs_rows.proofs.Common.{◌≡◌, ◌∙◌, ℕ, zero, suc, ◌+◌, ◌<◌, ◌≤◌, Bool, true, false, List, [], ◌∷◌, ◌++◌, ◌⊎◌, inl, inr, length, get_or, drop, map, append_assoc, refl, sym, ap, subst, arith, Bor, drop_all, if◌then◌else◌, join_with_byte, IsSorted, IsPermutation, IsTotalOrder, is_lt, is_gt, is_ne, ordering_reverse, on_total, ranks_by, sorted_far, IsPermutation-map, length-append, Ordering, Less, Equal, Greater, bytes_cmp, union, ◌∈◌, Ordered, SameMembers, IsBelow, IsUpTo, from_map, bytes_total, bytes_exact, place_of, in_union, same_members, union_ordered}
use Rattle.std.proofs.lemmas.List.{append-nil}
use Rattle.aprs_rows.proofs.Orders as Orders
use Rattle.aprs_rows.specs.Sorted.{next_text, further, after_first, ascending_text}

abbrev now_of : Bor (List ℕ) → List ℕ
now_of n = n.now

-- ---- one name after another

steps : (first : Bor (List ℕ)) (others : List (Bor (List ℕ))) (i : ℕ) (d : Bor (List ℕ))
    → i < length others
    → after_first (drop i (map now_of (first ∷ others)))
    ≡ next_text (get_or (first ∷ others) i d).now (get_or others i d).now
    ++ after_first (drop (suc i) (map now_of (first ∷ others)))
steps first [] i d h = absurd (omega (arith, h))
steps first (o ∷ others) zero d h = refl
steps first (o ∷ others) (suc i) d h = steps o others i d (omega (arith, h))

pub next_put : (names others : List (Bor (List ℕ))) (first : Bor (List ℕ)) (i : ℕ)
    (d : Bor (List ℕ)) (text start longer : List ℕ) → names ≡ first ∷ others → i < length others
    → text ++ after_first (drop i (map now_of names)) ≡ start
    → longer ≡ text ++ next_text (get_or names i d).now (get_or others i d).now
    → longer ++ after_first (drop (i + 1) (map now_of names)) ≡ start
next_put names others first i d text start longer e l h k =
    let one : i + 1 ≡ suc i = omega arith in
    let step : after_first (drop i (map now_of names))
    ≡ next_text (get_or names i d).now (get_or others i d).now
    ++ after_first (drop (i + 1) (map now_of names)) =
    (λ t. after_first (drop i (map now_of (e t)))) ∙ steps first others i d l
    ∙ (λ t. next_text (get_or (sym e t) i d).now (get_or others i d).now
    ++ after_first (drop (sym one t) (map now_of (sym e t)))) in
    ap (λ ys. ys ++ after_first (drop (i + 1) (map now_of names))) k
    ∙ append_assoc text (next_text (get_or names i d).now (get_or others i d).now) _
    ∙ ap (λ ys. text ++ ys) (sym step) ∙ h

-- and is no longer than all
pub next_fits : (names others : List (Bor (List ℕ))) (first : Bor (List ℕ)) (i : ℕ)
    (d : Bor (List ℕ)) (text start : List ℕ) → names ≡ first ∷ others → i < length others
    → text ++ after_first (drop i (map now_of names)) ≡ start
    → length text + length (next_text (get_or names i d).now (get_or others i d).now)
    ≤ length start
next_fits names others first i d text start e l h =
    let next = next_text (get_or names i d).now (get_or others i d).now in
    let rest = after_first (drop (i + 1) (map now_of names)) in
    let all = ap length (next_put names others first i d text start (text ++ next) e l h refl) in
    omega (arith, all, length-append (text ++ next) rest, length-append text next)

no_more : (first : Bor (List ℕ)) (others : List (Bor (List ℕ))) (i : ℕ) → length others ≤ i
    → after_first (drop i (map now_of (first ∷ others))) ≡ []
no_more first [] zero h = refl
no_more first [] (suc i) h = ap after_first (drop_all i [] (omega arith))
no_more first (o ∷ others) zero h = absurd (omega (arith, h))
no_more first (o ∷ others) (suc i) h = no_more o others i (omega (arith, h))

pub all_put : (names others : List (Bor (List ℕ))) (first : Bor (List ℕ)) (i : ℕ)
    (text start : List ℕ) → names ≡ first ∷ others → length others ≤ i
    → text ++ after_first (drop i (map now_of names)) ≡ start → text ≡ start
all_put names others first i text start e l h =
    sym (append-nil text)
    ∙ ap (λ ys. text ++ ys) (sym ((λ t. after_first (drop i (map now_of (e t))))
    ∙ no_more first others i l))
    ∙ h

-- ---- of equal ones one

abbrev others_after : List ℕ → List (List ℕ) → List (List ℕ)
others_after b [] = []
others_after b (n ∷ names) =
    if is_ne (bytes_cmp b n) then n ∷ others_after n names else others_after n names

joined : (x b : List ℕ) (names : List (List ℕ))
    → x ++ further b names ≡ join_with_byte 44 (x ∷ others_after b names)
joined x b [] = append-nil x
joined x b (n ∷ names) =
    by_test (is_ne (bytes_cmp b n)) (joined n n names) (joined x n names) where
      by_test : (t : Bool)
          → n ++ further n names ≡ join_with_byte 44 (n ∷ others_after n names)
          → x ++ further n names ≡ join_with_byte 44 (x ∷ others_after n names)
          → x ++ ((if t then 44 ∷ n else []) ++ further n names)
          ≡ join_with_byte 44 (x ∷ (if t then n ∷ others_after n names else others_after n names))
      by_test true e f = ap (λ ys. x ++ 44 ∷ ys) e
      by_test false e f = f

less : (b n : List ℕ) → IsUpTo bytes_cmp b n → is_ne (bytes_cmp b n) ≡ true → IsBelow bytes_cmp b n
less b n u h = by_case (bytes_cmp b n) u h where
  by_case : (o : Ordering) → is_gt o ≡ false → is_ne o ≡ true → o ≡ Less
  by_case Less u h = refl
  by_case Equal u h = absurd (cc)
  by_case Greater u h = absurd (cc)

same : (b n : List ℕ) → is_ne (bytes_cmp b n) ≡ false → b ≡ n
same b n h = bytes_exact b n (by_case (bytes_cmp b n) h) where
  by_case : (o : Ordering) → is_ne o ≡ false → o ≡ Equal
  by_case Less h = absurd (cc)
  by_case Equal h = refl
  by_case Greater h = absurd (cc)

-- What the others are after a name.
record AreOthers (b : List ℕ) (names others : List (List ℕ)) : Type 0 where
  above : (z : List ℕ) → z ∈ others → IsBelow bytes_cmp b z
  ascending : Ordered (IsBelow bytes_cmp) others
  of : (z : List ℕ) → z ∈ others → z ∈ names
  all : (z : List ℕ) → z ∈ names → (b ≡ z) ⊎ (z ∈ others)

others : (b : List ℕ) (names : List (List ℕ)) → Ordered (IsUpTo bytes_cmp) (b ∷ names)
    → AreOthers b names (others_after b names)
others b [] o = record {
  above = λ z h. absurd h;
  ascending = tt;
  of = λ z h. h;
  all = λ z h. absurd h;
}
others b (n ∷ names) o = by_test (is_ne (bytes_cmp b n)) refl (others n names o.1) where
  by_test : (t : Bool) → is_ne (bytes_cmp b n) ≡ t → AreOthers n names (others_after n names)
      → AreOthers b (n ∷ names)
      (if t then n ∷ others_after n names else others_after n names)
  by_test true h rest =
      let below = less b n (o.0 n (inl refl)) h in record {
        above = λ z k. elim k [
          | inl e ↦ subst (λ (w : List ℕ). IsBelow bytes_cmp b w) e below
          | inr j ↦ bytes_total.trans b n z below (rest.above z j)
        ];
        ascending = (rest.above, rest.ascending);
        of = λ z k. elim k [ inl e ↦ inl e | inr j ↦ inr (rest.of z j) ];
        all = λ z k. elim k [
          | inl e ↦ inr (inl e)
          | inr j ↦ elim (rest.all z j) [ inl e ↦ inr (inl e) | inr i ↦ inr (inr i) ]
        ];
      }
  by_test false h rest =
      let is = same b n h in record {
        above = λ z k. subst (λ (w : List ℕ). IsBelow bytes_cmp w z) (sym is) (rest.above z k);
        ascending = rest.ascending;
        of = λ z k. inr (rest.of z k);
        all = λ z k. elim k [
          | inl e ↦ inl (is ∙ e)
          | inr j ↦ elim (rest.all z j) [ inl e ↦ inl (is ∙ e) | inr i ↦ inr i ]
        ];
      }

-- the names in order, of equal ones one, are the union of names that are the same set
pub text_is_of_union : (names sorted : List (List ℕ)) → SameMembers names sorted
    → Ordered (IsUpTo bytes_cmp) sorted
    → ascending_text sorted ≡ join_with_byte 44 (union bytes_cmp names [])
text_is_of_union names [] e o =
    ap (join_with_byte 44) (same_members bytes_total bytes_exact [] (union bytes_cmp names []) tt
    (union_ordered bytes_total bytes_exact names [] tt)
    (λ z. (
      λ h. absurd h,
      λ h. elim ((in_union bytes_total bytes_exact names [] z).0 h) [
        | inl k ↦ (e z).0 k
        | inr k ↦ absurd k
      ],
    )))
text_is_of_union names (n ∷ sorted) e o =
    let r = others n sorted o in
    joined n n sorted
    ∙ ap (join_with_byte 44) (same_members bytes_total bytes_exact
    (n ∷ others_after n sorted) (union bytes_cmp names []) (r.above, r.ascending)
    (union_ordered bytes_total bytes_exact names [] tt)
    (λ z. (
      λ h. (in_union bytes_total bytes_exact names [] z).1 (inl ((e z).1
          (elim h [ inl k ↦ inl k | inr k ↦ inr (r.of z k) ]))),
      λ h. elim ((in_union bytes_total bytes_exact names [] z).0 h) [
        | inl k ↦ elim ((e z).0 k) [
          | inl j ↦ inl j
          | inr j ↦ elim (r.all z j) [ inl i ↦ inl i | inr i ↦ inr i ]
        ]
        | inr k ↦ absurd k
      ],
    )))

-- ---- what a sort gives

abbrev pub names_cmp : Bor (List ℕ) → Bor (List ℕ) → Ordering
names_cmp a b = bytes_cmp a.now b.now

names_total : IsTotalOrder names_cmp
names_total = on_total now_of bytes_total

not_after : (x y : Bor (List ℕ)) → is_lt (names_cmp y x) ≡ false → IsUpTo bytes_cmp x.now y.now
not_after x y e = ap is_gt (names_total.antisymm x y) ∙ reversed (names_cmp y x) e where
  reversed : (o : Ordering) → is_lt o ≡ false → is_gt (ordering_reverse o) ≡ false
  reversed Less e = absurd (cc)
  reversed Equal e = refl
  reversed Greater e = refl

ordered : (xs : List (Bor (List ℕ)))
    → ((i j : ℕ) (d : Bor (List ℕ)) → i ≤ j → j < length xs
    → is_lt (names_cmp (get_or xs j d) (get_or xs i d)) ≡ false)
    → Ordered (IsUpTo bytes_cmp) (map now_of xs)
ordered [] h = tt
ordered (x ∷ xs) h = (
  λ y m.
      let n = from_map now_of y xs m in
      let p = place_of xs n.0 n.1 in
      subst (λ (z : List ℕ). IsUpTo bytes_cmp x.now z) n.2
      (subst (λ (z : Bor (List ℕ)). IsUpTo bytes_cmp x.now z.now) (p.2 n.0)
      (not_after x (get_or xs p.0 n.0) (h 0 (suc p.0) n.0 (omega arith) (omega (arith, p.1))))),
  ordered xs (λ i j d p q. h (suc i) (suc j) d (omega (arith, p)) (omega (arith, q))),
)

pub text_of_sort : (names sorted : List (Bor (List ℕ))) → IsPermutation names sorted
    → IsSorted names_cmp sorted
    → ascending_text (map now_of sorted) ≡ join_with_byte 44 (union bytes_cmp (map now_of names) [])
text_of_sort names sorted p o =
    text_is_of_union (map now_of names) (map now_of sorted)
    (Orders.same_members (map now_of names) (map now_of sorted)
    (IsPermutation-map now_of names sorted p))
    (ordered sorted (sorted_far (λ x y. is_lt (names_cmp x y)) (ranks_by names_total (λ x. x))
    sorted o))
