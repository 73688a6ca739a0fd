-- Books in another unit of time.
use Rattle.aprs_transmissions.proofs.Common.{◌≡◌, ℕ, ◌+◌, ◌*◌, ◌/◌, ◌<◌, ◌≤◌, List, [], ◌∷◌, map, ◌⊎◌, ◌↔◌, inl, inr, refl, ap, ◌∙◌, subst, arith, nat_cmp_is, nat_cmp, ordering_then, is_gt, MatchOrdering, Ordering, Less, Equal, Greater, nat_tests, exact_unsigned, Received, bytes_cmp, heard_cmp}
use Rattle.std.proofs.Math.Nat.{add-mul, mul-le-mul_right, mul-lt-mul_of_pos_right, div-mul-le_self, lt-div-mul-add, le-div_iff_mul-le, div-lt_iff_lt-mul, eq_of_mul-eq-mul_right, lt_of_mul-lt-mul_right}
use Rattle.aprs_transmissions.specs.Lists.{◌∈◌, Ordered}
use Rattle.aprs_transmissions.specs.Order.{IsUpTo}
use Rattle.aprs_transmissions.specs.Row.{Row, last_moment, IsOf}
use Rattle.aprs_transmissions.specs.Book.{BookOf}
use Rattle.aprs_transmissions.specs.Scaling.{scaled_heard, scaled_row, scaled_rows}
use Rattle.aprs_transmissions.proofs.Lists.{in_map, from_map}
use Rattle.aprs_transmissions.proofs.Rows.{Makes, IsBefore}
use Rattle.aprs_transmissions.proofs.Made.{IsUnion, Made}
use Rattle.aprs_transmissions.proofs.Books.{book_of_keeps, keeps_of_book, one_book, same_row}
use Rattle.aprs_transmissions.proofs.Soundness.{exists}

-- moments in two units lie alike
scaled_cmp : (a b k : ℕ) → 0 < k → nat_cmp (a * k) (b * k) ≡ nat_cmp a b
scaled_cmp a b k pos = nat_cmp_is a b (nat_cmp (a * k) (b * k))
    (by_case (nat_cmp (a * k) (b * k)) refl) where
      by_case : (o : Ordering) → nat_cmp (a * k) (b * k) ≡ o
          → MatchOrdering o (a < b) (a ≡ b) (b < a)
      by_case Less h = lt_of_mul-lt-mul_right k (grind (arith, nat_tests))
      by_case Equal h = eq_of_mul-eq-mul_right k pos a b (exact_unsigned (a * k) (b * k) h)
      by_case Greater h = lt_of_mul-lt-mul_right k (grind (arith, nat_tests))

scaled_heard_cmp : (k : ℕ) (s t : Received) → 0 < k
    → heard_cmp (scaled_heard k s) (scaled_heard k t) ≡ heard_cmp s t
scaled_heard_cmp k s t pos =
    ap
    (λ (o : Ordering). ordering_then o
    (ordering_then (bytes_cmp s.receiver t.receiver) (bytes_cmp s.frame t.frame)))
    (scaled_cmp s.moment t.moment k pos)

scaled_up_to : (k : ℕ) (s t : Received) → 0 < k → IsUpTo heard_cmp s t
    → IsUpTo heard_cmp (scaled_heard k s) (scaled_heard k t)
scaled_up_to k s t pos u = ap is_gt (scaled_heard_cmp k s t pos) ∙ u

module _ (k gap : ℕ) (pos : 0 < k) where
  -- each member of a scaled list is a scaled member
  of_each : (P : Received → Type 0) (X : List Received) → ((s : Received) → s ∈ X
      → P (scaled_heard k s))
      → (t : Received) → t ∈ map (scaled_heard k) X → P t
  of_each P X f t h = let u = from_map (scaled_heard k) t X h in subst P u.2 (f u.0 u.1)

  -- a moment between two moments of the old unit: the last one of these that isn't after it
  scaled_linked : (X : List Received) (x : Row) → Makes gap X x → (n : ℕ) → x.first * k ≤ n
      → n < last_moment x * k
      → (s : Received) × (s ∈ map (scaled_heard k) X) × (n < s.moment) × (s.moment ≤ n + gap * k)
  scaled_linked X x m n l u =
      let t = m.linked (n / k) ((le-div_iff_mul-le pos).1 l)
      ((div-lt_iff_lt-mul pos).1 u) in
      let low : n / k * k ≤ n = div-mul-le_self n k in
      let high : n < n / k * k + k = lt-div-mul-add pos in
      let next : (n / k + 1) * k ≤ t.0.moment * k =
      mul-le-mul_right k (omega (arith, t.2)) in
      let near : t.0.moment * k ≤ (n / k + gap) * k =
      mul-le-mul_right k t.3 in (
        scaled_heard k t.0,
        in_map (scaled_heard k) t.0 X t.1,
        between (n / k * k) k n (t.0.moment * k) high
            (subst (λ (w : ℕ). w ≤ t.0.moment * k) (add-mul (n / k) 1 k) next),
        within (n / k * k) (gap * k) n (t.0.moment * k) low
            (subst (λ (w : ℕ). t.0.moment * k ≤ w) (add-mul (n / k) gap k) near),
      ) where
        between : (a c m b : ℕ) → m < a + c → a + 1 * c ≤ b → m < b
        between a c m b h g = omega arith

        within : (a c m b : ℕ) → a ≤ m → b ≤ a + c → b ≤ m + c
        within a c m b h g = omega arith

  scaled_makes : (X : List Received) (x : Row) → Makes gap X x
      → Makes (gap * k) (map (scaled_heard k) X) (scaled_row k x)
  scaled_makes X x m = record {
    own = of_each (λ t. IsOf (scaled_row k x) t) X
        (λ s h. let i = m.own s h in record {
          key = i.key;
          from = mul-le-mul_right k i.from;
          to = mul-le-mul_right k i.to;
        });
    at_first =
        let t = m.at_first in
        (scaled_heard k t.0, in_map (scaled_heard k) t.0 X t.1, ap (λ (n : ℕ). n * k) t.2);
    linked = scaled_linked X x m;
    ascending = m.ascending;
    receivers = λ r. (
      λ h. let t = (m.receivers r).0 h in
          (scaled_heard k t.0, in_map (scaled_heard k) t.0 X t.1, t.2),
      λ t. let u = from_map (scaled_heard k) t.0 X t.1 in
          (m.receivers r).1 (u.0, u.1, ap (λ (s : Received). s.receiver) u.2 ∙ t.2),
    );
    member = in_map (scaled_heard k) x.greatest X m.member;
    greatest = of_each (λ t. IsUpTo heard_cmp t (scaled_heard k x.greatest)) X
        (λ s h. scaled_up_to k s x.greatest pos (m.greatest s h));
  }

  scaled_union : (S X T : List Received) → IsUnion S X T
      → IsUnion (map (scaled_heard k) S) (map (scaled_heard k) X) (map (scaled_heard k) T)
  scaled_union S X T u t = (
    λ h. of_each (λ t. (t ∈ map (scaled_heard k) X) ⊎ (t ∈ map (scaled_heard k) T)) S
        (λ s g. elim ((u s).0 g) [
          | inl j ↦ inl (in_map (scaled_heard k) s X j)
          | inr j ↦ inr (in_map (scaled_heard k) s T j)
        ]) t h,
    λ h. elim h [
      | inl j ↦ of_each (λ t. t ∈ map (scaled_heard k) S) X
          (λ s g. in_map (scaled_heard k) s S ((u s).1 (inl g))) t j
      | inr j ↦ of_each (λ t. t ∈ map (scaled_heard k) S) T
          (λ s g. in_map (scaled_heard k) s S ((u s).1 (inr g))) t j
    ],
  )

  scaled_made : (S : List Received) (rows : List Row) → Made gap S rows
      → Made (gap * k) (map (scaled_heard k) S) (scaled_rows k rows)
  scaled_made S [] m =
      λ t h. let u = from_map (scaled_heard k) t S h in m u.0 u.1
  scaled_made S (x ∷ xs) m = (
    map (scaled_heard k) m.0,
    map (scaled_heard k) m.1,
    scaled_union S m.0 m.1 m.2,
    scaled_makes m.0 x m.3,
    scaled_made m.1 xs m.4,
  )

  scaled_before : (x y : Row) → IsBefore gap x y
      → IsBefore (gap * k) (scaled_row k x) (scaled_row k y)
  scaled_before x y (inl h) = inl h
  scaled_before x y (inr h) =
      inr (
        h.0,
        subst (λ (w : ℕ). w < y.first * k) (add-mul (last_moment x) gap k)
            (mul-lt-mul_of_pos_right h.1 pos),
      )

  scaled_ordered : (rows : List Row) → Ordered (IsBefore gap) rows
      → Ordered (IsBefore (gap * k)) (scaled_rows k rows)
  scaled_ordered [] o = tt
  scaled_ordered (x ∷ xs) o = (
    λ z h. let u = from_map (scaled_row k) z xs h in
        subst (λ (w : Row). IsBefore (gap * k) (scaled_row k x) w) u.2
        (scaled_before x u.0 (o.0 u.0 u.1)),
    scaled_ordered xs o.1,
  )

  pub scaled_book : (S : List Received) (rows : List Row) → BookOf gap S rows
      → BookOf (gap * k) (map (scaled_heard k) S) (scaled_rows k rows)
  scaled_book S rows b =
      let w = keeps_of_book gap S rows b in
      book_of_keeps (gap * k) (map (scaled_heard k) S) (scaled_rows k rows)
      (record { made = scaled_made S rows w.made; ordered = scaled_ordered rows w.ordered })

  -- ---- and back, since no two moments scale to one

  one_heard : (s t : Received) → scaled_heard k s ≡ scaled_heard k t → s ≡ t
  one_heard s t e =
      let m = eq_of_mul-eq-mul_right k pos s.moment t.moment (ap (λ (u : Received). u.moment) e) in
      λ i. record {
        moment = m i;
        receiver = ap (λ (u : Received). u.receiver) e i;
        frame = ap (λ (u : Received). u.frame) e i;
      }

  one_row : (x y : Row) → scaled_row k x ≡ scaled_row k y → x ≡ y
  one_row x y e =
      same_row x y
      (eq_of_mul-eq-mul_right k pos x.first y.first (ap (λ (z : Row). z.first) e))
      (ap (λ (z : Row). z.receivers) e)
      (one_heard x.greatest y.greatest (ap (λ (z : Row). z.greatest) e))

  abbrev head_or : Row → List Row → Row
  head_or d [] = d
  head_or d (x ∷ xs) = x

  abbrev tail : List Row → List Row
  tail [] = []
  tail (x ∷ xs) = xs

  pub one_scaled : (p q : List Row) → scaled_rows k p ≡ scaled_rows k q → p ≡ q
  one_scaled [] [] e = refl
  one_scaled [] (y ∷ ys) e = cc e
  one_scaled (x ∷ xs) [] e = cc e
  one_scaled (x ∷ xs) (y ∷ ys) e =
      let h = one_row x y (ap (head_or (scaled_row k x)) e) in
      let t = one_scaled xs ys (ap tail e) in
      ap (λ z. z ∷ xs) h ∙ ap (λ zs. y ∷ zs) t

pub scales_book : (k gap : ℕ) (S : List Received) (rows : List Row) → 0 < k
    → BookOf gap S rows ↔ BookOf (gap * k) (map (scaled_heard k) S) (scaled_rows k rows)
scales_book k gap S rows pos = (
  scaled_book k gap pos S rows,
  λ b. let t = exists gap S in
      subst (λ (p : List Row). BookOf gap S p)
      (one_scaled k gap pos t.0 rows
      (one_book (gap * k) (map (scaled_heard k) S) (scaled_rows k t.0) (scaled_rows k rows)
      (scaled_book k gap pos S t.0 t.1) b)) t.1,
)
