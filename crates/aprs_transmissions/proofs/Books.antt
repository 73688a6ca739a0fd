-- Rows that keep S are the book of S, and no other rows are.
use Rattle.aprs_transmissions.proofs.Common.{◌≡◌, ℕ, zero, suc, ◌+◌, ◌-◌, ◌<◌, ◌≤◌, List, inl, inr, sym, refl, ap, ◌∙◌, subst, arith, cases_lt, nat_tests, then_total, on_total, nat_cmp_total, tied_itself, IsTotalOrder, nat_cmp, ordering_then, Ordering, Less, Equal, Received, bytes_cmp}
use Rattle.aprs_transmissions.specs.Lists.{◌∈◌, SameMembers}
use Rattle.aprs_transmissions.specs.Order.{IsBelow}
use Rattle.aprs_transmissions.specs.Key.{Key, key_cmp}
use Rattle.aprs_transmissions.specs.Run.{HeardAt, Run}
use Rattle.aprs_transmissions.specs.Row.{Row, row_key, last_moment, IsOf, RowOf, row_cmp}
use Rattle.aprs_transmissions.specs.Book.{BookOf}
use Rattle.aprs_transmissions.specs.JoinRow.{plain_book}
use Rattle.aprs_transmissions.proofs.Lists.{ordered_weaker, ordered_same}
use Rattle.aprs_transmissions.proofs.Orders.{not_both, same_greatest, key_total, bytes_total, heard_total, heard_exact}
use Rattle.aprs_transmissions.proofs.Rows.{IsBefore}
use Rattle.aprs_transmissions.proofs.Made.{IsPart, part_of, row_of, span, Keeps, keeps_book}

-- a row's greatest reception is of the row
pub own_of : (gap : ℕ) (S : List Received) (x : Row) → RowOf gap S x → IsOf x x.greatest
own_of gap S x r = record { key = refl; from = r.run.in_order; to = omega arith }

module _ (gap : ℕ) (S : List Received) (x : Row) (p : IsPart gap S x) where
  inside : (s : Received) → s ∈ S → IsOf x s → s ∈ p.X
  inside s h i = elim (p.others s h) [
    | inl k ↦ k
    | inr f ↦ absurd
        (elim (f i.key) [ inl l ↦ omega (arith, i.from) | inr l ↦ omega (arith, i.to) ])
  ]

  run_of_part : Run gap S (row_key x) x.first (last_moment x)
  run_of_part = let l : x.first ≤ (last_moment x) = span gap p.X x p.makes in record {
    in_order = l;
    at_first = let t = p.makes.at_first in (t.0, p.within t.0 t.1, (p.makes.own t.0 t.1).key, t.2);
    at_last = (x.greatest, p.within x.greatest p.makes.member, refl, refl);
    none_before = λ m b a h. elim (p.others h.0 h.1) [
      | inl k ↦ let i = p.makes.own h.0 k in omega (arith, i.from, h.3)
      | inr f ↦ elim (f h.2) [ inl k ↦ omega (arith, k, h.3) | inr k ↦ omega (arith, k, h.3) ]
    ];
    none_after = λ m a b h. elim (p.others h.0 h.1) [
      | inl k ↦ let i = p.makes.own h.0 k in omega (arith, i.to, h.3)
      | inr f ↦ elim (f h.2) [ inl k ↦ omega (arith, k, h.3) | inr k ↦ omega (arith, k, h.3) ]
    ];
    linked =
        λ m h a b. let t =
        p.makes.linked m a b in
        (t.0.moment, t.2, t.3, (t.0, p.within t.0 t.1, (p.makes.own t.0 t.1).key, refl));
  }

  pub row_of_part : RowOf gap S x
  row_of_part = record {
    run = run_of_part;
    ascending = p.makes.ascending;
    receivers = λ r. (
      λ h. let t = (p.makes.receivers r).0 h in (t.0, p.within t.0 t.1, p.makes.own t.0 t.1, t.2),
      λ t. (p.makes.receivers r).1 (t.0, inside t.0 t.1 t.2, t.3),
    );
    member = p.within x.greatest p.makes.member;
    greatest = λ s h i. p.makes.greatest s (inside s h i);
  }

module _ (gap : ℕ) (S : List Received) (k : Key) (a b : ℕ) (r : Run gap S k a b) where
  -- from a moment up to m, some steps lead past m
  walk : (m : ℕ) → m < b → (fuel p : ℕ) → HeardAt S k p → a ≤ p → p ≤ m → m ≤ p + fuel
      → (n : ℕ) × (m < n) × (n ≤ m + gap) × HeardAt S k n
  walk m l zero p h ap pm f =
      let t = r.linked p h ap (omega arith) in (t.0, omega (arith, t.1), omega (arith, t.2), t.3)
  walk m l (suc fuel) p h ap pm f =
      let t = r.linked p h ap (omega arith) in
      elim (cases_lt m t.0) [
        | inl c ↦ (t.0, c, omega (arith, t.2), t.3)
        | inr c ↦ walk m l fuel t.0 t.3 (omega (arith, t.1)) c (omega (arith, t.1))
      ]

  -- from each moment of a run, also between its receptions, the next is near
  pub dense : (m : ℕ) → a ≤ m → m < b → (n : ℕ) × (m < n) × (n ≤ m + gap) × HeardAt S k n
  dense m l u = walk m u (m - a) a r.at_first (omega arith) l (omega arith)

module _ (gap : ℕ) (S : List Received) (k : Key) (a b c d m : ℕ) (r : Run gap S k a b)
    (q : Run gap S k c d) (am : a ≤ m) (mb : m ≤ b) (cm : c ≤ m) (md : m ≤ d) where
  pub not_before : c < a → ⊥
  not_before l = elim (cases_lt (c + gap) a) [
    | inl f ↦ let t =
        dense gap S k c d q (a - (gap + 1)) (omega arith) (omega arith) in
        r.none_before t.0 (omega (arith, t.2)) (omega (arith, t.1)) t.3
    | inr f ↦ r.none_before c l f q.at_first
  ]

  pub not_beyond : b < d → ⊥
  not_beyond l = let t = q.linked b r.at_last (omega arith) l in r.none_after t.0 t.1 t.2 t.3

-- runs of one key that share a moment are one
pub runs_same : (gap : ℕ) (S : List Received) (k : Key) (a b c d m : ℕ) → Run gap S k a b
    → Run gap S k c d → a ≤ m → m ≤ b → c ≤ m → m ≤ d → (a ≡ c) × (b ≡ d)
runs_same gap S k a b c d m r q am mb cm md =
    let f = not_before gap S k a b c d m r q am mb cm md in
    let g = not_before gap S k c d a b m q r cm md am mb in
    let f' = not_beyond gap S k a b c d m r q am mb cm md in
    let g' = not_beyond gap S k c d a b m q r cm md am mb in
    (omega (arith, f, g), omega (arith, f', g'))

-- rows are equal where their fields are
pub same_row : (x y : Row) → x.first ≡ y.first → x.receivers ≡ y.receivers → x.greatest ≡ y.greatest
    → x ≡ y
same_row x y f r g = λ i. record { first = f i; receivers = r i; greatest = g i }

-- rows of one set that share a reception are one
pub rows_same : (gap : ℕ) (S : List Received) (x y : Row) (s : Received) → RowOf gap S x
    → RowOf gap S y
    → IsOf x s → IsOf y s → x ≡ y
rows_same gap S x y s p q i j = same_row x y ends.0 receivers greatest where
  ek : row_key x ≡ row_key y
  ek = sym i.key ∙ j.key

  ends : (x.first ≡ y.first) × (last_moment x ≡ last_moment y)
  ends =
      runs_same gap S (row_key x) x.first (last_moment x) y.first (last_moment y) s.moment p.run
      (subst (λ (k : Key). Run gap S k y.first (last_moment y))
      (sym ek) q.run) i.from i.to j.from j.to

  to : (t : Received) → IsOf x t → IsOf y t
  to t h =
      record {
        key = h.key
            ∙ ek;
        from = omega (arith, ends, h.from);
        to = omega (arith, ends, h.to);
      }

  back : (t : Received) → IsOf y t → IsOf x t
  back t h =
      record {
        key = h.key
            ∙ sym ek;
        from = omega (arith, ends, h.from);
        to = omega (arith, ends, h.to);
      }

  receivers : x.receivers ≡ y.receivers
  receivers =
      ordered_same (IsBelow bytes_cmp)
      (λ a b. not_both bytes_total a b) x.receivers y.receivers p.ascending q.ascending
      (λ r h. let t = (p.receivers r).0 h in (q.receivers r).1 (t.0, t.1, to t.0 t.2, t.3))
      (λ r h. let t = (q.receivers r).0 h in (p.receivers r).1 (t.0, t.1, back t.0 t.2, t.3))

  greatest : x.greatest ≡ y.greatest
  greatest =
      same_greatest heard_total heard_exact x.greatest y.greatest
      (q.greatest x.greatest p.member (to x.greatest (own_of gap S x p)))
      (p.greatest y.greatest q.member (back y.greatest (own_of gap S y q)))

pub below : (gap : ℕ) (x y : Row) → x.first ≤ last_moment x → IsBefore gap x y → IsBelow row_cmp x y
below gap x y l (inl h) = ap (λ (o : Ordering). ordering_then o (nat_cmp x.first y.first)) h
below gap x y l (inr h) =
    let e : key_cmp (row_key x) (row_key y) ≡ Equal =
    subst (λ (k : Key). key_cmp (row_key x) k ≡ Equal) h.0
    (tied_itself key_total (row_key x)) in
    let n : nat_cmp x.first y.first ≡ Less = grind (arith, nat_tests, h.1) in
    ap (λ (o : Ordering). ordering_then o (nat_cmp x.first y.first)) e ∙ n

pub book_of_keeps : (gap : ℕ) (S : List Received) (rows : List Row) → Keeps gap S rows
    → BookOf gap S rows
book_of_keeps gap S rows k = record {
  ascending =
      ordered_weaker (IsBefore gap) (IsBelow row_cmp) rows
      (λ x y hx hy b. let p = part x hx in below gap x y (span gap p.X x p.makes) b) k.ordered;
  exactly = λ x. (λ h. row_of_part gap S x (part x h), λ r. back x r);
} where
  part : (x : Row) → x ∈ rows → IsPart gap S x
  part x h = part_of gap S rows k.made k.ordered x h

  back : (x : Row) → RowOf gap S x → x ∈ rows
  back x r =
      let f = r.run.at_first in
      let t = row_of gap S rows k.made f.0 f.1 in
      let i : IsOf x f.0 =
      record {
        key = f.2;
        from = omega (arith, f.3);
        to = omega
            (arith, f.3, r.run.in_order);
      } in
      subst (λ (z : Row). z ∈ rows)
      (rows_same gap S t.0 x f.0 (row_of_part gap S t.0 (part t.0 t.1)) r t.2 i) t.1

-- the same members, the same rows
pub row_carries : (gap : ℕ) (S T : List Received) → SameMembers S T → (x : Row) → RowOf gap S x
    → RowOf gap T x
row_carries gap S T e x r = record {
  run = record {
    in_order = r.run.in_order;
    at_first = to x.first r.run.at_first;
    at_last = to (last_moment x) r.run.at_last;
    none_before = λ m a b h. r.run.none_before m a b (back m h);
    none_after = λ m a b h. r.run.none_after m a b (back m h);
    linked = λ m h a b. let t = r.run.linked m (back m h) a b in (t.0, t.1, t.2, to t.0 t.3);
  };
  ascending = r.ascending;
  receivers = λ q. (
    λ h. let t = (r.receivers q).0 h in (t.0, (e t.0).0 t.1, t.2, t.3),
    λ t. (r.receivers q).1 (t.0, (e t.0).1 t.1, t.2, t.3),
  );
  member = (e x.greatest).0 r.member;
  greatest = λ s h i. r.greatest s ((e s).1 h) i;
} where
  to : (m : ℕ) → HeardAt S (row_key x) m → HeardAt T (row_key x) m
  to m h = (h.0, (e h.0).0 h.1, h.2, h.3)

  back : (m : ℕ) → HeardAt T (row_key x) m → HeardAt S (row_key x) m
  back m h = (h.0, (e h.0).1 h.1, h.2, h.3)

pub turn : (S T : List Received) → SameMembers S T → SameMembers T S
turn S T e s = ((e s).1, (e s).0)

pub book_carries : (gap : ℕ) (S T : List Received) (p : List Row) → SameMembers S T → BookOf gap S p
    → BookOf gap T p
book_carries gap S T p e b = record {
  ascending = b.ascending;
  exactly =
      λ x. (
        λ h. row_carries gap S T e x ((b.exactly x).0 h),
        λ r. (b.exactly x).1
            (row_carries gap T S (turn S T e) x r),
      );
}

pub row_total : IsTotalOrder row_cmp
row_total =
    then_total (on_total (λ (x : Row). (row_key x)) key_total)
    (on_total (λ (x : Row). x.first) nat_cmp_total)

pub one_book : (gap : ℕ) (S : List Received) (p q : List Row) → BookOf gap S p
    → BookOf gap S q → p ≡ q
one_book gap S p q b c =
    ordered_same (IsBelow row_cmp) (λ x y. not_both row_total x y) p q b.ascending c.ascending
    (λ x h. (c.exactly x).1 ((b.exactly x).0 h))
    (λ x h. (b.exactly x).1 ((c.exactly x).0 h))

pub unique : (gap : ℕ) (S T : List Received) (p q : List Row) → SameMembers S T → BookOf gap S p
    → BookOf gap T q → p ≡ q
unique gap S T p q e b c = one_book gap T p q (book_carries gap S T p e b) c

pub keeps_of_book : (gap : ℕ) (S : List Received) (p : List Row) → BookOf gap S p → Keeps gap S p
keeps_of_book gap S p b =
    subst (λ (q : List Row). Keeps gap S q)
    (one_book gap S (plain_book gap S) p
    (book_of_keeps gap S (plain_book gap S) (keeps_book gap S)) b) (keeps_book gap S)
