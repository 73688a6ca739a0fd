-- A row of its own members, and what two near rows make.
use Rattle.aprs_transmissions.proofs.Common.{◌≡◌, ℕ, ◌+◌, ◌<◌, ◌≤◌, min, max, List, ◌++◌, ◌⊎◌, ◌↔◌, inl, inr, sym, refl, ap, ◌∙◌, subst, arith, Bool, true, false, if◌then◌else◌, nat_lt, cases_lt, nat_tests, upto, tied_back, ordering_then, ordering_reverse, is_gt, MatchOrdering, Ordering, Less, Equal, Greater, Received, bytes_cmp, heard_cmp}
use Rattle.aprs_transmissions.specs.Lists.{◌∈◌, Ordered}
use Rattle.aprs_transmissions.specs.Order.{IsBelow, IsUpTo}
use Rattle.aprs_transmissions.specs.Key.{Key, key_of, key_cmp}
use Rattle.aprs_transmissions.specs.Row.{Row, row_key, last_moment, IsOf}
use Rattle.aprs_transmissions.specs.JoinRow.{choose, greater, IsNear, combine, by_moments, compare_near}
use Rattle.aprs_transmissions.proofs.Lists.{in_left, in_right, in_either}
use Rattle.aprs_transmissions.proofs.Orders.{compared, key_total, key_exact, bytes_total, bytes_exact, heard_total, moment_up_to}
use Rattle.aprs_transmissions.proofs.Choices.{in_union, union_ordered}

-- X is one transmission, and x its row
pub record Makes (gap : ℕ) (X : List Received) (x : Row) : Type 0 where
  pub own : (s : Received) → s ∈ X → IsOf x s
  pub at_first : (s : Received) × (s ∈ X) × (s.moment ≡ x.first)
  pub linked : (m : ℕ) → x.first ≤ m → m < last_moment x
      → (s : Received) × (s ∈ X) × (m < s.moment) × (s.moment ≤ m + gap)
  pub ascending : Ordered (IsBelow bytes_cmp) x.receivers
  pub receivers : (r : List ℕ) → (r ∈ x.receivers) ↔ ((s : Received) × (s ∈ X) × (s.receiver ≡ r))
  pub member : x.greatest ∈ X
  pub greatest : (s : Received) → s ∈ X → IsUpTo heard_cmp s x.greatest

-- y comes after x, and too late to join it
abbrev pub IsBefore : ℕ → Row → Row → Type 0
IsBefore gap x y =
    (key_cmp (row_key x) (row_key y) ≡ Less)
    ⊎ ((row_key x ≡ row_key y) × (last_moment x + gap < y.first))

-- z is what x and y make
pub record IsCombined (x y z : Row) : Type 0 where
  pub key : row_key z ≡ row_key x
  pub first : z.first ≡ min x.first y.first
  pub last : last_moment z ≡ max (last_moment x) (last_moment y)
  pub ascending : Ordered (IsBelow bytes_cmp) z.receivers
  pub receivers : (r : List ℕ) → (r ∈ z.receivers) ↔ ((r ∈ x.receivers) ⊎ (r ∈ y.receivers))
  pub greatest : ((z.greatest ≡ x.greatest) × IsUpTo heard_cmp y.greatest x.greatest) ⊎
      ((z.greatest ≡ y.greatest) × IsUpTo heard_cmp x.greatest y.greatest)

module _ (gap : ℕ) (X Y : List Received) (x y z : Row) (mx : Makes gap X x) (my : Makes gap Y y)
    (n : IsNear gap x y) (c : IsCombined x y z) where
  combined_own : (s : Received) → (s ∈ X) ⊎ (s ∈ Y) → IsOf z s
  combined_own s (inl h) =
      let i = mx.own s h in record { key = i.key ∙ sym c.key; from = omega arith; to = omega arith }
  combined_own s (inr h) =
      let i =
      my.own s h in
      record { key = i.key ∙ (sym n.key ∙ sym c.key); from = omega arith; to = omega arith }

  combined_first : (s : Received) × (s ∈ (X ++ Y)) × (s.moment ≡ z.first)
  combined_first = elim (cases_lt y.first x.first) [
    | inl l ↦ let f = my.at_first in (f.0, in_right f.0 X Y f.1, omega (arith, f.2))
    | inr l ↦ let f = mx.at_first in (f.0, in_left f.0 X Y f.1, omega (arith, f.2))
  ]

  from_x : (m : ℕ) → (s : Received) × (s ∈ X) × (m < s.moment) × (s.moment ≤ m + gap)
      → (s : Received) × (s ∈ (X ++ Y)) × (m < s.moment) × (s.moment ≤ m + gap)
  from_x m t = (t.0, in_left t.0 X Y t.1, t.2, t.3)

  from_y : (m : ℕ) → (s : Received) × (s ∈ Y) × (m < s.moment) × (s.moment ≤ m + gap)
      → (s : Received) × (s ∈ (X ++ Y)) × (m < s.moment) × (s.moment ≤ m + gap)
  from_y m t = (t.0, in_right t.0 X Y t.1, t.2, t.3)

  combined_linked : (m : ℕ) → z.first ≤ m → m < last_moment z
      → (s : Received) × (s ∈ (X ++ Y)) × (m < s.moment) × (s.moment ≤ m + gap)
  combined_linked m f l = elim (cases_lt m x.first) [
    | inl a ↦ elim (cases_lt m (last_moment y)) [
      | inl b ↦ from_y m (my.linked m (omega arith) b)
      | inr b ↦ let t = mx.at_first in from_x m (t.0, t.1, omega (arith, t.2), omega (arith, t.2))
    ]
    | inr a ↦ elim (cases_lt m (last_moment x)) [
      | inl b ↦ from_x m (mx.linked m a b)
      | inr b ↦ elim (cases_lt m y.first) [
        | inl d ↦ let t = my.at_first in from_y m (t.0, t.1, omega (arith, t.2), omega (arith, t.2))
        | inr d ↦ from_y m (my.linked m d (omega arith))
      ]
    ]
  ]

  combined_receivers : (r : List ℕ)
      → (r ∈ z.receivers) ↔ ((s : Received) × (s ∈ (X ++ Y)) × (s.receiver ≡ r))
  combined_receivers r = (
    λ h. elim ((c.receivers r).0 h) [
      | inl k ↦ let t = (mx.receivers r).0 k in (t.0, in_left t.0 X Y t.1, t.2)
      | inr k ↦ let t = (my.receivers r).0 k in (t.0, in_right t.0 X Y t.1, t.2)
    ],
    λ t. elim (in_either t.0 X Y t.1) [
      | inl k ↦ (c.receivers r).1 (inl ((mx.receivers r).1 (t.0, k, t.2)))
      | inr k ↦ (c.receivers r).1 (inr ((my.receivers r).1 (t.0, k, t.2)))
    ],
  )

  combined_greatest : (s : Received) → (s ∈ X) ⊎ (s ∈ Y) → IsUpTo heard_cmp s z.greatest
  combined_greatest s h = elim c.greatest [
    | inl g ↦ rw g.0
        (elim h [
          | inl k ↦ mx.greatest s k
          | inr k ↦ upto heard_total s y.greatest x.greatest
              (my.greatest s k) g.1
        ])
    | inr g ↦ rw g.0
        (elim h [
          | inl k ↦ upto heard_total s x.greatest y.greatest
              (mx.greatest s k) g.1
          | inr k ↦ my.greatest s k
        ])
  ]

  combined_member : z.greatest ∈ (X ++ Y)
  combined_member = elim c.greatest [
    | inl g ↦ rw g.0 (in_left x.greatest X Y mx.member)
    | inr g ↦ rw g.0 (in_right y.greatest X Y my.member)
  ]

  -- two transmissions that are near are one
  pub combined : Makes gap (X ++ Y) z
  combined = record {
    own = λ s h. combined_own s (in_either s X Y h);
    at_first = combined_first;
    linked = combined_linked;
    ascending = c.ascending;
    receivers = combined_receivers;
    member = combined_member;
    greatest = λ s h. combined_greatest s (in_either s X Y h);
  }

-- the greater of two receptions, and that it is
pub the_greater : (a b : Received)
    → ((greater a b ≡ a) × IsUpTo heard_cmp b a) ⊎ ((greater a b ≡ b) × IsUpTo heard_cmp a b)
the_greater a b = by_case (heard_cmp a b) refl where
  by_case : (o : Ordering) → heard_cmp a b ≡ o
      → ((choose o b a a ≡ a) × IsUpTo heard_cmp b a) ⊎
      ((choose o b a a ≡ b) × IsUpTo heard_cmp a b)
  by_case Less h = inr (refl, ap is_gt h)
  by_case Equal h = inl (refl, ap is_gt (tied_back heard_total a b h))
  by_case Greater h = inl (refl, ap is_gt (heard_total.antisymm b a ∙ ap ordering_reverse h))

-- of two rows of one key
pub combined_key : (x y : Row) → row_key x ≡ row_key y → row_key (combine x y) ≡ row_key x
combined_key x y e = elim (the_greater x.greatest y.greatest) [
  | inl g ↦ ap (λ (s : Received). key_of s.frame) g.0
  | inr g ↦ ap (λ (s : Received). key_of s.frame) g.0 ∙ sym e
]

pub combined_last : (x y : Row) → last_moment (combine x y) ≡ max (last_moment x) (last_moment y)
combined_last x y = elim (the_greater x.greatest y.greatest) [
  | inl g ↦ ap (λ (s : Received). s.moment) g.0 ∙ above (moment_up_to y.greatest x.greatest g.1)
  | inr g ↦ ap (λ (s : Received). s.moment) g.0 ∙ below (moment_up_to x.greatest y.greatest g.1)
] where
  above : last_moment y ≤ last_moment x → last_moment x ≡ max (last_moment x) (last_moment y)
  above l = omega arith

  below : last_moment x ≤ last_moment y → last_moment y ≡ max (last_moment x) (last_moment y)
  below l = omega arith

pub combines : (gap : ℕ) (X Y : List Received) (x y : Row) → row_key x ≡ row_key y → Makes gap X x
    → Makes gap Y y → IsCombined x y (combine x y)
combines gap X Y x y e mx my = record {
  key = combined_key x y e;
  first = refl;
  last = combined_last x y;
  ascending = union_ordered bytes_total bytes_exact x.receivers y.receivers my.ascending;
  receivers = λ r. in_union bytes_total bytes_exact x.receivers y.receivers r;
  greatest = the_greater x.greatest y.greatest;
}

pub place_means : (gap : ℕ) (x y : Row)
    → MatchOrdering (compare_near gap x y) (IsBefore gap x y) (IsNear gap x y) (IsBefore gap y x)
place_means gap x y =
    by_key (key_cmp (row_key x) (row_key y))
    (compared key_total key_exact (row_key x) (row_key y)) where
      by_moment : (e : row_key x ≡ row_key y) (p q : Bool)
          → nat_lt (last_moment x + gap) y.first ≡ p
          → nat_lt (last_moment y + gap) x.first ≡ q
          → MatchOrdering (if p then Less else if q then Greater else Equal) (IsBefore gap x y)
          (IsNear gap x y) (IsBefore gap y x)
      by_moment e true q h k = inr (e, grind (arith, nat_tests))
      by_moment e false true h k = inr (sym e, grind (arith, nat_tests))
      by_moment e false false h k =
          record { key = e; after = grind (arith, nat_tests); before = grind (arith, nat_tests) }

      by_key : (o : Ordering)
          → MatchOrdering o (key_cmp (row_key x) (row_key y) ≡ Less) (row_key x ≡ row_key y)
          (key_cmp (row_key y) (row_key x) ≡ Less)
          → MatchOrdering (ordering_then o (by_moments gap x y)) (IsBefore gap x y) (IsNear gap x y)
          (IsBefore gap y x)
      by_key Less h = inl h
      by_key Equal h =
          by_moment h (nat_lt (last_moment x + gap) y.first)
          (nat_lt (last_moment y + gap) x.first) refl refl
      by_key Greater h = inl h

-- what is before x is before what x and y make, if it is before both
pub before_combined : (gap : ℕ) (w x y z : Row) → row_key x ≡ row_key y → IsCombined x y z
    → IsBefore gap w x → IsBefore gap w y → IsBefore gap w z
before_combined gap w x y z e c (inl h) k =
    inl (subst (λ (q : Key). key_cmp (row_key w) q ≡ Less) (sym c.key) h)
before_combined gap w x y z e c (inr h) (inl k) =
    inl (subst (λ (q : Key). key_cmp (row_key w) q ≡ Less) (sym e ∙ sym c.key) k)
before_combined gap w x y z e c (inr h) (inr k) = inr (h.0 ∙ sym c.key, omega arith)

pub before_trans : (gap : ℕ) (x y z : Row) → y.first ≤ last_moment y → IsBefore gap x y
    → IsBefore gap y z → IsBefore gap x z
before_trans gap x y z l (inl h) (inl k) =
    inl (key_total.trans (row_key x) (row_key y) (row_key z) h k)
before_trans gap x y z l (inl h) (inr k) =
    inl (subst (λ (q : Key). key_cmp (row_key x) q ≡ Less) k.0 h)
before_trans gap x y z l (inr h) (inl k) =
    inl (subst (λ (q : Key). key_cmp q (row_key z) ≡ Less) (sym h.0) k)
before_trans gap x y z l (inr h) (inr k) = inr (h.0 ∙ k.0, omega arith)
