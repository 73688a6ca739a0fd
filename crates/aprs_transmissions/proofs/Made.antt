-- Rows that are made of sets, one each: what a row that joins them makes.
use Rattle.aprs_transmissions.proofs.Common.{◌≡◌, ℕ, ◌+◌, ◌<◌, ◌≤◌, List, [], ◌∷◌, ◌++◌, ◌⊎◌, ◌↔◌, inl, inr, sym, refl, ap, ◌∙◌, subst, arith, tied_itself, is_gt, Less, Received, heard_cmp}
use Rattle.aprs_transmissions.specs.Lists.{◌∈◌, Ordered}
use Rattle.aprs_transmissions.specs.Order.{IsUpTo}
use Rattle.aprs_transmissions.specs.Key.{Key, key_of, key_cmp}
use Rattle.aprs_transmissions.specs.Row.{Row, row_key, last_moment, IsOf}
use Rattle.aprs_transmissions.specs.JoinRow.{single, combine, compare_near, join_row, merge, plain_book}
use Rattle.aprs_transmissions.proofs.Lists.{in_left, in_right, in_either}
use Rattle.aprs_transmissions.proofs.Orders.{not_both, key_total, heard_total}
use Rattle.aprs_transmissions.proofs.Choices.{by_choice}
use Rattle.aprs_transmissions.proofs.Rows.{Makes, IsBefore, combined, combines, place_means, before_combined, before_trans}

-- S has the members of X and of Y, and no others
abbrev pub IsUnion : List Received → List Received → List Received → Type 0
IsUnion S X Y = (s : Received) → (s ∈ S) ↔ ((s ∈ X) ⊎ (s ∈ Y))

-- S is a union of sets, one for each row
abbrev pub Made : ℕ → List Received → List Row → Type 0
Made gap S [] = (s : Received) → s ∈ S → ⊥
Made gap S (x ∷ xs) = (X T : List Received) × IsUnion S X T × Makes gap X x × Made gap T xs

pub appended : (X Y : List Received) → IsUnion (X ++ Y) X Y
appended X Y s =
    (in_either s X Y, λ h. elim h [ inl k ↦ in_left s X Y k | inr k ↦ in_right s X Y k ])

pub swapped : (S X Y : List Received) → IsUnion S X Y → IsUnion S Y X
swapped S X Y u s = (
  λ h. elim
      ((u s).0 h) [ inl k ↦ inr k | inr k ↦ inl k ],
  λ h. elim h [
    | inl k ↦ (u s).1
        (inr k)
    | inr k ↦ (u s).1 (inl k)
  ],
)

-- (X + Y) + T as X + (Y + T)
pub moved : (U S X Y T : List Received) → IsUnion U S T → IsUnion S X Y → IsUnion U X (Y ++ T)
moved U S X Y T u v s = (
  λ h. elim ((u s).0 h) [
    | inl k ↦ elim ((v s).0 k) [ inl j ↦ inl j | inr j ↦ inr (in_left s Y T j) ]
    | inr k ↦ inr (in_right s Y T k)
  ],
  λ h. elim h [
    | inl k ↦ (u s).1 (inl ((v s).1 (inl k)))
    | inr k ↦ elim
        (in_either s Y T k) [ inl j ↦ (u s).1 (inl ((v s).1 (inr j))) | inr j ↦ (u s).1 (inr j) ]
  ],
)

-- (X + Y) + T as Y + (X + T)
pub turned : (U S X Y T : List Received) → IsUnion U S T → IsUnion S X Y → IsUnion U Y (X ++ T)
turned U S X Y T u v = moved U S Y X T u (swapped S X Y v)

pub made_join : (gap : ℕ) (U S T : List Received) (rows : List Row) (r : Row) → IsUnion U S T
    → Made gap S rows → Makes gap T r → Made gap U (join_row gap rows r)
made_join gap U S T [] r u m t = (
  T,
  [],
  (λ s. (
    λ h. elim
        ((u s).0 h) [ inl k ↦ absurd (m s k) | inr k ↦ inl k ],
    λ h. elim h [
      | inl k ↦ (u s).1
          (inr k)
      | inr k ↦ absurd k
    ],
  )),
  t,
  λ s h. h,
)
made_join gap U S T (x ∷ xs) r u m t =
    by_choice (λ (rows : List Row). Made gap U rows) _ _ _ _ _ _ (compare_near gap x r)
    (place_means gap x r)
    (λ _. (
      m.0,
      m.1 ++ T,
      moved U S m.0 m.1 T u m.2,
      m.3,
      made_join gap (m.1 ++ T) m.1 T xs r
          (appended m.1 T) m.4 t,
    ))
    (λ n. made_join gap U m.1 (m.0 ++ T) xs (combine x r) (turned U S m.0 m.1 T u m.2) m.4
    (combined gap m.0 T x r (combine x r) m.3 t n (combines gap m.0 T x r n.key m.3 t)))
    (λ _. (T, S, swapped U S T u, t, m))

-- what is before all rows and before r is before all joined rows
pub before_join : (gap : ℕ) (S T : List Received) (w : Row) (rows : List Row) (r : Row)
    → Made gap S rows → Makes gap T r → ((y : Row) → y ∈ rows → IsBefore gap w y) → IsBefore gap w r
    → (y : Row) → y ∈ join_row gap rows r → IsBefore gap w y
before_join gap S T w [] r m t f h =
    λ y i. elim i [ inl e ↦ subst (λ (z : Row). IsBefore gap w z) e h | inr k ↦ absurd k ]
before_join gap S T w (x ∷ xs) r m t f h =
    by_choice (λ (rows : List Row). (y : Row) → y ∈ rows → IsBefore gap w y) _ _ _ _ _ _
    (compare_near gap x r) (place_means gap x r)
    (λ _. λ y i. elim i [
      | inl e ↦ f y (inl e)
      | inr k ↦ before_join gap m.1 T w xs r m.4 t
          (λ z j. f z (inr j)) h y k
    ])
    (λ n. before_join gap m.1 (m.0 ++ T) w xs (combine x r) m.4
    (combined gap m.0 T x r (combine x r) m.3 t n (combines gap m.0 T x r n.key m.3 t))
    (λ z j. f z (inr j))
    (before_combined gap w x r (combine x r) n.key (combines gap m.0 T x r n.key m.3 t)
    (f x (inl refl)) h))
    (λ _. λ y i. elim i [ inl e ↦ subst (λ (z : Row). IsBefore gap w z) e h | inr k ↦ f y k ])

-- a row does not end before it begins
pub span : (gap : ℕ) (X : List Received) (x : Row) → Makes gap X x → x.first ≤ last_moment x
span gap X x m = let o = m.own x.greatest m.member in omega arith

pub join_ordered : (gap : ℕ) (S T : List Received) (rows : List Row) (r : Row) → Made gap S rows
    → Makes gap T r → Ordered (IsBefore gap) rows → Ordered (IsBefore gap) (join_row gap rows r)
join_ordered gap S T [] r m t o = (λ y h. absurd h, tt)
join_ordered gap S T (x ∷ xs) r m t o =
    by_choice (λ (rows : List Row). Ordered (IsBefore gap) rows) _ _ _ _ _ _ (compare_near gap x r)
    (place_means gap x r)
    (λ h. (before_join gap m.1 T x xs r m.4 t o.0 h, join_ordered gap m.1 T xs r m.4 t o.1))
    (λ n. join_ordered gap m.1 (m.0 ++ T) xs (combine x r) m.4
    (combined gap m.0 T x r (combine x r) m.3 t n (combines gap m.0 T x r n.key m.3 t)) o.1)
    (λ h. (
      λ y i. elim i [
        | inl e ↦ subst
            (λ (z : Row). IsBefore gap r z) e h
        | inr k ↦ before_trans gap r x y (span gap m.0 x m.3) h
            (o.0 y k)
      ],
      o,
    ))

-- what a row in `rows` is made of, and where all else of S lies
pub record IsPart (gap : ℕ) (S : List Received) (x : Row) : Type 0 where
  pub X : List Received
  pub makes : Makes gap X x
  pub within : (s : Received) → s ∈ X → s ∈ S
  pub others : (s : Received) → s ∈ S
      → (s ∈ X) ⊎
      (key_of s.frame ≡ row_key x → (s.moment + gap < x.first) ⊎ (last_moment x + gap < s.moment))

-- each member of S is of a row
pub row_of : (gap : ℕ) (S : List Received) (rows : List Row) → Made gap S rows
    → (s : Received) → s ∈ S
    → (x : Row) × (x ∈ rows) × IsOf x s
row_of gap S [] m s h = absurd (m s h)
row_of gap S (x ∷ xs) m s h = elim ((m.2 s).0 h) [
  | inl k ↦ (x, inl refl, m.3.own s k)
  | inr k ↦ let t = row_of gap m.1 xs m.4 s k in (t.0, inr t.1, t.2)
]

-- what is of a row before x is away from x
pub away_before : (gap : ℕ) (x y : Row) (s : Received) → IsBefore gap y x → IsOf y s
    → key_of s.frame ≡ row_key x → (s.moment + gap < x.first) ⊎ (last_moment x + gap < s.moment)
away_before gap x y s (inl h) i e =
    let r =
    subst (λ (k : Key). key_cmp k (row_key x) ≡ Less) (sym i.key ∙ e) h in
    absurd (not_both key_total (row_key x) (row_key x) r r)
away_before gap x y s (inr h) i e = inl (omega (arith, i.to))

pub away_after : (gap : ℕ) (x y : Row) (s : Received) → IsBefore gap x y → IsOf y s
    → key_of s.frame ≡ row_key x → (s.moment + gap < x.first) ⊎ (last_moment x + gap < s.moment)
away_after gap x y s (inl h) i e =
    let r =
    subst (λ (k : Key). key_cmp (row_key x) k ≡ Less) (sym i.key ∙ e) h in
    absurd (not_both key_total (row_key x) (row_key x) r r)
away_after gap x y s (inr h) i e = inr (omega (arith, i.from))

pub part_of : (gap : ℕ) (S : List Received) (rows : List Row) → Made gap S rows
    → Ordered (IsBefore gap) rows → (x : Row) → x ∈ rows → IsPart gap S x
part_of gap S [] m o x h = absurd h
part_of gap S (y ∷ ys) m o x (inl e) = subst (λ (z : Row). IsPart gap S z) e (record {
  X = m.0;
  makes = m.3;
  within = λ s k. (m.2 s).1 (inl k);
  others = λ s k. elim ((m.2 s).0 k) [
    | inl j ↦ inl j
    | inr j ↦ let t = row_of gap m.1 ys m.4 s j in inr (away_after gap y t.0 s (o.0 t.0 t.1) t.2)
  ];
})
part_of gap S (y ∷ ys) m o x (inr h) = let p = part_of gap m.1 ys m.4 o.1 x h in record {
  X = p.X;
  makes = p.makes;
  within = λ s k. (m.2 s).1 (inr (p.within s k));
  others = λ s k. elim ((m.2 s).0 k) [
    | inl j ↦ inr (away_before gap x y s (o.0 x h) (m.3.own s j))
    | inr j ↦ p.others s j
  ];
}

-- rows with what they are made of, in order
pub record Keeps (gap : ℕ) (S : List Received) (rows : List Row) : Type 0 where
  pub made : Made gap S rows
  pub ordered : Ordered (IsBefore gap) rows

pub keeps_join : (gap : ℕ) (U S T : List Received) (rows : List Row) (r : Row) → IsUnion U S T
    → Keeps gap S rows → Makes gap T r → Keeps gap U (join_row gap rows r)
keeps_join gap U S T rows r u k t = record {
  made = made_join gap U S T rows r u k.made t;
  ordered = join_ordered gap S T rows r k.made t k.ordered;
}

pub keeps_merge : (gap : ℕ) (U S T : List Received) (p q : List Row) → IsUnion U S T → Keeps gap S p
    → Made gap T q → Keeps gap U (merge gap p q)
keeps_merge gap U S T p [] u k m = record { made = same_made p k.made; ordered = k.ordered } where
  to : (s : Received) → s ∈ U → s ∈ S
  to s h = elim ((u s).0 h) [ inl j ↦ j | inr j ↦ absurd (m s j) ]

  from : (s : Received) → s ∈ S → s ∈ U
  from s h = (u s).1 (inl h)

  same_made : (p : List Row) → Made gap S p → Made gap U p
  same_made [] n = λ s h. n s (to s h)
  same_made (x ∷ xs) n =
      (n.0, n.1, (λ s. (λ h. (n.2 s).0 (to s h), λ h. from s ((n.2 s).1 h))), n.3, n.4)
keeps_merge gap U S T p (r ∷ rs) u k m =
    keeps_merge gap U (S ++ m.0) m.1 (join_row gap p r) rs (joined u m.2)
    (keeps_join gap (S ++ m.0) S m.0 p r (appended S m.0) k m.3) m.4 where
      joined : IsUnion U S T → IsUnion T m.0 m.1 → IsUnion U (S ++ m.0) m.1
      joined u v s = (
        λ h. elim ((u s).0 h) [
          | inl k ↦ inl (in_left s S m.0 k)
          | inr k ↦ elim ((v s).0 k) [ inl j ↦ inl (in_right s S m.0 j) | inr j ↦ inr j ]
        ],
        λ h. elim h [
          | inl k ↦ elim
              (in_either s S m.0 k) [
                | inl j ↦ (u s).1 (inl j)
                | inr j ↦ (u s).1
                    (inr ((v s).1 (inl j)))
              ]
          | inr k ↦ (u s).1 (inr ((v s).1 (inr k)))
        ],
      )

pub makes_single : (gap : ℕ) (s : Received) → Makes gap (s ∷ []) (single s)
makes_single gap s = record {
  own =
      λ t h. elim h [
        | inl e ↦ subst (λ (t : Received). IsOf (single s) t) e
            (record { key = refl; from = omega arith; to = omega arith })
        | inr k ↦ absurd k
      ];
  at_first = (s, inl refl, refl);
  linked = λ m a b. absurd (omega arith);
  ascending = (λ y h. absurd h, tt);
  receivers =
      λ r. (
        λ h. elim h [ inl e ↦ (s, inl refl, e) | inr k ↦ absurd k ],
        λ t. elim t.1 [
          | inl e ↦ inl
              (ap (λ (u : Received). u.receiver) e ∙ t.2)
          | inr k ↦ absurd k
        ],
      );
  member = inl refl;
  greatest =
      λ t h. elim h [
        | inl e ↦ subst (λ (t : Received). IsUpTo heard_cmp t s) e
            (ap is_gt (tied_itself heard_total s))
        | inr k ↦ absurd k
      ];
}

-- the plain book of S keeps S
pub keeps_book : (gap : ℕ) (S : List Received) → Keeps gap S (plain_book gap S)
keeps_book gap [] = record { made = λ s h. h; ordered = tt }
keeps_book gap (s ∷ S) = keeps_join gap (s ∷ S) S (s ∷ []) (plain_book gap S) (single s)
    (λ t. (
      λ h. elim h [
        | inl e ↦ inr
            (inl e)
        | inr k ↦ inl k
      ],
      λ h. elim h [ inl k ↦ inr k | inr k ↦ elim k [ inl e ↦ inl e | inr j ↦ absurd j ] ],
    ))
    (keeps_book gap S) (makes_single gap s)
