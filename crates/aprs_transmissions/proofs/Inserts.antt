-- For sound rows, what code makes of one more reception is the joined step.
use Rattle.aprs_transmissions.proofs.Common.{◌≡◌, ℕ, ◌<◌, ◌≤◌, min, Bool, true, false, ◌&&◌, not, List, [], ◌∷◌, ◌++◌, inl, inr, refl, sym, ap, ◌∙◌, subst, arith, MatchOrdering, Ordering, Less, Equal, Greater, Received, bytes_cmp}
use Rattle.aprs_transmissions.specs.Lists.{◌∈◌, Ordered}
use Rattle.aprs_transmissions.specs.Order.{IsBelow}
use Rattle.aprs_transmissions.specs.Row.{Row, last_moment}
use Rattle.aprs_transmissions.specs.Book.{BookOf}
use Rattle.aprs_transmissions.specs.Sound.{IsSoundRow, Sound}
use Rattle.aprs_transmissions.specs.Witnesses.{witnesses}
use Rattle.aprs_transmissions.specs.JoinRow.{choose, greater, single, IsNear, combine, compare_near, join_row}
use Rattle.aprs_transmissions.specs.Inserted.{grow_row, bridge_row, insert_heard, FitsInPlace, is_listed, is_near_first, has_place_for}
use Rattle.aprs_transmissions.proofs.Orders.{bytes_total, bytes_exact, heard_total, heard_exact, same_greatest, compared, not_both}
use Rattle.aprs_transmissions.proofs.Choices.{union_one, union_flip, union_ordered}
use Rattle.aprs_transmissions.proofs.Rows.{IsBefore, the_greater, place_means, before_trans, combined_last}
use Rattle.aprs_transmissions.proofs.Books.{same_row}
use Rattle.aprs_transmissions.proofs.Soundness.{sound, witnessed}
use Rattle.aprs_transmissions.proofs.Parts.{near_combined, combined_before, join_first, join_near}
use Rattle.aprs_transmissions.proofs.Pushes.{IsSound, one_relation}
use Rattle.aprs_transmissions.proofs.NearRows.{far_of_before, not_three}
use Rattle.aprs_transmissions.proofs.TakenSteps.{taken_last}

-- a row grown is a row combined with that of the reception
pub grown_is_combined : (r : Row) (s : Received) → Ordered (IsBelow bytes_cmp) r.receivers
    → grow_row r s ≡ combine r (single s)
grown_is_combined r s p =
    same_row (grow_row r s) (combine r (single s)) refl
    (sym (union_one bytes_total bytes_exact r.receivers s.receiver p)) refl

pub greater_flip : (a b : Received) → greater a b ≡ greater b a
greater_flip a b = elim (the_greater a b) [
  | inl p ↦ elim (the_greater b a) [
    | inl q ↦ p.0 ∙ same_greatest heard_total heard_exact a b q.1 p.1 ∙ sym q.0
    | inr q ↦ p.0 ∙ sym q.0
  ]
  | inr p ↦ elim (the_greater b a) [
    | inl q ↦ p.0 ∙ sym q.0
    | inr q ↦ p.0 ∙ same_greatest heard_total heard_exact b a q.1 p.1 ∙ sym q.0
  ]
]

pub combine_flip : (x y : Row) → Ordered (IsBelow bytes_cmp) x.receivers
    → Ordered (IsBelow bytes_cmp) y.receivers → combine x y ≡ combine y x
combine_flip x y p q =
    same_row (combine x y) (combine y x) (flip x.first y.first)
    (union_flip bytes_total bytes_exact x.receivers y.receivers p q)
    (greater_flip x.greatest y.greatest) where
      flip : (a b : ℕ) → min a b ≡ min b a
      flip a b = omega arith

-- a row near to another does not lie before it
pub near_not_before : (gap : ℕ) (x y : Row) → IsNear gap x y → IsBefore gap x y → ⊥
near_not_before gap x y n b = let f = far_of_before gap x y n.key b in omega (arith, f, n.after)

pub near_not_after : (gap : ℕ) (x y : Row) → IsNear gap x y → IsBefore gap y x → ⊥
near_not_after gap x y n b =
    let f = far_of_before gap y x (sym n.key) b in omega (arith, f, n.before)

-- the third of three cases
third : (o : Ordering) (P Q R : Type 0) → MatchOrdering o P Q R → (P → ⊥) → (Q → ⊥) → R
third Less P Q R h f g = absurd (f h)
third Equal P Q R h f g = absurd (g h)
third Greater P Q R h f g = h

-- what follows a row that is near to s does not lie before s
pub not_before_s : (gap : ℕ) (s : Received) (r x : Row) → IsNear gap r (single s) → IsBefore gap r x
    → x.first ≤ last_moment x → IsBefore gap x (single s) → ⊥
not_before_s gap s r x n b l h =
    near_not_before gap r (single s) n (before_trans gap r x (single s) l b h)

-- what follows two rows that are near to s lies after s
pub after_two : (gap : ℕ) (s : Received) (r x y : Row) → IsNear gap r (single s)
    → IsNear gap x (single s) → x.first ≤ last_moment x → y.first ≤ last_moment y → IsBefore gap r x
    → IsBefore gap x y → IsBefore gap (single s) y
after_two gap s r x y n m lx ly b c =
    third (compare_near gap y (single s)) (IsBefore gap y (single s)) (IsNear gap y (single s))
    (IsBefore gap (single s) y) (place_means gap y (single s))
    (λ h. not_before_s gap s x y m c ly h)
    (λ h. not_three gap s r x y lx b c n m h)

-- a row near to s, grown by s, and the rows after it
bridged_is_joined : (gap : ℕ) (s : Received) (r : Row) (rows : List Row) → IsNear gap r (single s)
    → IsSoundRow r → ((x : Row) → x ∈ rows → IsSoundRow x) → Ordered (IsBefore gap) (r ∷ rows)
    → bridge_row gap s (combine r (single s)) rows ≡ join_row gap rows (combine r (single s))
bridged_is_joined gap s r [] n w v o = refl
bridged_is_joined gap s r (x ∷ xs) n w v o =
    by_case (compare_near gap x (single s)) (place_means gap x (single s)) where
      spans : (combine r (single s)).first ≤ last_moment (combine r (single s))
      spans = omega (arith, w.in_order, combined_last r (single s))

      each : (y : Row) → y ∈ (x ∷ xs) → y.first ≤ last_moment y
      each y h = (v y h).in_order

      ascending : Ordered (IsBelow bytes_cmp) (combine r (single s)).receivers
      ascending =
          union_ordered bytes_total bytes_exact r.receivers (s.receiver ∷ []) (λ y h. absurd h, tt)

      near : IsNear gap x (single s)
          → join_row gap (x ∷ xs) (combine r (single s)) ≡ combine (combine r (single s)) x ∷ xs
      near m =
          join_near gap (x ∷ []) xs (combine r (single s)) spans each o.1
          (λ y h. elim h [
            | inl e ↦ subst (λ (z : Row). IsNear gap z (combine r (single s))) e
                (near_combined gap r (single s) x n.key m)
            | inr k ↦ absurd k
          ])
          (λ y h. combined_before gap r (single s) y n.key (o.0 y (inr h))
          (after_two gap s r x y n m (each x (inl refl)) (each y (inr h)) (o.0 x (inl refl))
          (o.1.0 y h)))
          ∙ ap (λ (z : Row). z ∷ xs)
          (combine_flip x (combine r (single s)) (v x (inl refl)).ascending ascending)

      after : IsBefore gap (single s) x
          → join_row gap (x ∷ xs) (combine r (single s)) ≡ (combine r (single s)) ∷ x ∷ xs
      after b =
          join_first gap (x ∷ xs) (combine r (single s)) spans each
          (λ y h. combined_before gap r (single s) y n.key (o.0 y h)
          (elim h [
            | inl e ↦ subst
                (λ (z : Row). IsBefore gap (single s) z) e b
            | inr k ↦ before_trans gap (single s) x y
                (each x (inl refl)) b (o.1.0 y k)
          ]))

      by_case : (q : Ordering)
          → MatchOrdering q (IsBefore gap x (single s)) (IsNear gap x (single s))
          (IsBefore gap (single s) x)
          → choose q (combine r (single s) ∷ x ∷ xs) (combine (combine r (single s)) x ∷ xs)
          (combine r (single s) ∷ x ∷ xs) ≡ join_row gap (x ∷ xs) (combine r (single s))
      by_case Less h = absurd (not_before_s gap s r x n (o.0 x (inl refl)) (each x (inl refl)) h)
      by_case Equal h = sym (near h)
      by_case Greater h = sym (after h)

pub inserted_is_joined : (gap : ℕ) (s : Received) (rows : List Row) → IsSound gap rows
    → insert_heard gap s rows ≡ join_row gap rows (single s)
inserted_is_joined gap s [] w = refl
inserted_is_joined gap s (r ∷ rows) w =
    by_case (compare_near gap r (single s)) (place_means gap r (single s))
    (inserted_is_joined gap s rows
    (record { ordered = w.ordered.1; each = λ x h. w.each x (inr h) })) where
      own : IsSoundRow r
      own = w.each r (inl refl)

      by_case : (q : Ordering)
          → MatchOrdering q (IsBefore gap r (single s)) (IsNear gap r (single s))
          (IsBefore gap (single s) r) → insert_heard gap s rows ≡ join_row gap rows (single s)
          → choose q (r ∷ insert_heard gap s rows) (bridge_row gap s (grow_row r s) rows)
          (single s ∷ r ∷ rows) ≡ choose q (r ∷ join_row gap rows (single s))
          (join_row gap rows (combine r (single s))) (single s ∷ r ∷ rows)
      by_case Less h e = ap (λ (xs : List Row). r ∷ xs) e
      by_case Equal h e =
          ap (λ (x : Row). bridge_row gap s x rows) (grown_is_combined r s own.ascending)
          ∙ bridged_is_joined gap s r rows h own (λ x k. w.each x (inr k)) w.ordered
      by_case Greater h e = refl

-- so it turns the book of S into that of S and s
pub inserted_is_book : (gap : ℕ) (S : List Received) (s : Received) (rows : List Row)
    → BookOf gap S rows
    → BookOf gap (S ++ s ∷ []) (insert_heard gap s rows)
inserted_is_book gap S s rows b =
    subst (λ (p : List Row). BookOf gap (S ++ s ∷ []) p)
    (sym (inserted_is_joined gap s rows (one_relation gap rows (sound gap S rows b))))
    (taken_last gap S s rows b)

pub inserted_is_sound : (gap : ℕ) → 0 < gap → (s : Received) (rows : List Row) → Sound gap rows
    → Sound gap (insert_heard gap s rows)
inserted_is_sound gap pos s rows w =
    sound gap (witnesses rows ++ s ∷ []) (insert_heard gap s rows)
    (inserted_is_book gap (witnesses rows) s rows (witnessed gap rows pos w))

-- ---- what changes in place

listed : (r : List ℕ) (xs : List (List ℕ)) → Ordered (IsBelow bytes_cmp) xs → r ∈ xs
    → is_listed r xs ≡ true
listed r [] o h = absurd h
listed r (x ∷ xs) o h =
    by_case (bytes_cmp r x) (λ k. listed r xs o.1 k) (compared bytes_total bytes_exact r x) h where
      by_case : (q : Ordering) → (r ∈ xs → is_listed r xs ≡ true)
          → MatchOrdering q (bytes_cmp r x ≡ Less) (r ≡ x) (bytes_cmp x r ≡ Less) → r ∈ (x ∷ xs)
          → choose q false true (is_listed r xs) ≡ true
      by_case Less f b (inl e) =
          let c =
          subst (λ (y : List ℕ). bytes_cmp r y ≡ Less) e b in absurd (not_both bytes_total r r c c)
      by_case Less f b (inr k) = absurd (not_both bytes_total r x b (o.0 r k))
      by_case Equal f b h = refl
      by_case Greater f b (inl e) =
          let c =
          subst (λ (y : List ℕ). bytes_cmp y r ≡ Less) e b in absurd (not_both bytes_total r r c c)
      by_case Greater f b (inr k) = f k

-- of sound rows, the test says what it should
pub fits_by_test : (gap : ℕ) (s : Received) (rows : List Row) → IsSound gap rows
    → FitsInPlace gap rows s → has_place_for gap s rows ≡ true
fits_by_test gap s [] w f = absurd f.member
fits_by_test gap s (r ∷ rows) w f =
    by_case (compare_near gap r (single s))
    (λ g. fits_by_test gap s rows
    (record { ordered = w.ordered.1; each = λ x m. w.each x (inr m) }) g)
    (place_means gap r (single s)) f.member where
      span : (x : Row) → x ∈ (r ∷ rows) → x.first ≤ last_moment x
      span x h = (w.each x h).in_order

      none_near : (rows : List Row) → ((x : Row) → x ∈ rows → IsNear gap x (single s) → ⊥)
          → is_near_first gap s rows ≡ false
      none_near [] g = refl
      none_near (x ∷ xs) g = first (compare_near gap x (single s)) (place_means gap x
          (single s)) where
            first : (q : Ordering)
                → MatchOrdering q (IsBefore gap x (single s)) (IsNear gap x (single s))
                (IsBefore gap (single s) x) → choose q false true false ≡ false
            first Less h = refl
            first Equal h = absurd (g x (inl refl) h)
            first Greater h = refl

      alone : r ≡ f.row → (x : Row) → x ∈ rows → IsNear gap x (single s) → ⊥
      alone e x h n =
          let d : x ≡ r = f.only x (inr h) n ∙ sym e in
          let b = subst (λ (z : Row). IsBefore gap r z) d (w.ordered.0 x h) in
          let g = far_of_before gap r r refl b in
          omega (arith, g, span r (inl refl))

      both : (p q : Bool) → p ≡ true → q ≡ false → p && not q ≡ true
      both p q g h = rw (g, h) refl

      by_case : (q : Ordering) → (FitsInPlace gap rows s → has_place_for gap s rows ≡ true)
          → MatchOrdering q (IsBefore gap r (single s)) (IsNear gap r (single s))
          (IsBefore gap (single s) r) → f.row ∈ (r ∷ rows)
          → choose q (has_place_for gap s rows)
          (is_listed s.receiver r.receivers && not (is_near_first gap s rows)) false ≡ true
      by_case Less ih h (inl e) =
          absurd
          (near_not_before gap r (single s)
          (subst (λ (z : Row). IsNear gap z (single s)) (sym e) f.near) h)
      by_case Less ih h (inr k) =
          ih
          (record {
            row = f.row;
            member = k;
            near = f.near;
            listed = f.listed;
            only = λ x m. f.only x (inr m);
          })
      by_case Equal ih h k =
          let e : r ≡ f.row = f.only r (inl refl) h in
          both (is_listed s.receiver r.receivers) (is_near_first gap s rows)
          (listed s.receiver r.receivers (w.each r (inl refl)).ascending
          (subst (λ (z : Row). s.receiver ∈ z.receivers) (sym e) f.listed))
          (none_near rows (alone e))
      by_case Greater ih h (inl e) =
          absurd
          (near_not_after gap r (single s)
          (subst (λ (z : Row). IsNear gap z (single s)) (sym e) f.near) h)
      by_case Greater ih h (inr k) =
          absurd
          (near_not_after gap f.row (single s) f.near
          (before_trans gap (single s) r f.row (span r (inl refl)) h (w.ordered.0 f.row k)))
