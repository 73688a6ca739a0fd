-- Rows in order are folded one by one.
use Rattle.aprs_transmissions.proofs.Common.{◌≡◌, ◌∙◌, true, false, ℕ, ◌<◌, List, [], ◌∷◌, ◌++◌, inl, inr, refl, sym, ap, subst, MatchOrdering, Ordering, Less, Equal, Greater}
use Rattle.std.proofs.Common.{append_assoc, append-nil}
use Rattle.std.specs.Ordering.{is_eq}
use Rattle.aprs_transmissions.specs.Coalescing.{AreInOrder}
use Rattle.aprs_transmissions.specs.Row.{Row, row_key}
use Rattle.aprs_transmissions.specs.Sound.{IsSoundRow, AreSoundRows}
use Rattle.aprs_transmissions.specs.JoinRow.{IsNear, choose, combine, compare_near}
use Rattle.aprs_transmissions.specs.Together.{book_together}
use Rattle.aprs_transmissions.proofs.Rows.{IsBefore, place_means}
use Rattle.aprs_transmissions.proofs.Streams.{combined_up_to}
use Rattle.aprs_transmissions.proofs.Together.{first_stands, firsts_join, near_is_sound}
use Rattle.aprs_fold.specs.Folded.{row_after, rows_before, FirstIsLast, NearJoins, FarCloses, FoldedIsBook, WrittenStays}

-- ---- one row more

-- the row that may still be joined after one more, where the choice of the first step is given
after_by : (gap : ℕ) (o : Ordering) (a b x : Row) (p q : Row)
    → p ≡ choose (compare_near gap a x) x (combine a x) x
    → q ≡ choose (compare_near gap b x) x (combine b x) x
    → choose o p q p
    ≡ choose (compare_near gap (choose o a b a) x) x (combine (choose o a b a) x) x
after_by gap Less a b x p q e f = e
after_by gap Equal a b x p q e f = f
after_by gap Greater a b x p q e f = e

pub after_more : (gap : ℕ) (l : Row) (xs : List Row) (x : Row)
    → row_after gap l (xs ++ x ∷ [])
    ≡ choose (compare_near gap (row_after gap l xs) x) x (combine (row_after gap l xs) x) x
after_more gap l [] x = refl
after_more gap l (y ∷ ys) x =
    after_by gap (compare_near gap l y) (row_after gap y ys) (row_after gap (combine l y) ys) x
    (row_after gap y (ys ++ x ∷ [])) (row_after gap (combine l y) (ys ++ x ∷ []))
    (after_more gap y ys x) (after_more gap (combine l y) ys x)

-- the rows before it, likewise
abbrev closes : ℕ → Row → List Row → Row → List Row
closes gap last written x = choose (compare_near gap last x) (written ++ last ∷ []) written
    (written ++ last ∷ [])

closes_after : (gap : ℕ) (l last x : Row) (written : List Row)
    → l ∷ closes gap last written x ≡ closes gap last (l ∷ written) x
closes_after gap l last x written = by_case (compare_near gap last x) where
  by_case : (o : Ordering)
      → l ∷ choose o (written ++ last ∷ []) written (written ++ last ∷ [])
      ≡ choose o (l ∷ written ++ last ∷ []) (l ∷ written) (l ∷ written ++ last ∷ [])
  by_case Less = refl
  by_case Equal = refl
  by_case Greater = refl

before_by : (gap : ℕ) (o : Ordering) (l a b x : Row) (u v p q : List Row)
    → p ≡ closes gap a u x → q ≡ closes gap b v x
    → choose o (l ∷ p) q (l ∷ p)
    ≡ closes gap (choose o a b a) (choose o (l ∷ u) v (l ∷ u)) x
before_by gap Less l a b x u v p q e f = ap (λ r. l ∷ r) e ∙ closes_after gap l a x u
before_by gap Equal l a b x u v p q e f = f
before_by gap Greater l a b x u v p q e f = ap (λ r. l ∷ r) e ∙ closes_after gap l a x u

pub before_more : (gap : ℕ) (l : Row) (xs : List Row) (x : Row)
    → rows_before gap l (xs ++ x ∷ []) ≡ closes gap (row_after gap l xs) (rows_before gap l xs) x
before_more gap l [] x = refl
before_more gap l (y ∷ ys) x =
    before_by gap (compare_near gap l y) l (row_after gap y ys) (row_after gap (combine l y) ys) x
    (rows_before gap y ys) (rows_before gap (combine l y) ys)
    (rows_before gap y (ys ++ x ∷ [])) (rows_before gap (combine l y) (ys ++ x ∷ []))
    (before_more gap y ys x) (before_more gap (combine l y) ys x)

pub first_is_last : (gap : ℕ) → FirstIsLast gap
first_is_last gap x = (refl, refl)

head_same : (x y : Row) → x ∷ [] ≡ y ∷ [] → x ≡ y
head_same x y e = cc

near_joins_by : (o : Ordering) (x c : Row) → is_eq o ≡ true → choose o x c x ≡ c
near_joins_by Less x c e = absurd (cc)
near_joins_by Equal x c e = refl
near_joins_by Greater x c e = absurd (cc)

near_keeps_by : (o : Ordering) (more written : List Row) → is_eq o ≡ true
    → choose o more written more ≡ written
near_keeps_by Less more written e = absurd (cc)
near_keeps_by Equal more written e = refl
near_keeps_by Greater more written e = absurd (cc)

far_joins_by : (o : Ordering) (x c : Row) → is_eq o ≡ false → choose o x c x ≡ x
far_joins_by Less x c e = refl
far_joins_by Equal x c e = absurd (cc)
far_joins_by Greater x c e = refl

far_keeps_by : (o : Ordering) (more written : List Row) → is_eq o ≡ false
    → choose o more written more ≡ more
far_keeps_by Less more written e = refl
far_keeps_by Equal more written e = absurd (cc)
far_keeps_by Greater more written e = refl

pub near_joins : (gap : ℕ) → NearJoins gap
near_joins gap [] written last x h e = absurd (let f = h.1 in cc)
near_joins gap (l ∷ xs) written last x h e =
    let own = row_after gap l xs in
    let same : last ≡ own = head_same last own h.1 in
    let near : is_eq (compare_near gap own x) ≡ true =
    subst (λ r. is_eq (compare_near gap r x) ≡ true) same e in (
      h.0 ∙ sym (before_more gap l xs x
          ∙ near_keeps_by (compare_near gap own x) (rows_before gap l xs ++ own ∷ [])
          (rows_before gap l xs) near),
      ap (λ r. combine r x ∷ []) same
          ∙ ap (λ r. r ∷ []) (sym (after_more gap l xs x
          ∙ near_joins_by (compare_near gap own x) x (combine own x) near)),
    )

pub far_closes : (gap : ℕ) → FarCloses gap
far_closes gap [] written last x h e = absurd (let f = h.1 in cc)
far_closes gap (l ∷ xs) written last x h e =
    let own = row_after gap l xs in
    let same : last ≡ own = head_same last own h.1 in
    let far : is_eq (compare_near gap own x) ≡ false =
    subst (λ r. is_eq (compare_near gap r x) ≡ false) same e in (
      ap (λ w. w ++ last ∷ []) h.0 ∙ ap (λ r. rows_before gap l xs ++ r ∷ []) same
          ∙ sym (before_more gap l xs x
          ∙ far_keeps_by (compare_near gap own x) (rows_before gap l xs ++ own ∷ [])
          (rows_before gap l xs) far),
      ap (λ r. r ∷ []) (sym (after_more gap l xs x
          ∙ far_joins_by (compare_near gap own x) x (combine own x) far)),
    )

-- ---- the book

one_key : (gap : ℕ) (x y : Row) → compare_near gap x y ≡ Equal → row_key x ≡ row_key y
one_key gap x y e =
    (subst (λ (o : Ordering). MatchOrdering o (IsBefore gap x y) (IsNear gap x y) (IsBefore gap y x))
    e (place_means gap x y)).key

pub AreFollowing : Row → List Row → Type 0
AreFollowing l xs = AreInOrder (l ∷ xs)

-- where the next row is near
joined_order : (gap : ℕ) (l x : Row) (xs : List Row) → compare_near gap l x ≡ Equal
    → AreInOrder (l ∷ x ∷ xs) → AreInOrder (combine l x ∷ xs)
joined_order gap l x xs e o = (
  λ y h. combined_up_to l x y (one_key gap l x e) (o.0 y (inr h)),
  o.1.1,
)

joined_sound : (gap : ℕ) → 0 < gap → (l x : Row) (xs : List Row) → compare_near gap l x ≡ Equal
    → AreSoundRows (l ∷ x ∷ xs) → AreSoundRows (combine l x ∷ xs)
joined_sound gap pos l x xs e s y h = elim h [
  | inl i ↦ subst (λ (r : Row). IsSoundRow r) i
      (near_is_sound gap pos l x (s l (inl refl)) (s x (inr (inl refl))) e)
  | inr k ↦ s y (inr (inr k))
]

not_equal : (o : Ordering) → o ≡ Less → is_eq o ≡ false
not_equal o e = ap is_eq e

not_equal_either : (o : Ordering) → o ≡ Greater → is_eq o ≡ false
not_equal_either o e = ap is_eq e

abbrev all_after : ℕ → Row → List Row → List Row
all_after gap l xs = rows_before gap l xs ++ row_after gap l xs ∷ []

-- the fold is the book, by where the next row lies
pub folded_together : (gap : ℕ) → 0 < gap → (l : Row) (xs : List Row) → AreInOrder (l ∷ xs)
    → AreSoundRows (l ∷ xs) → all_after gap l xs ≡ book_together gap (l ∷ xs)
folded_together gap pos l [] o s = refl
folded_together gap pos l (x ∷ xs) o s =
    by_case (compare_near gap l x) refl
    (folded_together gap pos x xs o.1 (λ y h. s y (inr h)))
    (λ e. folded_together gap pos (combine l x) xs (joined_order gap l x xs e o)
    (joined_sound gap pos l x xs e s)) where
      far : (is_eq (compare_near gap l x) ≡ false)
          → book_together gap (l ∷ x ∷ xs) ≡ l ∷ book_together gap (x ∷ xs)
      far e = first_stands gap l x xs (s x (inr (inl refl))) (o.0 x (inl refl)) o.1.0 e

      by_case : (c : Ordering) → compare_near gap l x ≡ c
          → all_after gap x xs ≡ book_together gap (x ∷ xs)
          → (compare_near gap l x ≡ Equal
          → all_after gap (combine l x) xs ≡ book_together gap (combine l x ∷ xs))
          → choose c (l ∷ rows_before gap x xs) (rows_before gap (combine l x) xs)
          (l ∷ rows_before gap x xs)
          ++ choose c (row_after gap x xs) (row_after gap (combine l x) xs) (row_after gap x xs) ∷ []
          ≡ book_together gap (l ∷ x ∷ xs)
      by_case Less e rest joined =
          ap (λ r. l ∷ r) rest ∙ sym (far (ap is_eq e))
      by_case Equal e rest joined = joined e ∙ sym (firsts_join gap l x xs e)
      by_case Greater e rest joined =
          ap (λ r. l ∷ r) rest ∙ sym (far (ap is_eq e))

pub folded_is_book : (gap : ℕ) → 0 < gap → FoldedIsBook gap
folded_is_book gap pos [] written last o s h = (λ i. h.0 i ++ h.1 i)
folded_is_book gap pos (l ∷ xs) written last o s h =
    (λ i. h.0 i ++ h.1 i) ∙ folded_together gap pos l xs o s

-- ---- what is written stays

-- the rows before the last one begin those before it later
pub before_stays : (gap : ℕ) (l : Row) (xs ys : List Row)
    → (rest : List Row) × (rows_before gap l (xs ++ ys) ≡ rows_before gap l xs ++ rest)
before_stays gap l xs [] = (
  [],
  ap (λ r. rows_before gap l r) (append-nil xs) ∙ sym (append-nil (rows_before gap l xs)),
)
before_stays gap l xs (y ∷ ys) =
    let next = before_stays gap l (xs ++ y ∷ []) ys in
    let own = row_after gap l xs in
    let step = grown_by (compare_near gap own y) (rows_before gap l xs) own in (
      step.0 ++ next.0,
      ap (λ r. rows_before gap l r) (sym (append_assoc xs (y ∷ []) ys))
          ∙ next.1
          ∙ ap (λ w. w ++ next.0) (before_more gap l xs y ∙ step.1)
          ∙ append_assoc (rows_before gap l xs) step.0 next.0,
    ) where
      grown_by : (o : Ordering) (written : List Row) (own : Row)
          → (rest : List Row)
          × (choose o (written ++ own ∷ []) written (written ++ own ∷ []) ≡ written ++ rest)
      grown_by Less written own = (own ∷ [], refl)
      grown_by Equal written own = ([], sym (append-nil written))
      grown_by Greater written own = (own ∷ [], refl)

pub written_stays : (gap : ℕ) → 0 < gap → WrittenStays gap
written_stays gap pos [] written last more o s h =
    (book_together gap more, λ i. sym h.0 i ++ book_together gap more)
written_stays gap pos (l ∷ xs) written last more o s h =
    let grown = before_stays gap l xs more in (
      grown.0 ++ row_after gap l (xs ++ more) ∷ [],
      sym (folded_together gap pos l (xs ++ more) o s)
          ∙ ap (λ w. w ++ row_after gap l (xs ++ more) ∷ [])
          (grown.1 ∙ ap (λ w. w ++ grown.0) (sym h.0))
          ∙ append_assoc written grown.0 (row_after gap l (xs ++ more) ∷ []),
    )
