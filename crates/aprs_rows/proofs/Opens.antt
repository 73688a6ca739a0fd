-- The open row of a book, and the rows that are still to come.
use Rattle.aprs_rows.proofs.Common.{◌≡◌, ◌∙◌, ℕ, ◌<◌, true, List, [], ◌∷◌, ◌++◌, inl, inr, min, refl, sym, ap, subst, is_eq, Ordering, Less, Equal, Greater, ◌∈◌, SameMembers, IsUpTo, Row, row_cmp, row_key, IsSoundRow, combine, compare_near, greater, union, bytes_cmp, ◌+◌, ◌≤◌, arith, length, length-append, join_with_byte}
use Rattle.std.proofs.lemmas.List.Sums.{sum_by-cons}
use Rattle.aprs_rows.specs.Names.{names_in}
use Rattle.aprs_rows.specs.Packed.{room_of, row_room}
use Rattle.aprs_rows.proofs.Judgements.{some_names}
use Rattle.std.specs.Ordering.{MatchOrdering}
use Rattle.aprs_transmissions.specs.JoinRow.{IsNear}
use Rattle.aprs_transmissions.specs.Sound.{AreSoundRows}
use Rattle.aprs_transmissions.specs.Together.{book_together}
use Rattle.aprs_transmissions.proofs.Rows.{IsBefore, place_means}
use Rattle.aprs_transmissions.proofs.Streams.{combined_up_to}
use Rattle.aprs_transmissions.proofs.Together.{first_stands, firsts_join, near_is_sound, order_is_free}
use Rattle.aprs_rows.specs.BookRows.{IsOpen}
use Rattle.aprs_rows.specs.Merger.{IsByTest, IsTakenOut, NoneIsNear, with_names}
use Rattle.aprs_rows.proofs.Unions.{united_alone, united_more}

near_of : (o : Ordering) → is_eq o ≡ true → o ≡ Equal
near_of Less e = absurd (cc)
near_of Equal e = refl
near_of Greater e = absurd (cc)

one_key : (gap : ℕ) (x y : Row) → compare_near gap x y ≡ Equal → row_key x ≡ row_key y
one_key gap x y e =
    (subst (λ (o : Ordering). MatchOrdering o (IsBefore gap x y) (IsNear gap x y) (IsBefore gap y x))
    e (place_means gap x y)).key

-- the same rows after the first
same_after : (r : Row) (xs ys : List Row) → SameMembers xs ys → SameMembers (r ∷ xs) (r ∷ ys)
same_after r xs ys e z = (
  λ h. elim h [ inl i ↦ inl i | inr k ↦ inr ((e z).0 k) ],
  λ h. elim h [ inl i ↦ inl i | inr k ↦ inr ((e z).1 k) ],
)

-- a sound row has its names each once and ascending
as_it_lies : (x : Row) (names : List (List ℕ)) (first : ℕ) → IsSoundRow x → names ≡ x.receivers
    → first ≡ x.first → x ≡ with_names first x (union bytes_cmp names [])
as_it_lies x names first own e f =
    let united = ap (λ ns. union bytes_cmp ns []) e ∙ united_alone x.receivers own.ascending in
    λ i. with_names (sym f i) x (sym united i)

-- the first row is the open one
pub starts : (gap : ℕ) → 0 < gap → (old : List Row) (x : Row) (rest : List Row)
    (names : List (List ℕ)) (first : ℕ) (book : List Row)
    → AreSoundRows old → IsTakenOut old x rest → names ≡ x.receivers → first ≡ x.first
    → book_together gap old ≡ book → IsOpen gap first x names rest book
starts gap pos old x rest names first book s t e f b =
    let own = s x ((t.members x).1 (inl refl)) in
    let same = as_it_lies x names first own e f in
    record {
      each = subst (λ r. AreSoundRows (r ∷ rest)) same (λ y h. s y ((t.members y).1 h));
      least = subst (λ r. (y : Row) → y ∈ rest → IsUpTo row_cmp r y) same t.least;
      book_is = ap (λ r. book_together gap (r ∷ rest)) (sym same)
          ∙ sym (order_is_free gap pos old (x ∷ rest) s t.members) ∙ b;
    }

-- ---- the names of the next row

pub fits_next : (rows : List Row) (x : Row) (rest : List Row) (text : List ℕ) (left : ℕ)
    → IsTakenOut rows x rest → text ≡ join_with_byte 44 x.receivers → room_of rows ≤ left
    → (length text + 1) + room_of rest ≤ left
fits_next rows x rest text left t e h =
    let n = ap length e in omega (arith, t.room, sum_by-cons row_room x rest, n, h)

pub not_none : (names before : List (List ℕ)) (text : List ℕ) → names ≡ before ++ names_in text
    → names ≡ [] → ⊥
not_none names before text e none =
    let all = ap length (sym e ∙ none) in
    omega (arith, all, length-append before (names_in text), some_names text)

module _ (gap : ℕ) (pos : 0 < gap) (first : ℕ) (latest : Row) (names : List (List ℕ))
    (rows book : List Row) (o : IsOpen gap first latest names rows book) where
  abbrev row : Row
  row = with_names first latest (union bytes_cmp names [])

  sound_next : (x : Row) (rest : List Row) → IsTakenOut rows x rest → IsSoundRow x
  sound_next x rest t = o.each x (inr ((t.members x).1 (inl refl)))

  -- the book of the open row, the next one and those after it
  whole : (x : Row) (rest : List Row) → IsTakenOut rows x rest
      → book_together gap (row ∷ x ∷ rest) ≡ book
  whole x rest t =
      sym (order_is_free gap pos (row ∷ rows) (row ∷ x ∷ rest) o.each
      (same_after row rows (x ∷ rest) t.members)) ∙ o.book_is

  -- a row that is near is one with the open one
  pub joins : (x : Row) (rest : List Row) (start : ℕ) (greatest : Row) (more : List (List ℕ))
      → IsTakenOut rows x rest → IsByTest true gap first latest x → start ≡ min first x.first
      → greatest.greatest ≡ greater latest.greatest x.greatest → more ≡ names ++ x.receivers
      → IsOpen gap start greatest more rest book
  joins x rest start greatest more t near e g m =
      let own = sound_next x rest t in
      let is = near_of (compare_near gap row x) (sym (near (union bytes_cmp names []))) in
      let united : union bytes_cmp more [] ≡ union bytes_cmp (union bytes_cmp names []) x.receivers =
      ap (λ ns. union bytes_cmp ns []) m ∙ united_more names x.receivers own.ascending in
      let same : combine row x ≡ with_names start greatest (union bytes_cmp more []) =
      λ i. record { first = sym e i; receivers = sym united i; greatest = sym g i } in
      record {
        each = subst (λ r. AreSoundRows (r ∷ rest)) same (λ y h. elim h [
          | inl j ↦ subst (λ (r : Row). IsSoundRow r) j
              (near_is_sound gap pos row x (o.each row (inl refl)) own is)
          | inr k ↦ o.each y (inr ((t.members y).1 (inr k)))
        ]);
        least = subst (λ r. (y : Row) → y ∈ rest → IsUpTo row_cmp r y) same
            (λ y h. combined_up_to row x y (one_key gap row x is)
            (o.least y ((t.members y).1 (inr h))));
        book_is = ap (λ r. book_together gap (r ∷ rest)) (sym same)
            ∙ sym (firsts_join gap row x rest is) ∙ whole x rest t;
      }

  -- where none is near, it is the first row of the book
  pub ends : NoneIsNear gap first latest rows → book ≡ row ∷ book_together gap rows
  ends (inl e) =
      sym o.book_is ∙ (λ t. book_together gap (row ∷ e t))
      ∙ (λ t. row ∷ book_together gap (sym e t))
  ends (inr (x, rest, t, far)) =
      sym (whole x rest t)
      ∙ first_stands gap row x rest (sound_next x rest t)
      (o.least x ((t.members x).1 (inl refl))) t.least (sym (far (union bytes_cmp names [])))
      ∙ ap (λ rs. row ∷ rs) (sym (order_is_free gap pos rows (x ∷ rest)
      (λ y h. o.each y (inr h)) t.members))

-- where none is near to it, the first row is that of the book
pub stands : (gap : ℕ) → 0 < gap → (old : List Row) (x : Row) (rest : List Row) (first : ℕ)
    (book : List Row)
    → AreSoundRows old → IsTakenOut old x rest → first ≡ x.first → book_together gap old ≡ book
    → NoneIsNear gap first x rest → book ≡ x ∷ book_together gap rest
stands gap pos old x rest first book s t f b far =
    ends gap pos first x x.receivers rest book
    (starts gap pos old x rest x.receivers first book s t refl f b) far
    ∙ ap (λ r. r ∷ book_together gap rest)
    (sym (as_it_lies x x.receivers first (s x ((t.members x).1 (inl refl))) refl f))
