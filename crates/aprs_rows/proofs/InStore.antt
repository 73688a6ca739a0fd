-- The book of a store stays the same where a chunk is sorted, and takes what is put there.
use Rattle.aprs_rows.proofs.Common.{◌≡◌, ◌∙◌, ℕ, zero, suc, ◌+◌, ◌<◌, List, [], ◌∷◌, ◌++◌, inl, inr, OnOk, OnErr, Result, Ok, Err, append_assoc, arith, refl, sym, ap, subst, length, take, take_more, get_or, flat_map, AllByRecursion, AreInOrder, millis_of, ◌∈◌, SameMembers, Row, IsSoundRow, in_left, in_right, in_either, single, single_is_sound, Received, some_millis, BookValue}
use Rattle.std.proofs.lemmas.List.{append-nil}
use Rattle.aprs_transmissions.specs.JoinRow.{merge}
use Rattle.aprs_transmissions.specs.Sound.{AreSoundRows}
use Rattle.aprs_transmissions.specs.Together.{book_together}
use Rattle.aprs_transmissions.proofs.Together.{merge_append, order_is_free}
use Rattle.aprs_rows.specs.BookStore.{IsStored, all_rows, book_stored}
use Rattle.aprs_rows.specs.Packed.{room_of}
use Rattle.aprs_rows.proofs.Counts.{some_book}

-- ---- lists of rows

flat_more : (lists : List (List Row)) (rows : List Row)
    → flat_map (λ rs. rs) (lists ++ rows ∷ []) ≡ flat_map (λ rs. rs) lists ++ rows
flat_more [] rows = append-nil rows
flat_more (r ∷ lists) rows =
    ap (λ xs. r ++ xs) (flat_more lists rows)
    ∙ sym (append_assoc r (flat_map (λ rs. rs) lists) rows)

ordered_more : (lists : List (List Row)) (rows : List Row) → AllByRecursion AreInOrder lists
    → AreInOrder rows → AllByRecursion AreInOrder (lists ++ rows ∷ [])
ordered_more [] rows a o = (o, tt)
ordered_more (r ∷ lists) rows a o = (a.0, ordered_more lists rows a.1 o)

to_end : (a b c : List Row) (z : Row) → z ∈ ((a ++ b) ++ c) → z ∈ ((a ++ c) ++ b)
to_end a b c z h = elim (in_either z (a ++ b) c h) [
  | inl k ↦ elim (in_either z a b k) [
    | inl j ↦ in_left z (a ++ c) b (in_left z a c j)
    | inr j ↦ in_right z (a ++ c) b j
  ]
  | inr k ↦ in_left z (a ++ c) b (in_right z a c k)
]

front_none : (a b : List Row) → a ++ b ≡ [] → a ≡ []
front_none [] b e = refl
front_none (x ∷ a) b e = absurd (cc)

back_none : (a b : List Row) → a ++ b ≡ [] → b ≡ []
back_none [] b e = e
back_none (x ∷ a) b e = absurd (cc)

-- where the chunk or one of the lists has rows, they all have
pub some_in_first : (lists : List (List Row)) (chunk : List Row) → (chunk ≡ [] → ⊥)
    → all_rows lists chunk ≡ [] → ⊥
some_in_first lists chunk s e = s (front_none chunk (flat_map (λ rs. rs) lists) e)

some_of_lists : (lists : List (List Row)) (i : ℕ) (rows : List Row) → rows ≡ get_or lists i rows
    → i < length lists → (rows ≡ [] → ⊥) → flat_map (λ rs. rs) lists ≡ [] → ⊥
some_of_lists [] i rows is l s e = omega (arith, l)
some_of_lists (r ∷ lists) zero rows is l s e =
    s (is ∙ front_none r (flat_map (λ rs. rs) lists) e)
some_of_lists (r ∷ lists) (suc i) rows is l s e =
    some_of_lists lists i rows is (omega (arith, l)) s
    (back_none r (flat_map (λ rs. rs) lists) e)

pub some_of_all : (lists : List (List Row)) (chunk : List Row) (i : ℕ) (rows : List Row)
    → rows ≡ get_or lists i rows → i < length lists → (rows ≡ [] → ⊥)
    → all_rows lists chunk ≡ [] → ⊥
some_of_all lists chunk i rows is l s e =
    some_of_lists lists i rows is l s (back_none chunk (flat_map (λ rs. rs) lists) e)

none_same : (rows : List Row) → ((z : Row) → z ∈ rows → z ∈ []) → rows ≡ []
none_same [] h = refl
none_same (x ∷ rows) h = absurd (h x (inl refl))

-- rows of a list come to others
module _ (xs ys : List Row) (same : SameMembers xs ys) where
  pub swapped : (all : List Row) → SameMembers (xs ++ all) (all ++ ys)
  swapped all z = (
    λ h. elim (in_either z xs all h) [
      | inl k ↦ in_right z all ys ((same z).0 k)
      | inr k ↦ in_left z all ys k
    ],
    λ h. elim (in_either z all ys h) [
      | inl k ↦ in_right z xs all k
      | inr k ↦ in_left z xs all ((same z).1 k)
    ],
  )

  pub same_before : (all : List Row) → SameMembers (xs ++ all) (ys ++ all)
  same_before all z = (
    λ h. elim (in_either z xs all h) [
      | inl k ↦ in_left z ys all ((same z).0 k)
      | inr k ↦ in_right z ys all k
    ],
    λ h. elim (in_either z ys all h) [
      | inl k ↦ in_left z xs all ((same z).1 k)
      | inr k ↦ in_right z xs all k
    ],
  )

-- the chunk becomes a list
pub closed : (lists others : List (List Row)) (chunk rows rest : List Row) → SameMembers chunk rows
    → others ≡ lists ++ rows ∷ [] → rest ≡ []
    → SameMembers (all_rows lists chunk) (all_rows others rest)
closed lists others chunk rows rest m e n =
    subst (λ (xs : List Row). SameMembers (all_rows lists chunk) xs)
    (sym ((λ i. all_rows (e i) (n i)) ∙ flat_more lists rows))
    (swapped chunk rows m (flat_map (λ rs. rs) lists))

-- one more list is merged
pub rows_more : (lists : List (List Row)) (chunk : List Row) (i : ℕ) (rows : List Row)
    → rows ≡ get_or lists i rows → i < length lists
    → all_rows (take (i + 1) lists) chunk ≡ all_rows (take i lists) chunk ++ rows
rows_more lists chunk i rows is l =
    ap (λ (ls : List (List Row)). all_rows ls chunk) (take_more lists i rows l
    ∙ ap (λ (r : List Row). take i lists ++ r ∷ []) (sym is))
    ∙ ap (λ rs. chunk ++ rs) (flat_more (take i lists) rows)
    ∙ sym (append_assoc chunk (flat_map (λ rs. rs) (take i lists)) rows)

-- ---- the same book

pub book_same : (gap : ℕ) (lists others : List (List Row)) (chunk rest : List Row)
    → IsStored gap lists chunk → SameMembers (all_rows lists chunk) (all_rows others rest)
    → AllByRecursion AreInOrder others
    → IsStored gap others rest × (book_stored gap others rest ≡ book_stored gap lists chunk)
book_same gap lists others chunk rest s m o = (
  record { range = s.range; ordered = o; each = λ x h. s.each x ((m x).1 h) },
  ap (λ rows. record { gap = gap; rows = rows })
      (sym (order_is_free (millis_of gap) (some_millis gap s.range) (all_rows lists chunk)
      (all_rows others rest) s.each m)),
)

-- and the same again of the rows that a merger has, where the chunk was sorted
pub walked : (gap : ℕ) (lists shown : List (List Row)) (chunk sorted rows : List Row)
    (book : BookValue)
    → IsStored gap lists chunk → SameMembers chunk sorted → shown ≡ lists
    → SameMembers (all_rows shown sorted) rows → book_stored gap lists chunk ≡ book
    → AreSoundRows rows
    × (record { gap = gap; rows = book_together (millis_of gap) rows } ≡ book)
walked gap lists shown chunk sorted rows book s m f n b =
    let own : SameMembers (all_rows lists chunk) (all_rows shown sorted) =
    subst (λ (ls : List (List Row)). SameMembers (all_rows lists chunk) (all_rows ls sorted)) (sym f)
    (same_before chunk sorted m (flat_map (λ rs. rs) lists)) in
    let all : SameMembers (all_rows lists chunk) rows = λ z. (
      λ h. (n z).0 ((own z).0 h),
      λ h. (own z).1 ((n z).1 h),
    ) in (
      λ x h. s.each x ((all x).1 h),
      ap (λ rs. record { gap = gap; rows = rs })
          (sym (order_is_free (millis_of gap) (some_millis gap s.range) (all_rows lists chunk)
          rows s.each all)) ∙ b,
    )

-- ---- where there are rows, the book has some

pub some_in_chunk : (gap : ℕ) (lists : List (List Row)) (chunk : List Row) (book : BookValue)
    → book_stored gap lists chunk ≡ book → (chunk ≡ [] → ⊥) → book.rows ≡ [] → ⊥
some_in_chunk gap lists chunk book b some e =
    some_book (millis_of gap) (all_rows lists chunk) (some_in_first lists chunk some)
    (ap (λ (k : BookValue). k.rows) b ∙ e)

pub some_in_store : (gap : ℕ) (lists shown : List (List Row)) (chunk sorted : List Row)
    (book : BookValue)
    → book_stored gap lists chunk ≡ book → SameMembers chunk sorted → shown ≡ lists
    → (all_rows shown sorted ≡ [] → ⊥) → book.rows ≡ [] → ⊥
some_in_store gap lists shown chunk sorted book b m f some e =
    some_book (millis_of gap) (all_rows lists chunk)
    (λ h. some (λ i. none_after m (front_none chunk (flat_map (λ rs. rs) lists) h) i
    ++ (ap (flat_map (λ rs. rs)) f ∙ back_none chunk (flat_map (λ rs. rs) lists) h) i))
    (ap (λ (k : BookValue). k.rows) b ∙ e)
  where
    none_after : SameMembers chunk sorted → chunk ≡ [] → sorted ≡ []
    none_after m h = none_same sorted (λ z k. subst (λ (xs : List Row). z ∈ xs) h ((m z).1 k))

pub some_names : (gap : ℕ) (rows : List Row) (book : BookValue)
    → record { gap = gap; rows = book_together (millis_of gap) rows } ≡ book → 0 < room_of rows
    → book.rows ≡ [] → ⊥
some_names gap rows book b h e =
    some_book (millis_of gap) rows (λ none. let n = ap room_of none in omega (arith, h, n))
    (ap (λ (k : BookValue). k.rows) b ∙ e)

-- ---- more rows

-- What rows that come to those of a store make of its book.
pub record Adds (gap : ℕ) (lists others : List (List Row)) (chunk rest rows : List Row)
    : Type 0 where
  pub stored : IsStored gap others rest
  pub book_is : book_stored gap others rest ≡ record {
    gap = gap;
    rows = merge (millis_of gap) (book_together (millis_of gap) (all_rows lists chunk)) rows;
  }

adds : (gap : ℕ) (lists others : List (List Row)) (chunk rest rows : List Row)
    → IsStored gap lists chunk → AllByRecursion AreInOrder others → AreSoundRows rows
    → SameMembers (all_rows lists chunk ++ rows) (all_rows others rest)
    → Adds gap lists others chunk rest rows
adds gap lists others chunk rest rows s o w m =
    let both : AreSoundRows (all_rows lists chunk ++ rows) =
    λ x h. elim (in_either x (all_rows lists chunk) rows h) [ inl k ↦ s.each x k | inr k ↦ w x k ] in
    record {
      stored = record { range = s.range; ordered = o; each = λ x h. both x ((m x).1 h) };
      book_is = ap (λ rs. record { gap = gap; rows = rs })
          (sym (order_is_free (millis_of gap) (some_millis gap s.range)
          (all_rows lists chunk ++ rows) (all_rows others rest) both m)
          ∙ merge_append (millis_of gap) [] (all_rows lists chunk) rows);
    }

-- a reception after those of the chunk
pub pushed : (gap : ℕ) (lists : List (List Row)) (chunk : List Row) (x : Received)
    → IsStored gap lists chunk → Adds gap lists lists chunk (chunk ++ single x ∷ []) (single x ∷ [])
pushed gap lists chunk x s =
    let all = flat_map (λ rs. rs) lists in
    adds gap lists lists chunk (chunk ++ single x ∷ []) (single x ∷ []) s s.ordered
    (λ y h. elim h [
      | inl e ↦ subst (λ (z : Row). IsSoundRow z) e (single_is_sound x)
      | inr k ↦ absurd k
    ])
    (λ z. (to_end chunk all (single x ∷ []) z, to_end chunk (single x ∷ []) all z))

pub pushed_still : {E : Type 0} (r : Result (Unit {0}) E) (gap : ℕ) (lists : List (List Row))
    (chunk more : List Row) (x : Received)
    → IsStored gap lists chunk → OnOk r (more ≡ chunk ++ single x ∷ [])
    → OnErr r (more ≡ chunk) → IsStored gap lists more
pushed_still (Ok u) gap lists chunk more x s a b =
    subst (λ (rows : List Row). IsStored gap lists rows) (sym a) (pushed gap lists chunk x s).stored
pushed_still (Err e) gap lists chunk more x s a b =
    subst (λ (rows : List Row). IsStored gap lists rows) (sym b) s

-- a list after the others
pub more_rows : (gap : ℕ) (lists others : List (List Row)) (chunk rows : List Row)
    → IsStored gap lists chunk → AreInOrder rows → AreSoundRows rows → others ≡ lists ++ rows ∷ []
    → Adds gap lists others chunk chunk rows
more_rows gap lists others chunk rows s o w e =
    let all = flat_map (λ rs. rs) lists in
    subst (λ (ls : List (List Row)). Adds gap lists ls chunk chunk rows) (sym e)
    (adds gap lists (lists ++ rows ∷ []) chunk chunk rows s (ordered_more lists rows s.ordered o) w
    (subst (λ (xs : List Row). SameMembers ((chunk ++ all) ++ rows) xs)
    (append_assoc chunk all rows ∙ ap (λ xs. chunk ++ xs) (sym (flat_more lists rows)))
    (λ z. (λ h. h, λ h. h))))
