-- Lemmas on the rows of inputs, and the books that they join.
use Rattle.aprs_runs.proofs.Common.{◌≡◌, ◌∙◌, ℕ, ◌<◌, ◌≤◌, List, [], ◌∷◌, ◌++◌, inl, inr, refl, sym, ap, subst, append_assoc, append-nil, length, map, arith, Result, Ok, Err, OnOk, Received, BookOf, BookValue, Holds, IsSoundBook, widened_to, IsGap, millis_of, join_row, merge, single, Row, witnesses, book_carries, one_book, in_either, in_left, in_right, book_of_nothing, joined_rows, together, witnessed, merged}
use Rattle.aprs_log.specs.declared.InputEnd.{InputEnd}
use Rattle.std.specs.declared.cmp.Ordering.{Ordering}
use Rattle.std.specs.declared.cmp.Ordering.TheVariants.{Less, Equal, Greater}
use Rattle.aprs_transmissions.specs.Coalescing.{StandFor}
use Rattle.aprs_transmissions.specs.JoinRow.{choose, combine, compare_near}
use Rattle.aprs_transmissions.proofs.BookValues.{widened_holds}
use Rattle.aprs_transmissions.proofs.Joins.{some_millis}
use Rattle.aprs_transmissions.proofs.TakenSteps.{taken_last}
use Rattle.aprs_runs.specs.InputRows.{GivesRows}
use Rattle.aprs_runs.specs.InputBook.{TakesInput}
use Rattle.aprs_runs.specs.Inputs.{GivesSet}
use Rattle.aprs_runs.proofs.Sets.{set_book}

-- ---- rows that join the book of a set

-- receptions, each as a row
pub joined_heard : (gap : ℕ) (S T : List Received) (p : List Row) → BookOf gap S p
    → BookOf gap (S ++ T) (merge gap p (map single T))
joined_heard gap S [] p b = subst (λ U. BookOf gap U p) (sym (append-nil S)) b
joined_heard gap S (t ∷ T) p b =
    subst (λ U. BookOf gap U (merge gap (join_row gap p (single t)) (map single T)))
    (append_assoc S (t ∷ []) T)
    (joined_heard gap (S ++ t ∷ []) T (join_row gap p (single t)) (taken_last gap S t p b))

-- of a set that the rows stand for
carried : (gap : ℕ) (S T : List Received) (rows p : List Row) → StandFor rows T
    → BookOf gap (S ++ witnesses rows) p → BookOf gap (S ++ T) p
carried gap S T rows p f b =
    book_carries gap (S ++ witnesses rows) (S ++ T) p
    (λ s. (
      λ h. elim (in_either s S (witnesses rows) h) [
        | inl k ↦ in_left s S T k
        | inr k ↦ in_right s S T ((f.members s).0 k)
      ],
      λ h. elim (in_either s S T h) [
        | inl k ↦ in_left s S (witnesses rows) k
        | inr k ↦ in_right s S (witnesses rows) ((f.members s).1 k)
      ],
    )) b

-- their book, of a set that they stand for
own_book : (gap : ℕ) (T : List Received) (rows : List Row) → 0 < gap → StandFor rows T
    → BookOf gap T (merge gap [] rows)
own_book gap T rows pos f =
    carried gap [] T rows (merge gap [] rows) f (together gap rows pos f.each)

-- two sets with one book add the same
added : (gap : ℕ) (S T U : List Received) (old own new : List Row) → BookOf gap S old
    → BookOf gap T own → BookOf gap U own → BookOf gap (S ++ U) new → BookOf gap (S ++ T) new
added gap S T U old own new book first second whole =
    subst (λ (rs : List Row). BookOf gap (S ++ T) rs)
    (one_book gap (S ++ U) (merge gap old own) new (merged gap S U old own book second) whole)
    (merged gap S T old own book first)

-- the rows of a faultless input are taken into a book of its gap
pub takes_rows : (own : ℕ) (old new : BookValue) (t : List ℕ) (c : InputEnd) → IsGap old.gap
    → own ≡ old.gap → GivesRows old.gap own old new t c
    → TakesInput old.gap (Ok tt) old.rows new.rows t c
takes_rows own old new t c r e h =
    let gap = millis_of old.gap in
    let its = subst (λ g. GivesSet g t c h.set) e h.gives in
    let pos = some_millis old.gap r in
    let alone = own_book gap h.set h.rows pos h.stand in (
      (h.set, its),
      λ S T gives book. subst (λ (b : BookValue). BookOf gap (S ++ T) b.rows) (sym h.new_is)
          (added gap S T h.set old.rows (merge gap [] h.rows) (merge gap old.rows h.rows) book
          (set_book old.gap t c T h.set (merge gap [] h.rows) gives its alone) alone
          (carried gap S h.set h.rows (merge gap old.rows h.rows) h.stand
          (joined_rows gap S old.rows h.rows pos h.stand.each book))),
    )

-- rows that were read into no others, under a gap that is not less than their own: the book is that
-- of each set that the input stands for
pub holds_wide : (gap own : ℕ) (old new : BookValue) (t : List ℕ) (c : InputEnd) → IsGap gap
    → IsGap own → own ≤ gap → old ≡ record { gap = gap; rows = [] }
    → (h : GivesRows gap own old new t c) → (S : List Received) → GivesSet own t c S
    → BookOf (millis_of gap) S new.rows
holds_wide gap own old new t c r o l none h S gives =
    let wide = merge (millis_of gap) [] h.rows in
    let narrow : BookValue = record { gap = own; rows = merge (millis_of own) [] h.rows } in
    let read : new.rows ≡ wide = ap (λ (b : BookValue). b.rows) h.new_is
    ∙ ap (λ (b : BookValue). merge (millis_of b.gap) b.rows h.rows) none in
    let its : Holds h.set narrow =
    own_book (millis_of own) h.set h.rows (some_millis own o) h.stand in
    let same : wide ≡ (widened_to gap narrow).rows = one_book (millis_of gap) h.set wide
    (widened_to gap narrow).rows
    (own_book (millis_of gap) h.set h.rows (some_millis gap r) h.stand)
    (widened_holds gap h.set narrow l its) in
    subst (λ (rows : List Row). BookOf (millis_of gap) S rows) (sym (read ∙ same))
    (widened_holds gap S narrow l (set_book own t c S h.set narrow.rows gives h.gives its))

-- ---- a book that rows joined has rows

joined_some : (gap : ℕ) (p : List Row) (r : Row) → 0 < length (join_row gap p r)
joined_some gap [] r = omega arith
joined_some gap (x ∷ p) r = by (compare_near gap x r) (joined_some gap p (combine x r))
  where
    by : (o : Ordering) → 0 < length (join_row gap p (combine x r))
        → 0 < length (choose o (x ∷ join_row gap p r) (join_row gap p (combine x r)) (r ∷ x ∷ p))
    by Less h = omega arith
    by Equal h = h
    by Greater h = omega arith

merged_some : (gap : ℕ) (p rows : List Row) → 0 < length p → 0 < length (merge gap p rows)
merged_some gap p [] h = h
merged_some gap p (r ∷ rows) h = merged_some gap (join_row gap p r) rows (joined_some gap p r)

pub some_rows : (gap : ℕ) (p rows : List Row) → (rows ≡ [] → ⊥) → merge gap p rows ≡ [] → ⊥
some_rows gap p [] some e = some refl
some_rows gap p (r ∷ rows) some e =
    let more = merged_some gap (join_row gap p r) rows (joined_some gap p r) in
    absurd (omega (arith, more, ap length e))

-- ---- a book that another is merged into

-- there is a set whose book has no rows, and one for rows that are sound
pub known_none : (gap : ℕ) (rows : List Row) → length rows ≡ 0
    → (S : List Received) × BookOf (millis_of gap) S rows
known_none gap [] e = ([], book_of_nothing (millis_of gap))
known_none gap (x ∷ rows) e = absurd (omega (arith, e))

pub known_sound : (book : BookValue) → IsSoundBook book
    → (S : List Received) × BookOf (millis_of book.gap) S book.rows
known_sound book s =
    (witnesses book.rows, witnessed (millis_of book.gap) book.rows (omega (arith, s.range.0)) s.sound)

-- what holds, holds of an answer that is `Ok`
pub whatever : {T E P : Type 0} (r : Result T E) → P → OnOk r P
whatever (Ok x) p = p
whatever (Err e) p = tt
