-- Rows have one book, whatever their order, and its rows come one by one.
use Rattle.aprs_transmissions.proofs.Common.{◌≡◌, ◌∙◌, false, ℕ, ◌<◌, List, [], ◌∷◌, ◌++◌, inl, inr, refl, sym, ap, subst, is_gt, ordering_reverse, MatchOrdering, Ordering, Less, Equal, Greater, Received}
use Rattle.std.proofs.Common.{append_assoc, append-nil}
use Rattle.std.specs.Ordering.{is_eq}
use Rattle.aprs_transmissions.specs.Lists.{◌∈◌, SameMembers}
use Rattle.aprs_transmissions.specs.Order.{IsUpTo}
use Rattle.aprs_transmissions.specs.Row.{Row, row_cmp}
use Rattle.aprs_transmissions.specs.Book.{BookOf}
use Rattle.aprs_transmissions.specs.Sound.{IsSoundRow, AreSoundRows, Sound}
use Rattle.aprs_transmissions.specs.Witnesses.{witnesses_of_row, witnesses}
use Rattle.aprs_transmissions.specs.JoinRow.{IsNear, choose, combine, compare_near, join_row, merge}
use Rattle.aprs_transmissions.specs.Together.{book_together}
use Rattle.aprs_transmissions.proofs.Books.{row_total, below, unique}
use Rattle.aprs_transmissions.proofs.Coalescing.{same_witnesses}
use Rattle.aprs_transmissions.proofs.Parts.{before_up_to, place_before}
use Rattle.aprs_transmissions.proofs.Pushes.{push_first}
use Rattle.aprs_transmissions.proofs.Rows.{IsBefore, place_means}
use Rattle.aprs_transmissions.proofs.RunRows.{book_of_nothing}
use Rattle.aprs_transmissions.proofs.Soundness.{witnessed, sound}
use Rattle.aprs_transmissions.proofs.Unions.{merged}

-- ---- the book of rows together

-- the rows of a book, and rows that are each sound: the book of the set and their witnesses
pub joined_rows : (gap : ℕ) (S : List Received) (p rows : List Row) → 0 < gap → AreSoundRows rows
    → BookOf gap S p → BookOf gap (S ++ witnesses rows) (merge gap p rows)
joined_rows gap S p [] pos s b = subst (λ T. BookOf gap T p) (sym (append-nil S)) b
joined_rows gap S p (x ∷ rows) pos s b =
    let own = witnesses_of_row x in
    subst (λ T. BookOf gap T (merge gap (join_row gap p x) rows))
    (append_assoc S (own ++ []) (witnesses rows)
    ∙ ap (λ ws. S ++ (ws ++ witnesses rows)) (append-nil own))
    (joined_rows gap (S ++ witnesses (x ∷ [])) (join_row gap p x) rows pos
    (λ y h. s y (inr h))
    (merged gap S (witnesses (x ∷ [])) p (x ∷ []) b
    (witnessed gap (x ∷ []) pos (push_first gap x (s x (inl refl))))))

pub together : (gap : ℕ) (rows : List Row) → 0 < gap → AreSoundRows rows
    → BookOf gap (witnesses rows) (book_together gap rows)
together gap rows pos s = joined_rows gap [] [] rows pos s (book_of_nothing gap)

pub book_is_sound : (gap : ℕ) → 0 < gap → (rows : List Row) → AreSoundRows rows
    → Sound gap (book_together gap rows)
book_is_sound gap pos rows s =
    sound gap (witnesses rows) (book_together gap rows) (together gap rows pos s)

pub order_is_free : (gap : ℕ) → 0 < gap → (p q : List Row) → AreSoundRows p → SameMembers p q
    → book_together gap p ≡ book_together gap q
order_is_free gap pos p q s e =
    unique gap (witnesses p) (witnesses q) (book_together gap p) (book_together gap q)
    (same_witnesses p q e) (together gap p pos s) (together gap q pos (λ x h. s x ((e x).1 h)))

pub merge_append : (gap : ℕ) (p xs ys : List Row)
    → merge gap p (xs ++ ys) ≡ merge gap (merge gap p xs) ys
merge_append gap p [] ys = refl
merge_append gap p (x ∷ xs) ys = merge_append gap (join_row gap p x) xs ys

-- ---- its first row

pub firsts_join : (gap : ℕ) (first next : Row) (rest : List Row) → compare_near gap first next ≡ Equal
    → book_together gap (first ∷ next ∷ rest) ≡ book_together gap (combine first next ∷ rest)
firsts_join gap first next rest e =
    ap (λ o. merge gap (choose o (first ∷ next ∷ []) (combine first next ∷ [])
    (next ∷ first ∷ [])) rest) e

pub near_is_sound : (gap : ℕ) → 0 < gap → (x y : Row) → IsSoundRow x → IsSoundRow y
    → compare_near gap x y ≡ Equal → IsSoundRow (combine x y)
near_is_sound gap pos x y v w e =
    (subst (λ (rows : List Row). Sound gap rows) (firsts_join gap x y [] e)
    (book_is_sound gap pos (x ∷ y ∷ []) (λ z h. elim h [
      | inl i ↦ subst (λ (r : Row). IsSoundRow r) i v
      | inr k ↦ elim k [ inl i ↦ subst (λ (r : Row). IsSoundRow r) i w | inr j ↦ absurd j ]
    ]))).each (combine x y) (inl refl)

-- a row that is before all others stays as it is
stays : (gap : ℕ) (x : Row) (p rows : List Row) → ((y : Row) → y ∈ rows → IsBefore gap x y)
    → merge gap (x ∷ p) rows ≡ x ∷ merge gap p rows
stays gap x p [] f = refl
stays gap x p (r ∷ rows) f =
    ap (λ o. merge gap (choose o (x ∷ join_row gap p r) (join_row gap p (combine x r))
    (r ∷ x ∷ p)) rows) (place_before gap x r (f r (inl refl)))
    ∙ stays gap x (join_row gap p r) rows (λ y h. f y (inr h))

pub first_stands : (gap : ℕ) (first next : Row) (rest : List Row) → IsSoundRow next
    → IsUpTo row_cmp first next → ((y : Row) → y ∈ rest → IsUpTo row_cmp next y)
    → is_eq (compare_near gap first next) ≡ false
    → book_together gap (first ∷ next ∷ rest) ≡ first ∷ book_together gap (next ∷ rest)
first_stands gap first next rest s u least far =
    stays gap first [] (next ∷ rest) (λ y h. elim h [
      | inl e ↦ subst (λ (z : Row). IsBefore gap first z) e before
      | inr k ↦ before_up_to gap first next y (least y k) before
    ]) where
      by_place : (o : Ordering) → is_eq o ≡ false
          → MatchOrdering o (IsBefore gap first next) (IsNear gap first next)
          (IsBefore gap next first)
          → IsBefore gap first next
      by_place Less e b = b
      by_place Equal e n = absurd (cc)
      by_place Greater e b =
          absurd (cc (
            ap is_gt (row_total.antisymm first next
                ∙ ap ordering_reverse (below gap next first s.in_order b)),
            u,
          ))

      before : IsBefore gap first next
      before = by_place (compare_near gap first next) far (place_means gap first next)
