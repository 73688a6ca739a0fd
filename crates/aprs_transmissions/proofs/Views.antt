-- What follows of a set from its book: one more reception; the greatest reception whose key has a
-- property.
use Rattle.aprs_transmissions.proofs.Common.{ℕ, ◌<◌, List, [], ◌∷◌, inl, inr, sym, subst, upto, Received, heard_cmp}
use Rattle.aprs_transmissions.specs.Lists.{◌∈◌}
use Rattle.aprs_transmissions.specs.Order.{IsUpTo}
use Rattle.aprs_transmissions.specs.Key.{Key, key_of}
use Rattle.aprs_transmissions.specs.Row.{Row, row_key, IsOf, RowOf}
use Rattle.aprs_transmissions.specs.Book.{BookOf}
use Rattle.aprs_transmissions.specs.Sound.{Sound}
use Rattle.aprs_transmissions.specs.Witnesses.{witnesses}
use Rattle.aprs_transmissions.specs.Joining.{Joined}
use Rattle.aprs_transmissions.specs.Best.{IsBest}
use Rattle.aprs_transmissions.specs.JoinRow.{single, join_row, merge}
use Rattle.aprs_transmissions.proofs.Orders.{heard_total}
use Rattle.aprs_transmissions.proofs.Made.{makes_single, keeps_join, row_of}
use Rattle.aprs_transmissions.proofs.Books.{own_of, book_of_keeps, keeps_of_book}
use Rattle.aprs_transmissions.proofs.Soundness.{witnessed}
use Rattle.aprs_transmissions.proofs.Unions.{merged}

-- one more reception
pub taken_first : (gap : ℕ) (S : List Received) (s : Received) (p : List Row) → BookOf gap S p
    → BookOf gap (s ∷ S) (join_row gap p (single s))
taken_first gap S s p b = book_of_keeps gap (s ∷ S) (join_row gap p (single s))
    (keeps_join gap (s ∷ S) S (s ∷ []) p (single s)
    (λ t. (
      λ h. elim h [
        | inl e ↦ inr
            (inl e)
        | inr k ↦ inl k
      ],
      λ h. elim h [ inl k ↦ inr k | inr k ↦ elim k [ inl e ↦ inl e | inr j ↦ absurd j ] ],
    ))
    (keeps_of_book gap S p b) (makes_single gap s))

-- each reception of S is of a row of its book
pub a_row : (gap : ℕ) (S : List Received) (p : List Row) → BookOf gap S p → (s : Received) → s ∈ S
    → (x : Row) × (x ∈ p) × IsOf x s × RowOf gap S x
a_row gap S p b s h =
    let t =
    row_of gap S p (keeps_of_book gap S p b).made s h in (t.0, t.1, t.2, (b.exactly t.0).0 t.1)

pub best_of_rows : (gap : ℕ) (S : List Received) (p : List Row) (P : Key → Type 0) → BookOf gap S p
    → (x : Row) → x ∈ p → P (row_key x)
    → ((y : Row) → y ∈ p → P (row_key y) → IsUpTo heard_cmp y.greatest x.greatest)
    → IsBest S P x.greatest
best_of_rows gap S p P b x h q up = let r = (b.exactly x).0 h in record {
  member = r.member;
  property = subst P (sym (own_of gap S x r).key) q;
  greatest = λ s m k.
      let t = a_row gap S p b s m in
      upto heard_total s t.0.greatest x.greatest (t.3.greatest s m t.2)
      (up t.0 t.1 (subst P t.2.key k));
}

pub none_of_rows : (gap : ℕ) (S : List Received) (p : List Row) (P : Key → Type 0) → BookOf gap S p
    → ((y : Row) → y ∈ p → P (row_key y) → ⊥) → (s : Received) → s ∈ S → P (key_of s.frame) → ⊥
none_of_rows gap S p P b f s m k = let t = a_row gap S p b s m in f t.0 t.1 (subst P t.2.key k)

-- merging sound rows gives the joined value
pub joined_by_merge : (gap : ℕ) → 0 < gap → (a b : List Row) → Sound gap a → Sound gap b
    → Joined gap a b (merge gap a b)
joined_by_merge gap pos a b v w =
    merged gap (witnesses a) (witnesses b) a b (witnessed gap a pos v) (witnessed gap b pos w)
