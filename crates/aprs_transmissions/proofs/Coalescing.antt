-- Rows in order, where each joins the one before it that it is near to, are the book of what they
-- are made of; and what rows stand for.
use Rattle.aprs_transmissions.proofs.Common.{◌≡◌, ℕ, ◌≤◌, List, [], ◌∷◌, map, inl, inr, refl, subst, arith, Received}
use Rattle.aprs_transmissions.specs.Lists.{◌∈◌, SameMembers}
use Rattle.aprs_transmissions.specs.Row.{Row}
use Rattle.aprs_transmissions.specs.Book.{BookOf}
use Rattle.aprs_transmissions.specs.Sound.{IsSoundRow, Sound}
use Rattle.aprs_transmissions.specs.Witnesses.{witnesses_of_row, witnesses}
use Rattle.aprs_transmissions.specs.JoinRow.{single, coalesced_rows}
use Rattle.aprs_transmissions.specs.Coalescing.{AreInOrder, StandFor}
use Rattle.aprs_transmissions.proofs.Lists.{in_left, in_right, in_either}
use Rattle.aprs_transmissions.proofs.Made.{Made, Keeps, makes_single}
use Rattle.aprs_transmissions.proofs.Books.{book_of_keeps}
use Rattle.aprs_transmissions.proofs.Soundness.{sound_row, from_witness, has_witness_by}
use Rattle.aprs_transmissions.proofs.Streams.{made_coalesce, ordered_coalesce, in_witnesses}

-- ---- the book of what rows in order are made of

pub keeps_coalesced : (gap : ℕ) (S : List Received) (rows : List Row) → Made gap S rows
    → AreInOrder rows → Keeps gap S (coalesced_rows gap rows)
keeps_coalesced gap S [] m o = record { made = m; ordered = tt }
keeps_coalesced gap S (x ∷ xs) m o = record {
  made = made_coalesce gap S m.0 m.1 x xs m.2 m.3 m.4;
  ordered = ordered_coalesce gap m.0 m.1 x xs m.3 m.4 o.0 o.1;
}

pub made_is_book : (gap : ℕ) (S : List Received) (rows : List Row) → Made gap S rows
    → AreInOrder rows → BookOf gap S (coalesced_rows gap rows)
made_is_book gap S rows m o =
    book_of_keeps gap S (coalesced_rows gap rows) (keeps_coalesced gap S rows m o)

-- ---- what rows stand for

-- the same rows have the same witnesses
pub same_witnesses : (p q : List Row) → SameMembers p q → SameMembers (witnesses p) (witnesses q)
same_witnesses p q e s = (
  λ h. let t = (in_witnesses p s).0 h in (in_witnesses q s).1 (t.0, (e t.0).0 t.1, t.2),
  λ h. let t = (in_witnesses q s).0 h in (in_witnesses p s).1 (t.0, (e t.0).1 t.1, t.2),
)

pub books_stand : (gap : ℕ) (rows : List Row) → Sound gap rows → StandFor rows (witnesses rows)
books_stand gap rows w = record { each = w.each; members = λ s. (λ h. h, λ h. h) }

-- the row of one reception is sound, and has that reception as its only witness
pub single_is_sound : (s : Received) → IsSoundRow (single s)
single_is_sound s = sound_row 1 (s ∷ []) (single s) (makes_single 1 s)

pub only_witness : (s t : Received) → t ∈ witnesses_of_row (single s) → s ≡ t
only_witness s t h =
    from_witness 1 (single s) (single_is_sound s) (omega arith) (λ t. s ≡ t)
    (λ m l u. λ i. record {
      moment = between m l u i;
      receiver = s.receiver;
      frame = s.frame;
    })
    (λ r k. elim k [
      | inl e ↦ λ i. record { moment = s.moment; receiver = e i; frame = s.frame }
      | inr n ↦ absurd n
    ]) t h where
      between : (m : ℕ) → s.moment ≤ m → m ≤ s.moment → s.moment ≡ m
      between m l u = omega (arith, l, u)

pub its_witness : (s : Received) → s ∈ witnesses_of_row (single s)
its_witness s = has_witness_by 1 (single s) (single_is_sound s) (omega arith) s.receiver (inl refl)

pub singles_stand : (S : List Received) → StandFor (map single S) S
singles_stand [] = record { each = λ x h. absurd h; members = λ s. (λ h. h, λ h. h) }
singles_stand (x ∷ S) = let f = singles_stand S in record {
  each = λ y h. elim h [
    | inl e ↦ subst (λ (z : Row). IsSoundRow z) e (single_is_sound x)
    | inr k ↦ f.each y k
  ];
  members = λ s. (
    λ h. elim (in_either s (witnesses_of_row (single x)) (witnesses (map single S)) h) [
      | inl k ↦ inl (only_witness x s k)
      | inr k ↦ inr ((f.members s).0 k)
    ],
    λ h. elim h [
      | inl e ↦ in_left s (witnesses_of_row (single x)) (witnesses (map single S))
          (subst (λ t. t ∈ witnesses_of_row (single x)) e (its_witness x))
      | inr k ↦ in_right s (witnesses_of_row (single x)) (witnesses (map single S))
          ((f.members s).1 k)
    ],
  );
}
