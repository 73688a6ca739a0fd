-- Runs and rows of one set belong together one by one.
use Rattle.aprs_transmissions.proofs.Common.{◌≡◌, ℕ, ◌<◌, List, [], ◌∷◌, ◌++◌, ◌↔◌, inl, sym, refl, ◌∙◌, subst, arith, Received}
use Rattle.aprs_transmissions.specs.Lists.{◌∈◌}
use Rattle.aprs_transmissions.specs.Key.{Key}
use Rattle.aprs_transmissions.specs.Run.{Run}
use Rattle.aprs_transmissions.specs.Row.{Row, row_key, last_moment}
use Rattle.aprs_transmissions.specs.Book.{BookOf}
use Rattle.aprs_transmissions.specs.Sound.{Sound}
use Rattle.aprs_transmissions.specs.Witnesses.{witnesses}
use Rattle.aprs_transmissions.specs.BookLaws.{IsRowAt, HasOneRowEach}
use Rattle.aprs_transmissions.proofs.Books.{runs_same, rows_same, book_of_keeps, book_carries}
use Rattle.aprs_transmissions.proofs.Soundness.{sound, witnessed}
use Rattle.aprs_transmissions.proofs.Unions.{around, congruence}
use Rattle.aprs_transmissions.proofs.Views.{a_row}

pub one_row_each : (gap : ℕ) (S : List Received) (rows : List Row) → BookOf gap S rows
    → HasOneRowEach gap S rows
one_row_each gap S rows b =
    record { some = some; only = only; run = λ x h. ((b.exactly x).0 h).run } where
      some : (k : Key) (f l : ℕ) → Run gap S k f l → (x : Row) × (x ∈ rows) × IsRowAt k f l x
      some k f l r =
          let h = r.at_first in
          let t = a_row gap S rows b h.0 h.1 in
          let e : row_key t.0 ≡ k = sym t.2.key ∙ h.2 in
          let ends =
          runs_same gap S k f l t.0.first (last_moment t.0) f r
          (subst (λ (q : Key). Run gap S q t.0.first (last_moment t.0)) e t.3.run)
          (omega arith) r.in_order (omega (arith, h.3, t.2.from)) (omega (arith, h.3, t.2.to)) in
          (t.0, t.1, record { key_of_row = e; first_of_row = sym ends.0; last_of_row = sym ends.1 })

      only : (k : Key) (f l : ℕ) (x y : Row) → x ∈ rows → y ∈ rows → IsRowAt k f l x
          → IsRowAt k f l y
          → x ≡ y
      only k f l x y hx hy ix iy =
          let p = (b.exactly x).0 hx in
          let q = (b.exactly y).0 hy in
          rows_same gap S x y x.greatest p q
          (record { key = refl; from = p.run.in_order; to = omega arith })
          (record {
            key = ix.key_of_row ∙ sym iy.key_of_row;
            from = omega (arith, p.run.in_order, ix.first_of_row, iy.first_of_row);
            to = omega (arith, ix.last_of_row, iy.last_of_row);
          })

pub book_of_nothing : (gap : ℕ) → BookOf gap [] []
book_of_nothing gap = book_of_keeps gap [] [] (record { made = λ s h. h; ordered = tt })

pub empty_book : (gap : ℕ) (S : List Received) → BookOf gap S [] ↔ (S ≡ [])
empty_book gap S = (
  λ b. none S b,
  λ e. subst (λ (T : List Received). BookOf gap T []) (sym e)
      (book_of_nothing gap),
) where
  none : (S : List Received) → BookOf gap S [] → S ≡ []
  none [] b = refl
  none (s ∷ S) b = absurd (a_row gap (s ∷ S) [] b s (inl refl)).1

pub sound_exactly : (gap : ℕ) → 0 < gap → (p : List Row)
    → Sound gap p ↔ ((S : List Received) × BookOf gap S p)
sound_exactly gap pos p = (λ s. (witnesses p, witnessed gap p pos s), λ t. sound gap t.0 p t.1)

-- the book of a union depends on the books alone
pub books_decide_union : (gap : ℕ) (S S' T T' : List Received) (p q c : List Row) → BookOf gap S p
    → BookOf gap S' p → BookOf gap T q → BookOf gap T' q → BookOf gap (S ++ T) c
    → BookOf gap (S' ++ T') c
books_decide_union gap S S' T T' p q c bs bs' bt bt' b =
    book_carries gap (T' ++ S') (S' ++ T') c (around T' S')
    (congruence gap T T' S' q c bt bt'
    (book_carries gap (S' ++ T) (T ++ S') c (around S' T) (congruence gap S S' T p c bs bs' b)))

-- and is the joined value of the books
pub union_is_joined : (gap : ℕ) → 0 < gap → (S T : List Received) (a b c : List Row)
    → BookOf gap S a
    → BookOf gap T b → BookOf gap (S ++ T) c ↔ BookOf gap (witnesses a ++ witnesses b) c
union_is_joined gap pos S T a b c p q =
    let ra = witnessed gap a pos (sound gap S a p) in
    let rb = witnessed gap b pos (sound gap T b q) in (
      λ h. books_decide_union gap S (witnesses a) T (witnesses b) a b c p ra q rb h,
      λ h. books_decide_union gap (witnesses a) S (witnesses b) T a b c ra p rb q h,
    )
