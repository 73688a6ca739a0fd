-- Books under another gap.
use Rattle.aprs_transmissions.proofs.Common.{◌≡◌, ℕ, ◌<◌, ◌≤◌, List, [], ◌∷◌, ◌++◌, ap, arith, is_gt, Received}
use Rattle.aprs_transmissions.specs.Order.{IsBelow, IsUpTo}
use Rattle.aprs_transmissions.specs.Row.{Row, row_cmp}
use Rattle.aprs_transmissions.specs.Book.{BookOf}
use Rattle.aprs_transmissions.specs.Sound.{Sound}
use Rattle.aprs_transmissions.specs.Witnesses.{witnesses}
use Rattle.aprs_transmissions.specs.Joining.{Joined}
use Rattle.aprs_transmissions.specs.Widening.{widened_rows}
use Rattle.aprs_transmissions.proofs.Lists.{ordered_weaker}
use Rattle.aprs_transmissions.proofs.Rows.{Makes}
use Rattle.aprs_transmissions.proofs.Made.{Made}
use Rattle.aprs_transmissions.proofs.Books.{keeps_of_book, one_book}
use Rattle.aprs_transmissions.proofs.Soundness.{sound, witnessed}
use Rattle.aprs_transmissions.proofs.Coalescing.{made_is_book}
use Rattle.aprs_transmissions.proofs.RunRows.{union_is_joined}

-- what is linked under a gap is linked under a greater one
makes_wider : (g h : ℕ) (X : List Received) (x : Row) → g ≤ h → Makes g X x → Makes h X x
makes_wider g h X x l m = record {
  own = m.own;
  at_first = m.at_first;
  linked = λ n a b. let t = m.linked n a b in (t.0, t.1, t.2, omega (arith, l, t.3));
  ascending = m.ascending;
  receivers = m.receivers;
  member = m.member;
  greatest = m.greatest;
}

made_wider : (g h : ℕ) (S : List Received) (rows : List Row) → g ≤ h → Made g S rows → Made h S rows
made_wider g h S [] l m = m
made_wider g h S (x ∷ xs) l m =
    (m.0, m.1, m.2, makes_wider g h m.0 x l m.3, made_wider g h m.1 xs l m.4)

pub widens_book : (g h : ℕ) (S : List Received) (rows : List Row) → g ≤ h → BookOf g S rows
    → BookOf h S (widened_rows h rows)
widens_book g h S rows l b =
    made_is_book h S rows (made_wider g h S rows l (keeps_of_book g S rows b).made)
    (ordered_weaker (IsBelow row_cmp) (IsUpTo row_cmp) rows (λ x y hx hy e. ap is_gt e)
    b.ascending)

-- sound rows are the book of their witnesses
pub widens_witnesses : (g h : ℕ) (rows : List Row) → 0 < g → g ≤ h → Sound g rows
    → BookOf h (witnesses rows) (widened_rows h rows)
widens_witnesses g h rows pos l w = widens_book g h (witnesses rows) rows l (witnessed g rows pos w)

pub widened_sound : (g h : ℕ) (rows : List Row) → 0 < g → g ≤ h → Sound g rows
    → Sound h (widened_rows h rows)
widened_sound g h rows pos l w = sound h (witnesses rows) (widened_rows h rows)
    (widens_witnesses g h rows pos l w)

pub keeps_under_own_gap : (gap : ℕ) (rows : List Row) → 0 < gap → Sound gap rows
    → widened_rows gap rows ≡ rows
keeps_under_own_gap gap rows pos w =
    one_book gap (witnesses rows) (widened_rows gap rows) rows
    (widens_witnesses gap gap rows pos (omega arith) w) (witnessed gap rows pos w)

pub widens_in_steps : (g h k : ℕ) (rows : List Row) → 0 < g → g ≤ h → h ≤ k → Sound g rows
    → widened_rows k (widened_rows h rows) ≡ widened_rows k rows
widens_in_steps g h k rows pos l m w =
    one_book k (witnesses rows) (widened_rows k (widened_rows h rows)) (widened_rows k rows)
    (widens_book h k (witnesses rows) (widened_rows h rows) m (widens_witnesses g h rows pos l w))
    (widens_witnesses g k rows pos (omega arith) w)

pub widens_joined : (g h : ℕ) (a b c : List Row) → 0 < g → g ≤ h → Sound g a → Sound g b
    → Joined g a b c → Joined h (widened_rows h a) (widened_rows h b) (widened_rows h c)
widens_joined g h a b c pos l v w j =
    (union_is_joined h (omega arith) (witnesses a) (witnesses b) (widened_rows h a)
    (widened_rows h b)
    (widened_rows h c)
    (widens_witnesses g h a pos l v) (widens_witnesses g h b pos l w)).0
    (widens_book g h (witnesses a ++ witnesses b) c l j)
