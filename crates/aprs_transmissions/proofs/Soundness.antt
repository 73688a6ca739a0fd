-- Sound rows are what some set has; two sets with one book add alike; joining books.
use Rattle.aprs_transmissions.proofs.Common.{◌≡◌, ℕ, zero, suc, ◌+◌, ◌-◌, ◌<◌, ◌≤◌, List, [], ◌∷◌, map, inl, inr, refl, ap, subst, arith, cases_lt, tied_itself, nat_cmp, ordering_then, is_gt, Ordering, Less, Equal, Greater, Received, bytes_cmp, heard_cmp}
use Rattle.aprs_transmissions.specs.Lists.{◌∈◌, Ordered}
use Rattle.aprs_transmissions.specs.Order.{IsBelow, IsUpTo}
use Rattle.aprs_transmissions.specs.Key.{Key, key_cmp}
use Rattle.aprs_transmissions.specs.Row.{Row, row_key, last_moment, IsOf, row_cmp}
use Rattle.aprs_transmissions.specs.Book.{BookOf}
use Rattle.aprs_transmissions.specs.Sound.{IsSoundRow, IsFar, Sound}
use Rattle.aprs_transmissions.specs.Witnesses.{moments, witness_at, witness_by, witnesses_of_row, witnesses}
use Rattle.aprs_transmissions.specs.JoinRow.{plain_book}
use Rattle.aprs_transmissions.proofs.Lists.{in_left, in_right, in_either, in_map, from_map, ordered_weaker}
use Rattle.aprs_transmissions.proofs.Orders.{not_both, key_total, key_exact, bytes_total, up_to_moment, up_to_receiver, receiver_up_to}
use Rattle.aprs_transmissions.proofs.Rows.{Makes, IsBefore}
use Rattle.aprs_transmissions.proofs.Made.{Made, appended, part_of, span, Keeps, keeps_book}
use Rattle.aprs_transmissions.proofs.Books.{book_of_keeps, keeps_of_book}

-- the sound rows of a book

pub sound_row : (gap : ℕ) (X : List Received) (x : Row) → Makes gap X x → IsSoundRow x
sound_row gap X x m = record {
  in_order = span gap X x m;
  ascending = m.ascending;
  receiver = (m.receivers x.greatest.receiver).1 (x.greatest, m.member, refl);
  single = λ e r h.
      let t = (m.receivers r).0 h in
      let i = m.own t.0 t.1 in
      subst (λ (q : List ℕ). IsUpTo bytes_cmp q x.greatest.receiver) t.2
      (receiver_up_to t.0 x.greatest (omega (arith, e, i.from, i.to)) (m.greatest t.0 t.1));
}

pub sound_of_keeps : (gap : ℕ) (S : List Received) (rows : List Row) → Keeps gap S rows
    → Sound gap rows
sound_of_keeps gap S rows k = record {
  ascending = (book_of_keeps gap S rows k).ascending;
  apart = ordered_weaker (IsBefore gap) (IsFar gap) rows (λ x y hx hy b. far x y b) k.ordered;
  each = λ x h. let p = part_of gap S rows k.made k.ordered x h in sound_row gap p.X x p.makes;
} where
  far : (x y : Row) → IsBefore gap x y → IsFar gap x y
  far x y (inl h) e =
      let r =
      subst (λ (q : Key). key_cmp q (row_key y) ≡ Less) e h in
      absurd (not_both key_total (row_key y) (row_key y) r r)
  far x y (inr h) e = h.1

-- what sound rows stand for

pub in_moments : (m a n : ℕ) → a ≤ m → m < a + n → m ∈ moments a n
in_moments m a zero l u = absurd (omega arith)
in_moments m a (suc n) l u = elim (cases_lt a m) [
  | inl c ↦ inr (in_moments m (a + 1) n (omega arith) (omega arith))
  | inr c ↦ inl (omega arith)
]

pub from_moments : (m a n : ℕ) → m ∈ moments a n → (a ≤ m) × (m < a + n)
from_moments m a zero h = absurd h
from_moments m a (suc n) (inl e) = (omega arith, omega arith)
from_moments m a (suc n) (inr h) =
    let k = from_moments m (a + 1) n h in (omega (arith, k), omega (arith, k))

module _ (gap : ℕ) (x : Row) (w : IsSoundRow x) (pos : 0 < gap) where
  has_witness_at : (m : ℕ) → x.first ≤ m → m ≤ last_moment x → witness_at x m ∈ witnesses_of_row x
  has_witness_at m l u =
      in_left (witness_at x m) (map (witness_at x) (moments x.first (last_moment x - x.first + 1)))
      (map (witness_by x) x.receivers)
      (in_map (witness_at x) m (moments x.first (last_moment x - x.first + 1))
      (in_moments m x.first (last_moment x - x.first + 1) l (omega arith)))

  pub has_witness_by : (r : List ℕ) → r ∈ x.receivers → witness_by x r ∈ witnesses_of_row x
  has_witness_by r h =
      in_right (witness_by x r) (map (witness_at x) (moments x.first (last_moment x - x.first + 1)))
      (map (witness_by x) x.receivers) (in_map (witness_by x) r x.receivers h)

  -- each witness is one of these
  pub from_witness : (P : Received → Type 0) → ((m : ℕ) → x.first ≤ m → m ≤ last_moment x
      → P (witness_at x m))
      → ((r : List ℕ) → r ∈ x.receivers → P (witness_by x r)) → (s : Received)
      → s ∈ witnesses_of_row x
      → P s
  from_witness P f g s h =
      elim
      (in_either s (map (witness_at x) (moments x.first (last_moment x - x.first + 1)))
      (map (witness_by x) x.receivers) h) [
        | inl k ↦ let t = from_map (witness_at x) s (moments x.first
            (last_moment x - x.first + 1)) k in
            let u = from_moments t.0 x.first (last_moment x - x.first + 1) t.1 in
            subst P t.2 (f t.0 u.0 (omega (arith, u, w.in_order)))
        | inr k ↦ let t = from_map (witness_by x) s x.receivers k in subst P t.2 (g t.0 t.1)
      ]

  greatest_witness : (s : Received) → s ∈ witnesses_of_row x → IsUpTo heard_cmp s x.greatest
  greatest_witness = from_witness (λ s. IsUpTo heard_cmp s x.greatest)
      (λ m l u. elim (cases_lt m (last_moment x)) [
        | inl c ↦ up_to_moment (witness_at x m) x.greatest (omega arith)
        | inr c ↦ up_to_receiver (witness_at x m) x.greatest (omega arith)
            (ap is_gt (tied_itself bytes_total x.greatest.receiver)) refl
      ])
      (λ r h. elim (cases_lt x.first (last_moment x)) [
        | inl c ↦ up_to_moment (witness_by x r) x.greatest (omega arith)
        | inr c ↦ let e : x.first ≡ last_moment x =
            omega (arith, w.in_order) in
            up_to_receiver (witness_by x r) x.greatest (omega arith) (w.single e r h) refl
      ])

  pub witnesses_make : Makes gap (witnesses_of_row x) x
  witnesses_make = record {
    own = from_witness (λ s. IsOf x s)
        (λ m l u. record { key = refl; from = l; to = u })
        (λ r h. record { key = refl; from = omega arith; to = w.in_order });
    at_first = (witness_at x x.first, has_witness_at x.first (omega arith) w.in_order, refl);
    linked =
        λ m l u. (
          witness_at x (m + 1),
          has_witness_at (m + 1) (omega arith)
              (omega arith),
          omega arith,
          omega arith,
        );
    ascending = w.ascending;
    receivers = λ r. (
      λ h. (witness_by x r, has_witness_by r h, refl),
      λ t. subst (λ (q : List ℕ). q ∈ x.receivers) t.2
          (from_witness (λ s. s.receiver ∈ x.receivers) (λ m l u. w.receiver) (λ q h. h) t.0 t.1),
    );
    member = has_witness_at (last_moment x) w.in_order (omega arith);
    greatest = greatest_witness;
  }

pub witnesses_made : (gap : ℕ) → 0 < gap → (rows : List Row) → ((x : Row) → x ∈ rows → IsSoundRow x)
    → Made gap (witnesses rows) rows
witnesses_made gap pos [] w = λ s h. h
witnesses_made gap pos (x ∷ xs) w = (
  witnesses_of_row x,
  witnesses xs,
  appended (witnesses_of_row x) (witnesses xs),
  witnesses_make gap x
      (w x (inl refl)) pos,
  witnesses_made gap pos xs (λ y h. w y (inr h)),
)

pub before_of_sound : (gap : ℕ) (x y : Row) → IsBelow row_cmp x y → IsFar gap x y → IsBefore gap x y
before_of_sound gap x y b f = by_case (key_cmp (row_key x) (row_key y)) refl b where
  by_case : (o : Ordering) → key_cmp (row_key x) (row_key y) ≡ o
      → ordering_then o (nat_cmp x.first y.first) ≡ Less → IsBefore gap x y
  by_case Less h k = inl h
  by_case Equal h k = let e = key_exact (row_key x) (row_key y) h in inr (e, f e)
  by_case Greater h k = cc k

pub both : (R Q : Row → Row → Type 0) (xs : List Row) → Ordered R xs → Ordered Q xs
    → Ordered (λ x y. R x y × Q x y) xs
both R Q [] o p = tt
both R Q (x ∷ xs) o p = (λ y h. (o.0 y h, p.0 y h), both R Q xs o.1 p.1)

pub witnesses_keep : (gap : ℕ) → 0 < gap → (rows : List Row) → Sound gap rows
    → Keeps gap (witnesses rows) rows
witnesses_keep gap pos rows w = record {
  made = witnesses_made gap pos rows w.each;
  ordered =
      ordered_weaker (λ x y. IsBelow row_cmp x y × IsFar gap x y) (IsBefore gap) rows
      (λ x y hx hy h. before_of_sound gap x y h.0 h.1)
      (both (IsBelow row_cmp) (IsFar gap) rows w.ascending w.apart);
}

pub sound : (gap : ℕ) (S : List Received) (p : List Row) → BookOf gap S p → Sound gap p
sound gap S p b = sound_of_keeps gap S p (keeps_of_book gap S p b)

pub witnessed : (gap : ℕ) (p : List Row) → 0 < gap → Sound gap p → BookOf gap (witnesses p) p
witnessed gap p pos w = book_of_keeps gap (witnesses p) p (witnesses_keep gap pos p w)

pub exists : (gap : ℕ) (S : List Received) → (p : List Row) × BookOf gap S p
exists gap S = (plain_book gap S, book_of_keeps gap S (plain_book gap S) (keeps_book gap S))
