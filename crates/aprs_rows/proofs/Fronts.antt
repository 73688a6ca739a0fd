-- Which of several streams has the row that comes first.
use Rattle.aprs_rows.proofs.Common.{◌≡◌, ◌<◌, ◌+◌, ◌∙◌, ℕ, zero, suc, true, false, List, [], ◌∷◌, length, get_or, Option, None, Some, inl, inr, refl, sym, ap, subst, arith, Row, row_cmp, up_to_itself, IsUpTo, is_gt, is_lt, ordering_reverse, Ordering, Less, Equal, Greater}
use Rattle.std.proofs.lemmas.Bool.{cases_lt}
use Rattle.std.proofs.lemmas.Cmp.{upto}
use Rattle.std.specs.Prelude.{is_some}
use Rattle.aprs_transmissions.proofs.Books.{row_total}
use Rattle.aprs_rows.specs.Fronts.{front_at, ComesFirst, NotAfter}

pub NotAfter-itself : (o : Option Row) → NotAfter o o
NotAfter-itself None = tt
NotAfter-itself (Some x) = up_to_itself row_total x

pub NotAfter-then : (a b c : Option Row) → NotAfter a b → NotAfter b c → NotAfter a c
NotAfter-then a b None p q = tt
NotAfter-then None None (Some z) p q = absurd q
NotAfter-then None (Some y) (Some z) p q = absurd p
NotAfter-then (Some x) None (Some z) p q = absurd q
NotAfter-then (Some x) (Some y) (Some z) p q = upto row_total x y z p q

-- ---- the rows of two

pub less_up_to : (x y : Row) (o : Ordering) → o ≡ row_cmp x y → is_lt o ≡ true → IsUpTo row_cmp x y
less_up_to x y Less e lt = ap is_gt (sym e)
less_up_to x y Equal e lt = absurd (let f : false ≡ true = lt in cc)
less_up_to x y Greater e lt = absurd (let f : false ≡ true = lt in cc)

turned : (o : Ordering) → is_lt o ≡ false → is_gt (ordering_reverse o) ≡ false
turned Less e = absurd (let f : true ≡ false = e in cc)
turned Equal e = refl
turned Greater e = refl

pub not_less_up_to : (x y : Row) (o : Ordering) → o ≡ row_cmp x y → is_lt o ≡ false
    → IsUpTo row_cmp y x
not_less_up_to x y o e lt =
    ap is_gt (row_total.antisymm y x) ∙ turned (row_cmp x y) (ap is_lt (sym e) ∙ lt)

pub NotAfter-none : (a b : Option Row) → b ≡ None → NotAfter a b
NotAfter-none a b e = subst (λ (o : Option Row). NotAfter a o) (sym e) tt

pub NotAfter-some : (a b : Option Row) (x y : Row) → a ≡ Some x → b ≡ Some y → IsUpTo row_cmp x y
    → NotAfter a b
NotAfter-some a b x y e f up = subst (λ (o : Option Row). NotAfter o b) (sym e)
    (subst (λ (o : Option Row). NotAfter (Some x) o) (sym f) up)

some_row : (o : Option Row) → is_some o ≡ true → (x : Row) × (o ≡ Some x)
some_row None e = absurd (let f : false ≡ true = e in cc)
some_row (Some x) e = (x, refl)

no_row : (o : Option Row) → is_some o ≡ false → o ≡ None
no_row None e = refl
no_row (Some x) e = absurd (let f : true ≡ false = e in cc)

-- ---- the rows of several

module _ {X : Type 0} (front : X → Option Row) where
  -- the row in front of a stream that is there
  pub front_at-get : (streams : List X) (k : ℕ) (d : X) → k < length streams
      → front_at front streams k ≡ front (get_or streams k d)
  front_at-get [] k d lt = absurd (omega (arith, lt))
  front_at-get (s ∷ streams) zero d lt = refl
  front_at-get (s ∷ streams) (suc k) d lt = front_at-get streams k d (omega (arith, lt))

  -- there is none past the last
  front_at-past : (streams : List X) (k : ℕ) → length streams < k + 1 → front_at front streams k ≡ None
  front_at-past [] k le = refl
  front_at-past (s ∷ streams) zero le = absurd (omega (arith, le))
  front_at-past (s ∷ streams) (suc k) le = front_at-past streams k (omega (arith, le))

  pub row_is : (streams : List X) (k : ℕ) (s : X) → k < length streams → s ≡ get_or streams k s
      → front_at front streams k ≡ front s
  row_is streams k s lt is = front_at-get streams k s lt ∙ ap front (sym is)

  -- of two that are there, the one comes not after the other
  pub not_after_of : (streams : List X) (i k : ℕ) (s t : X) → i < length streams
      → s ≡ get_or streams i s → k < length streams → t ≡ get_or streams k t
      → NotAfter (front s) (front t) → NotAfter (front_at front streams i) (front_at front streams k)
  not_after_of streams i k s t less is lt at h =
      subst (λ (o : Option Row). NotAfter o (front_at front streams k))
      (sym (row_is streams i s less is))
      (subst (λ (o : Option Row). NotAfter (front s) o) (sym (row_is streams k t lt at)) h)

  -- less than all are looked at, or all
  pub least_all : (streams : List X) (first : ℕ)
      → ((k : ℕ) → k < length streams
      → NotAfter (front_at front streams first) (front_at front streams k))
      → (k : ℕ) → NotAfter (front_at front streams first) (front_at front streams k)
  least_all streams first least k = elim (cases_lt k (length streams)) [
    | inl lt ↦ least k lt
    | inr past ↦ NotAfter-none (front_at front streams first) (front_at front streams k)
        (front_at-past streams k (omega (arith, past)))
  ]

  module _ (streams : List X) (first : ℕ) (s : X) (lt : first < length streams)
      (is : s ≡ get_or streams first s)
      (least : (k : ℕ) → NotAfter (front_at front streams first) (front_at front streams k)) where
    -- the one that has a row is the first
    pub first_is : is_some (front s) ≡ true → ComesFirst front streams first
    first_is e = let own = some_row (front s) e in record {
      within = lt;
      row = own.0;
      is = row_is streams first s lt is ∙ own.1;
      least = least;
    }

    -- where it has none, none has
    pub first_none : is_some (front s) ≡ false → (k : ℕ) → front_at front streams k ≡ None
    first_none e k =
        by_row (front_at front streams k)
        (subst (λ (o : Option Row). NotAfter o (front_at front streams k))
        (row_is streams first s lt is ∙ no_row (front s) e) (least k))
      where
        by_row : (o : Option Row) → NotAfter None o → o ≡ None
        by_row None h = refl
        by_row (Some y) h = absurd h
