-- What code does with rows: it keeps what lies before, joins what is near, and keeps what lies
-- after.
use Rattle.aprs_transmissions.proofs.Common.{◌≡◌, ℕ, ◌+◌, ◌<◌, ◌≤◌, List, [], ◌∷◌, ◌++◌, inl, inr, sym, refl, ap, ◌∙◌, subst, arith, if◌then◌else◌, false, nat_lt, nat_tests, tied_itself, nat_cmp, is_gt, MatchOrdering, ordering_then, ordering_reverse, Ordering, Less, Equal, Greater}
use Rattle.aprs_transmissions.specs.Lists.{◌∈◌, Ordered}
use Rattle.aprs_transmissions.specs.Order.{IsUpTo}
use Rattle.aprs_transmissions.specs.Key.{Key, key_cmp}
use Rattle.aprs_transmissions.specs.Row.{Row, row_key, last_moment, row_cmp}
use Rattle.aprs_transmissions.specs.JoinRow.{choose, IsNear, combine, by_moments, compare_near, join_row}
use Rattle.aprs_transmissions.proofs.Lists.{in_right}
use Rattle.aprs_transmissions.proofs.Orders.{compared, key_total, key_exact}
use Rattle.aprs_transmissions.proofs.Rows.{IsBefore, combined_key, combined_last}

pub one_key : (x y : Row) → row_key x ≡ row_key y → key_cmp (row_key x) (row_key y) ≡ Equal
one_key x y e =
    subst (λ (k : Key). key_cmp (row_key x) k ≡ Equal) e (tied_itself key_total (row_key x))

at_key : (gap : ℕ) (x y : Row) (o : Ordering) → key_cmp (row_key x) (row_key y) ≡ o
    → compare_near gap x y ≡ ordering_then o (by_moments gap x y)
at_key gap x y o h = ap (λ (p : Ordering). ordering_then p (by_moments gap x y)) h

pub place_before : (gap : ℕ) (x y : Row) → IsBefore gap x y → compare_near gap x y ≡ Less
place_before gap x y (inl h) = at_key gap x y Less h
place_before gap x y (inr h) =
    at_key gap x y Equal (one_key x y h.0)
    ∙ tests (last_moment x) x.first (last_moment y) y.first h.1 where
      tests : (a b c d : ℕ) → a + gap < d
          → (if nat_lt (a + gap) d then Less else if nat_lt (c + gap) b then Greater else Equal)
          ≡ Less
      tests a b c d l = grind (arith, nat_tests)

pub place_near : (gap : ℕ) (x y : Row) → IsNear gap x y → compare_near gap x y ≡ Equal
place_near gap x y n =
    at_key gap x y Equal (one_key x y n.key)
    ∙ tests (last_moment x) x.first (last_moment y) y.first n.after n.before where
      tests : (a b c d : ℕ) → d ≤ a + gap → b ≤ c + gap
          → (if nat_lt (a + gap) d then Less else if nat_lt (c + gap) b then Greater else Equal)
          ≡ Equal
      tests a b c d l m = grind (arith, nat_tests)

pub place_after : (gap : ℕ) (x y : Row) → x.first ≤ last_moment x → y.first ≤ last_moment y
    → IsBefore gap y x → compare_near gap x y ≡ Greater
place_after gap x y p q (inl h) =
    at_key gap x y Greater (key_total.antisymm (row_key x) (row_key y) ∙ ap ordering_reverse h)
place_after gap x y p q (inr h) =
    at_key gap x y Equal (one_key x y (sym h.0))
    ∙ tests (last_moment x) x.first (last_moment y) y.first p q h.1 where
      tests : (a b c d : ℕ) → b ≤ a → d ≤ c → c + gap < b
          → (if nat_lt (a + gap) d then Less else if nat_lt (c + gap) b then Greater else Equal)
          ≡ Greater
      tests a b c d p q l = grind (arith, nat_tests)

-- r with the rows that it joins
abbrev pub gather : List Row → Row → Row
gather [] r = r
gather (x ∷ xs) r = gather xs (combine x r)

chosen : (gap : ℕ) (x : Row) (xs : List Row) (r : Row) (o : Ordering) → compare_near gap x r ≡ o
    → join_row gap (x ∷ xs) r ≡ choose o (x ∷ join_row gap xs r) (join_row gap xs (combine x r))
    (r ∷ x ∷ xs)
chosen gap x xs r o h =
    ap
    (λ (p : Ordering). choose p (x ∷ join_row gap xs r) (join_row gap xs (combine x r))
    (r ∷ x ∷ xs)) h

-- rows that lie after r stay
pub join_first : (gap : ℕ) (c : List Row) (r : Row) → r.first ≤ last_moment r
    → ((x : Row) → x ∈ c → x.first ≤ last_moment x) → ((x : Row) → x ∈ c → IsBefore gap r x)
    → join_row gap c r ≡ r ∷ c
join_first gap [] r l s f = refl
join_first gap (x ∷ c) r l s f =
    chosen gap x c r Greater (place_after gap x r (s x (inl refl)) l (f x (inl refl)))

pub near_combined : (gap : ℕ) (x r y : Row) → row_key x ≡ row_key r → IsNear gap y r
    → IsNear gap y (combine x r)
near_combined gap x r y e n =
    record {
      key = n.key ∙ sym e
          ∙ sym (combined_key x r e);
      after =
          omega (arith, n.after);
      before = omega (arith, n.before, combined_last x r);
    }

pub combined_before : (gap : ℕ) (x r y : Row) → row_key x ≡ row_key r → IsBefore gap x y
    → IsBefore gap r y → IsBefore gap (combine x r) y
combined_before gap x r y e (inl h) k =
    inl (subst (λ (q : Key). key_cmp q (row_key y) ≡ Less) (sym (combined_key x r e)) h)
combined_before gap x r y e (inr h) (inl k) =
    inl (subst (λ (q : Key). key_cmp q (row_key y) ≡ Less) (sym e ∙ sym (combined_key x r e)) k)
combined_before gap x r y e (inr h) (inr k) =
    inr (combined_key x r e ∙ h.0, omega (arith, h.1, k.1, combined_last x r))

-- rows near to r go into one with it
pub join_near : (gap : ℕ) (n c : List Row) (r : Row) → r.first ≤ last_moment r
    → ((x : Row) → x ∈ (n ++ c) → x.first ≤ last_moment x) → Ordered (IsBefore gap) (n ++ c)
    → ((x : Row) → x ∈ n → IsNear gap x r) → ((x : Row) → x ∈ c → IsBefore gap r x)
    → join_row gap (n ++ c) r ≡ gather n r ∷ c
join_near gap [] c r l s o f g = join_first gap c r l s g
join_near gap (x ∷ n) c r l s o f g =
    let e = f x (inl refl) in
    chosen gap x (n ++ c) r Equal (place_near gap x r e)
    ∙ join_near gap n c (combine x r) (omega (arith, l, s x (inl refl), combined_last x r))
    (λ y h. s y (inr h)) o.1
    (λ y h. near_combined gap x r y e.key (f y (inr h)))
    (λ y h. combined_before gap x r y e.key (o.0 y (in_right y n c h)) (g y h))

-- what is before l is before what is not before l
pub before_up_to : (gap : ℕ) (x l r : Row) → IsUpTo row_cmp l r → IsBefore gap x l
    → IsBefore gap x r
before_up_to gap x l r u b =
    by_case (key_cmp (row_key l) (row_key r))
    (compared key_total key_exact (row_key l) (row_key r)) u b where
      by_case : (o : Ordering)
          → MatchOrdering o (key_cmp (row_key l) (row_key r) ≡ Less) (row_key l ≡ row_key r)
          (key_cmp (row_key r) (row_key l) ≡ Less)
          → is_gt (ordering_then o (nat_cmp l.first r.first)) ≡ false → IsBefore gap x l
          → IsBefore gap x r
      by_case Less h u (inl k) = inl (key_total.trans (row_key x) (row_key l) (row_key r) k h)
      by_case Less h u (inr k) = inl (subst (λ (q : Key). key_cmp q (row_key r) ≡ Less) (sym k.0) h)
      by_case Equal h u (inl k) = inl (subst (λ (q : Key). key_cmp (row_key x) q ≡ Less) h k)
      by_case Equal h u (inr k) = inr (k.0 ∙ h, grind (arith, nat_tests, k.1))
      by_case Greater h u b = cc u
