use Rattle.aprs_lists.proofs.Common.{◌<◌, ◌≤◌, ℕ, arith, inl, inr, refl}
use Rattle.aprs_lists.specs.Examples.{IsZeroOrTwenty}
use Rattle.aprs_lists.proofs.examples.net.runs_are_bounded_by_the_gap.Goals as goal

-- neither lies above 0 and below 20
none_between : (n : ℕ) → 0 < n → n ≤ 19 → IsZeroOrTwenty n → ⊥
none_between n a b (inl e) = omega (arith, a, e)
none_between n a b (inr e) = omega (arith, b, e)

none_above : (n : ℕ) → 20 < n → IsZeroOrTwenty n → ⊥
none_above n a (inl e) = omega (arith, a, e)
none_above n a (inr e) = omega (arith, a, e)

none_at_19 : IsZeroOrTwenty 19 → ⊥
none_at_19 h = none_between 19 (omega arith) (omega arith) h

none_at_1 : IsZeroOrTwenty 1 → ⊥
none_at_1 h = none_between 1 (omega arith) (omega arith) h

pub returns : goal.returns
returns c = record {
  apart = record {
    in_order = omega arith;
    at_first = inl refl;
    at_last = inl refl;
    none_before = λ m lt le at. omega (arith, lt);
    none_after = λ m lt le at. none_between m lt le at;
    linked = λ m at ge lt. absurd (omega (arith, lt));
  };
  together = record {
    in_order = omega arith;
    at_first = inl refl;
    at_last = inr refl;
    none_before = λ m lt le at. omega (arith, lt);
    none_after = λ m lt le at. none_above m lt at;
    linked = λ m at ge lt. (20, lt, omega arith, inr refl);
  };
  misses_after = λ h. h.none_after 20 (omega arith) (omega arith) (inr refl);
  misses_before = λ h. h.none_before 0 (omega arith) (omega arith) (inl refl);
  misses_between = λ h.
      let d = h.linked 0 (inl refl) (omega arith) (omega arith) in none_between d.0 d.1 d.2 d.3;
  misses_order = λ h. omega (arith, h.in_order);
  misses_first = λ h. none_at_19 h.at_first;
  misses_last = λ h. none_at_1 h.at_last;
}
