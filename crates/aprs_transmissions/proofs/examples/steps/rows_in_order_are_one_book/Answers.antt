use Rattle.aprs_transmissions.proofs.Common.{◌≡◌, ℕ, List, [], ◌∷◌, inl, inr, refl, ap, arith, Received}
use Rattle.aprs_transmissions.specs.Order.{IsUpTo}
use Rattle.aprs_transmissions.specs.Key.{key_of, key_cmp}
use Rattle.aprs_transmissions.specs.Row.{Row, row_cmp}
use Rattle.aprs_transmissions.specs.Examples.{by_rx1, early, early_row, late_row, row_at}
use Rattle.aprs_transmissions.proofs.Coalescing.{singles_stand}
use Rattle.aprs_transmissions.proofs.Lists.{each_of}
use Rattle.aprs_transmissions.proofs.examples.steps.rows_in_order_are_one_book.Goals as goal

-- the first moments of rows
abbrev firsts : List Row → List ℕ
firsts [] = []
firsts (x ∷ xs) = x.first ∷ firsts xs

-- the first of them
abbrev least : List ℕ → ℕ
least [] = 0
least (n ∷ ns) = n

pub returns : goal.returns
unfolding key_of key_cmp
returns c = record {
  in_order = (
    each_of (IsUpTo row_cmp early_row) (row_at 0 ∷ late_row ∷ []) (refl, (refl, tt)),
    (each_of (IsUpTo row_cmp (row_at 0)) (late_row ∷ []) (refl, tt), (λ y h. absurd h, tt)),
  );
  misses_later_first = λ o. let h = o.0 early_row (inl refl) in cc h;
  inside = refl;
  tied = refl;
  misses_order = λ e.
      let n : 30001 ≡ 0 = ap (λ (rows : List Row). least (firsts rows)) e in
      omega (arith, n);
  stands = singles_stand (early ∷ []);
  misses_witness = λ f. elim ((f.members (by_rx1 0)).0 (inl refl)) [
    | inl e ↦ let n : 1 ≡ 0 = ap (λ (s : Received). s.moment) e in omega (arith, n)
    | inr k ↦ k
  ];
}
