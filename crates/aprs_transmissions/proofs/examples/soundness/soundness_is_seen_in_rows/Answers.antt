use Rattle.aprs_transmissions.proofs.Common.{[], ◌∷◌, inl, inr, refl, arith, rules}
use Rattle.aprs_transmissions.specs.Examples.{rx1, rx2, hi_frame, reception_at, example_row, early_row, late_row, close_row, far_pair}
use Rattle.aprs_transmissions.proofs.Soundness.{sound}
use Rattle.aprs_transmissions.proofs.Pushes.{next_of_sound}
use Rattle.aprs_transmissions.proofs.Worked.{same_key, far_book}
use Rattle.aprs_transmissions.proofs.examples.soundness.soundness_is_seen_in_rows.Goals as goal

pub returns : goal.returns
returns c = record {
  sound = search rules;
  misses_greatest = λ w. let h =
      (w.each (example_row 1 (rx1 ∷ rx2 ∷ []) (reception_at 1 rx1 hi_frame)) (inl refl)).single refl rx2
      (inr (inl refl)) in cc h;
  misses_apart = λ w. let h = w.apart.0 close_row (inl refl) same_key in
      omega (arith, h);
  misses_receivers = λ w. let h =
      (w.each (example_row 0 (rx2 ∷ rx1 ∷ []) (reception_at 1 rx1 hi_frame)) (inl refl)).ascending.0 rx1
      (inl refl) in cc h;
  next = next_of_sound 30000 (early_row ∷ []) late_row
      (sound 30000 far_pair (early_row ∷ late_row ∷ []) far_book);
  misses_near_next = λ n. let h = n.after.1 same_key in
      omega (arith, h);
}
