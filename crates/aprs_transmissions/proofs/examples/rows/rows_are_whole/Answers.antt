use Rattle.aprs_transmissions.proofs.Common.{inl, inr, refl, sym, arith, rules}
use Rattle.aprs_transmissions.specs.Examples.{rx1, rx2, hi_frame, hi_after_digipeater, reception_at, tied_row}
use Rattle.aprs_transmissions.proofs.Worked.{same_key, tied_book, other_receiver}
use Rattle.aprs_transmissions.proofs.examples.rows.rows_are_whole.Goals as goal

pub returns : goal.returns
returns c = record {
  is_of = record { key = same_key; from = omega arith; to = omega arith };
  misses_later = search rules;
  row = (tied_book.exactly tied_row).0 (inl refl);
  misses_greatest = λ r. let g =
      r.greatest (reception_at 0 rx2 hi_after_digipeater) (inr (inl refl))
      (record { key = same_key; from = omega arith; to = omega arith }) in cc g;
  misses_receiver = λ r. let h =
      (r.receivers rx1).1 (
        reception_at 0 rx1 hi_frame,
        inl refl,
        record { key = sym same_key; from = omega arith; to = omega arith },
        refl,
      ) in
      elim h [ inl e ↦ other_receiver e | inr k ↦ k ];
}
