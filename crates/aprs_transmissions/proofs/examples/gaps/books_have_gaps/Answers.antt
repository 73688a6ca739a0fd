use Rattle.aprs_transmissions.proofs.Common.{[], ◌∷◌, inl, refl, arith}
use Rattle.aprs_transmissions.specs.Key.{key_of, key_cmp}
use Rattle.aprs_transmissions.specs.Examples.{far_pair, early_row, late_row}
use Rattle.aprs_transmissions.proofs.Soundness.{sound}
use Rattle.aprs_transmissions.proofs.Worked.{same_key, far_book}
use Rattle.aprs_transmissions.proofs.examples.gaps.books_have_gaps.Goals as goal

pub returns : goal.returns
unfolding key_of key_cmp
returns c = record {
  holds = far_book;
  misses_gap = λ b.
      let w = sound 31000 far_pair (early_row ∷ late_row ∷ []) b in
      let h = w.apart.0 late_row (inl refl) same_key in omega (arith, h);
  sound = record {
    range = (omega arith, omega arith);
    sound = sound 30000 far_pair (early_row ∷ late_row ∷ []) far_book;
  };
  misses_sound = λ v.
      let h = v.sound.apart.0 late_row (inl refl) same_key in omega (arith, h);
  misses_range = λ v. let h = v.range.0 in omega (arith, h);
  misses_other = λ e. omega (arith, e);
  misses_joined = λ j. let h = j.right in omega (arith, h);
  widened = refl;
}
