use Rattle.aprs_transmissions.proofs.Common.{◌≡◌, List, [], ◌∷◌, inl, refl, ap, length, arith}
use Rattle.aprs_transmissions.specs.Row.{Row}
use Rattle.aprs_transmissions.specs.Key.{key_of, key_cmp}
use Rattle.aprs_transmissions.specs.Examples.{far_pair, early_row, late_row}
use Rattle.aprs_transmissions.proofs.Books.{one_book}
use Rattle.aprs_transmissions.proofs.Worked.{far_book}
use Rattle.aprs_transmissions.proofs.examples.rows.books_are_whole.Goals as goal

pub returns : goal.returns
unfolding key_of key_cmp
returns c = record {
  book = far_book;
  misses_row = λ b. let n : 1 ≡ 2 =
      ap (λ (rows : List Row). length rows)
      (one_book 30000 far_pair (early_row ∷ []) (early_row ∷ late_row ∷ []) b far_book) in
      omega (arith, n);
  misses_order = λ b. let h = b.ascending.0 early_row (inl refl) in cc h;
}
