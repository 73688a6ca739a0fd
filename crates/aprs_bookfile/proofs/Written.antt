-- Rows that were written can be read.
use Rattle.aprs_bookfile.proofs.Common.{◌≡◌, ℕ, ◌<◌, List, [], ◌∷◌, ◌++◌, length, Option, Result, Ok, Err, inl, refl, sym, ap, ◌∙◌, subst, append_assoc, append-nil, arith, All, flat_map, IsErr, flat_map_more, flat_map-append, All-nil, All-push, Puts, Puts-fails, Puts-is, Puts-none, Puts-then, Millis, BookValue, IsSoundBook, Row, Sound}
use Rattle.aprs_io.specs.declared.device.WriteFault.{WriteFault}
use Rattle.aprs_io.specs.declared.outlet.Outlet.{Outlet}
use Rattle.aprs_transmissions.specs.Lists.{◌∈◌}
use Rattle.aprs_transmissions.proofs.Lists.{in_right}
use Rattle.aprs_bookfile.specs.RowLines.{line_and_lf}
use Rattle.aprs_bookfile.specs.Text.{IsBookRow, IsBookRows, written_version}
use Rattle.aprs_bookfile.proofs.BookRows.{rows_are}

some_of : (x : List ℕ) (xs : List (List ℕ)) → x ∈ xs → 0 < length xs
some_of x [] h = absurd h
some_of x (y ∷ ys) h = omega arith

-- The lines of a prefix of the rows were put, and they are rows of books.
pub record PutSoFar {W : Type 0} (contents : W → Option (List ℕ)) (first now : Outlet W)
    (all rest : List Row) : Type 0 where
  pub prefix : List Row
  pub whole : all ≡ prefix ++ rest
  pub each : All (IsBookRow Millis) prefix
  pub puts : Puts {E = WriteFault} contents (Ok tt) first now (flat_map line_and_lf prefix)

module _ {W : Type 0} {contents : W → Option (List ℕ)} where
  pub PutSoFar-none : (o : Outlet W) (all : List Row) → PutSoFar contents o o all all
  PutSoFar-none o all = record {
    prefix = [];
    whole = refl;
    each = All-nil (IsBookRow Millis);
    puts = Puts-none o;
  }

  module _ {o p : Outlet W} {all rest : List Row} (so : PutSoFar contents o p all rest) where
    module _ (x : Row) (more : List Row) (next : rest ≡ x ∷ more) where
      cut : all ≡ so.prefix ++ x ∷ more
      cut = so.whole ∙ ap (λ r. so.prefix ++ r) next

      -- one row more
      pub PutSoFar-more : (gap : ℕ) {q : Outlet W} → Sound gap all
          → Puts {E = WriteFault} contents (Ok tt) p q (line_and_lf x)
          → (0 < length x.receivers → IsBookRow Millis x) → PutSoFar contents o q all more
      PutSoFar-more gap sound put is =
          let own = sound.each x (subst (λ l. x ∈ l) (sym cut)
          (in_right x so.prefix (x ∷ more) (inl refl))) in
          record {
            prefix = so.prefix ++ x ∷ [];
            whole = cut ∙ sym (append_assoc so.prefix (x ∷ []) more);
            each = All-push (IsBookRow Millis) so.prefix x so.each
                (is (some_of x.greatest.receiver x.receivers own.receiver));
            puts = Puts-is (Puts-then so.puts put) (flat_map_more line_and_lf [] so.prefix x);
          }

      -- a row could not be put
      pub PutSoFar-broken : {q : Outlet W} {e : WriteFault} (r : Result (Unit {0}) WriteFault)
          → IsErr r → Puts contents (Err e) p q (line_and_lf x)
          → Puts contents r o q (flat_map line_and_lf all)
      PutSoFar-broken r is put = Puts-is
          (Puts-then so.puts (Puts-fails r is put (flat_map line_and_lf more)))
          (sym (ap (flat_map line_and_lf) cut ∙ flat_map-append line_and_lf so.prefix (x ∷ more)))

    module _ (none : rest ≡ []) where
      all_of : so.prefix ≡ all
      all_of = sym (so.whole ∙ ap (λ r. so.prefix ++ r) none ∙ append-nil so.prefix)

      -- all rows were put
      pub PutSoFar-all : Puts {E = WriteFault} contents (Ok tt) o p (flat_map line_and_lf all)
      PutSoFar-all = Puts-is so.puts (ap (flat_map line_and_lf) all_of)

      pub PutSoFar-each : All (IsBookRow Millis) all
      PutSoFar-each = subst (All (IsBookRow Millis)) all_of so.each

-- sound rows, each of which a line can spell, are those of a book
pub book_rows : (book : BookValue) → IsSoundBook book → All (IsBookRow Millis) book.rows
    → IsBookRows (written_version book) book.rows
book_rows book h each = rows_are (written_version book) book.rows h.range h.sound each
