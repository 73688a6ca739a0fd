-- Inputs that stand for one set have one book.
use Rattle.aprs_runs.proofs.Common.{◌≡◌, ℕ, List, [], ◌∷◌, ◌++◌, sym, ap, ◌∙◌, subst, Received, BookOf, millis_of, merge, SameMembers, Row, book_carries, one_book, turn, unique, exists, merged, book_text, Three}
use Rattle.aprs_io.specs.declared.input.InputEnd.{InputEnd}
use Rattle.aprs_runs.specs.Inputs.{GivesSet}
use Rattle.aprs_runs.specs.Merge.{IsBookOfAll, IsTextOfBook}
use Rattle.aprs_runs.specs.Several.{GiveUnion, GotOf}
use Rattle.aprs_runs.proofs.Sets.{set_book}

-- two sets with one book
pub record ShareBook (gap : ℕ) (S T : List Received) : Type 0 where
  pub rows : List Row
  pub first : BookOf (millis_of gap) S rows
  pub second : BookOf (millis_of gap) T rows

of_one : (gap : ℕ) (t : List ℕ) (c : InputEnd) (S T : List Received) → GivesSet gap t c S
    → GivesSet gap t c T → ShareBook gap S T
of_one gap t c S T p q =
    let book = exists (millis_of gap) S in
    record { rows = book.0; first = book.1; second = set_book gap t c T S book.0 q p book.1 }

of_all : (limit gap : ℕ) (gots : List (GotOf limit)) (S T : List Received) → GiveUnion gap gots S
    → GiveUnion gap gots T → ShareBook gap S T
of_all limit gap [] S T p q =
    let book = exists (millis_of gap) [] in
    record {
      rows = book.0;
      first = subst (λ U. BookOf (millis_of gap) U book.0) (sym p) book.1;
      second = subst (λ U. BookOf (millis_of gap) U book.0) (sym q) book.1;
    }
of_all limit gap (g ∷ gots) S T p q =
    let one = of_one gap g.text g.ending p.0 q.0 p.2 q.2 in
    let others = of_all limit gap gots p.1 q.1 p.3 q.3 in
    let rows = merge (millis_of gap) one.rows others.rows in
    record {
      rows = rows;
      first = book_carries (millis_of gap) (p.0 ++ p.1) S rows (turn S (p.0 ++ p.1) p.4)
          (merged (millis_of gap) p.0 p.1 one.rows others.rows one.first others.first);
      second = book_carries (millis_of gap) (q.0 ++ q.1) T rows (turn T (q.0 ++ q.1) q.4)
          (merged (millis_of gap) q.0 q.1 one.rows others.rows one.second others.second);
    }

pub book_of_union : (gap limit : ℕ) (gots : List (GotOf limit)) (S : List Received) (rows : List Row)
    → GiveUnion gap gots S → IsBookOfAll gap rows gots → BookOf (millis_of gap) S rows
book_of_union gap limit gots S rows gives book =
    let shared = of_all limit gap gots S book.0 gives book.1 in
    subst (λ (r : List Row). BookOf (millis_of gap) S r)
    (one_book (millis_of gap) book.0 shared.rows rows shared.second book.2) shared.first

pub one_merge : (gap limit most : ℕ) (gots : List (GotOf limit)) (others : List (GotOf most))
    (S T : List Received) (rows more : List Row) (text other : List ℕ) → GiveUnion gap gots S
    → GiveUnion gap others T → SameMembers S T → IsBookOfAll gap rows gots
    → IsBookOfAll gap more others → IsTextOfBook gap S text → IsTextOfBook gap T other
    → (rows ≡ more) × (text ≡ other)
one_merge gap limit most gots others S T rows more text other first second same book too p q = (
  unique (millis_of gap) S T rows more same (book_of_union gap limit gots S rows first book)
      (book_of_union gap most others T more second too),
  p.text_is ∙ ap (λ (r : List Row). book_text (Three gap) r)
      (unique (millis_of gap) S T p.rows q.rows same p.book q.book) ∙ sym q.text_is,
)
