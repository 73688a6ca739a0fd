-- The moments at which something was heard, by the rows of a book. Here the property of a key is
-- that it passes a test, and only receptions and rows of such keys count.
use Rattle.std.specs.Prelude.{ℕ, Bool, List, ◌↔◌}
use Rattle.aprs_log.specs.Reception.{Received}
use Rattle.aprs_transmissions.specs.Key.{Key}
use Rattle.aprs_transmissions.specs.Row.{Row}
use Rattle.aprs_transmissions.specs.Book.{BookOf}
use Rattle.aprs_transmissions.specs.BestLaws.{Passes}
use Rattle.aprs_transmissions.specs.Spans.{IsFirstMoment, IsLastMoment, IsLeastFirst, IsGreatestLast}

-- The least moment of a set's receptions is the least first moment of its book's rows, both of keys
-- that pass the test.
abbrev pub RowsTellFirstMoment : Type 0
RowsTellFirstMoment =
    (gap : ℕ) (test : Key → Bool) (S : List Received) (rows : List Row) (m : ℕ) → BookOf gap S rows
    → IsFirstMoment S (Passes test) m ↔ IsLeastFirst rows (Passes test) m

-- The greatest moment of a set's receptions is the greatest last moment of its book's rows, both of
-- keys that pass the test.
abbrev pub RowsTellLastMoment : Type 0
RowsTellLastMoment =
    (gap : ℕ) (test : Key → Bool) (S : List Received) (rows : List Row) (m : ℕ) → BookOf gap S rows
    → IsLastMoment S (Passes test) m ↔ IsGreatestLast rows (Passes test) m
