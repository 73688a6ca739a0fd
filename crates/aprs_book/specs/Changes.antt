-- What taking, merging and widening do to a book.
use Rattle.std.specs.Prelude.{ℕ, List, [], ◌∷◌, ◌++◌}
use Rattle.aprs_log.specs.Reception.{Received}
use Rattle.aprs_transmissions.specs.Row.{Row}
use Rattle.aprs_transmissions.specs.Book.{BookOf}
use Rattle.aprs_transmissions.specs.BookValue.{BookValue, Holds}

-- Whatever set the old rows are the book of, the new are the book of that set and x.
abbrev pub TakesIn : ℕ → List Row → Received → List Row → Type 0
TakesIn gap old x new = (S : List Received) → BookOf gap S old
    → BookOf gap (S ++ x ∷ []) new

-- Whatever sets the books are of, the merged rows are the book of both sets together.
abbrev pub MergesInto : ℕ → List Row → List Row → List Row → Type 0
MergesInto gap a b both = (S T : List Received) → BookOf gap S a → BookOf gap T b
    → BookOf gap (S ++ T) both

-- Whatever set the book holds, the wide one holds.
abbrev pub WidensTo : BookValue → BookValue → Type 0
WidensTo b wide = (S : List Received) → Holds S b → Holds S wide
