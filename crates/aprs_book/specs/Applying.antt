-- What applying one step does. No public clause cites this module.
use Rattle.std.specs.Prelude.{◌≡◌, ℕ, List, [], ◌∷◌, ◌++◌, get_or, slice_set}
use Rattle.aprs_log.specs.Reception.{Received}
use Rattle.aprs_transmissions.specs.BookValue.{BookValue}
use Rattle.aprs_book.specs.Replay.{HoldsUnder, empty_book}
use Rattle.aprs_book.specs.declared.steps.Step.{Step}
use Rattle.aprs_book.specs.declared.steps.Step.TheVariants.{Take, Merge}

-- Whatever set the old book holds, the new one holds that set and x.
abbrev pub TakesUnder : ℕ → BookValue → Received → BookValue → Type 0
TakesUnder gap old x new =
    (S : List Received) → HoldsUnder gap S old → HoldsUnder gap (S ++ x ∷ []) new

-- Whatever sets the books hold, `both` holds them together.
abbrev pub MergesUnder : ℕ → BookValue → BookValue → BookValue → Type 0
MergesUnder gap a b both =
    (S T : List Received) → HoldsUnder gap S a → HoldsUnder gap T b → HoldsUnder gap (S ++ T) both

-- The step's first place has a new book, which has taken what the step says, and the others stay.
abbrev pub IsApplied : ℕ → Step → List BookValue → List BookValue → Type 0
IsApplied gap (Take i x) old new =
    (book : BookValue) × TakesUnder gap (get_or old i (empty_book gap)) x book
    × (new ≡ slice_set old i book)
IsApplied gap (Merge i j) old new =
    (book : BookValue)
    × MergesUnder gap (get_or old i (empty_book gap)) (get_or old j (empty_book gap)) book
    × (new ≡ slice_set old i book)

-- All books have this gap.
abbrev pub AllHaveGap : ℕ → List BookValue → Type 0
AllHaveGap gap books = (i : ℕ) → (get_or books i (empty_book gap)).gap ≡ gap
