-- What a merge writes, which depends on the set of all receptions alone.
use Rattle.std.specs.Prelude.{◌≡◌, ℕ, List}
use Rattle.aprs_log.specs.Reception.{Received}
use Rattle.aprs_transmissions.specs.Book.{BookOf}
use Rattle.aprs_transmissions.specs.Gap.{millis_of}
use Rattle.aprs_transmissions.specs.Lists.{SameMembers}
use Rattle.aprs_transmissions.specs.Row.{Row}
use Rattle.aprs_bookfile.specs.Text.{book_text}
use Rattle.aprs_bookfile.specs.declared.version.Version.TheVariants.{Three}
use Rattle.aprs_runs.specs.Several.{GiveUnion, GotOf}

-- The text is that of the book of S under this gap, in seconds, in version 3.
pub record IsTextOfBook (gap : ℕ) (S : List Received) (text : List ℕ) : Type 0 where
  pub rows : List Row
  pub book : BookOf (millis_of gap) S rows
  pub text_is : text ≡ book_text (Three gap) rows

-- ---- the set alone decides

-- The rows are the book of a set that the inputs stand for together.
abbrev pub IsBookOfAll : {limit : ℕ} → ℕ → List Row → List (GotOf limit) → Type 0
IsBookOfAll gap rows gots =
    (S : List Received) × GiveUnion gap gots S × BookOf (millis_of gap) S rows

-- Whatever set inputs stand for, their book is that of this set.
abbrev pub AreBooksOfUnions : ℕ → Type 0
AreBooksOfUnions gap = (limit : ℕ) (gots : List (GotOf limit)) (S : List Received) (rows : List Row)
    → GiveUnion gap gots S → IsBookOfAll gap rows gots → BookOf (millis_of gap) S rows

-- Two lists of inputs that stand for sets with the same members have one book, and one text that is
-- written of it.
abbrev pub HaveOneMerge : ℕ → Type 0
HaveOneMerge gap = (limit most : ℕ) (gots : List (GotOf limit)) (others : List (GotOf most))
    (S T : List Received) (rows more : List Row) (text other : List ℕ)
    → GiveUnion gap gots S → GiveUnion gap others T → SameMembers S T
    → IsBookOfAll gap rows gots → IsBookOfAll gap more others
    → IsTextOfBook gap S text → IsTextOfBook gap T other → (rows ≡ more) × (text ≡ other)
