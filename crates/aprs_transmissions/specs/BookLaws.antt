-- What holds of the books of sets, under each gap.
use Rattle.std.specs.Prelude.{◌≡◌, ℕ, List, [], ◌++◌, ◌↔◌}
use Rattle.aprs_log.specs.Reception.{Received}
use Rattle.aprs_transmissions.specs.Lists.{◌∈◌, SameMembers}
use Rattle.aprs_transmissions.specs.Key.{Key}
use Rattle.aprs_transmissions.specs.Run.{Run}
use Rattle.aprs_transmissions.specs.Row.{Row, row_key, last_moment}
use Rattle.aprs_transmissions.specs.Book.{BookOf}
use Rattle.aprs_transmissions.specs.Sound.{Sound}
use Rattle.aprs_transmissions.specs.Witnesses.{witnesses}

-- Each set has a book.
abbrev pub EachSetHasBook : ℕ → Type 0
EachSetHasBook gap = (S : List Received) → (p : List Row) × BookOf gap S p

-- Sets with the same members have one book.
abbrev pub MembersDecideBook : ℕ → Type 0
MembersDecideBook gap =
    (S T : List Received) (p q : List Row) → SameMembers S T → BookOf gap S p → BookOf gap T q
    → p ≡ q

-- Only the empty set has a book without rows.
abbrev pub EmptyBookIsOfNothing : ℕ → Type 0
EmptyBookIsOfNothing gap = (S : List Received) → BookOf gap S [] ↔ (S ≡ [])

-- A book of a set is sound.
abbrev pub BooksAreSound : ℕ → Type 0
BooksAreSound gap = (S : List Received) (p : List Row) → BookOf gap S p → Sound gap p

-- Rows are sound exactly if they are the book of some set.
abbrev pub SoundRowsAreBooks : ℕ → Type 0
SoundRowsAreBooks gap = (p : List Row) → Sound gap p ↔ ((S : List Received) × BookOf gap S p)

-- Sound rows are the book of their witnesses.
abbrev pub WitnessesHaveBook : ℕ → Type 0
WitnessesHaveBook gap = (p : List Row) → Sound gap p → BookOf gap (witnesses p) p

-- Where S and S' have one book, and T and T' have one, the unions of S and T and of S' and T' have
-- one.
abbrev pub BooksDecideUnion : ℕ → Type 0
BooksDecideUnion gap =
    (S S' T T' : List Received) (p q c : List Row)
    → BookOf gap S p → BookOf gap S' p → BookOf gap T q → BookOf gap T' q
    → BookOf gap (S ++ T) c → BookOf gap (S' ++ T') c

-- The union has the joined value of the books.
abbrev pub UnionIsJoined : ℕ → Type 0
UnionIsJoined gap =
    (S T : List Received) (a b c : List Row) → BookOf gap S a → BookOf gap T b
    → BookOf gap (S ++ T) c ↔ BookOf gap (witnesses a ++ witnesses b) c

-- The row has this key, this first and this last moment.
pub record IsRowAt (key : Key) (first last : ℕ) (x : Row) : Type 0 where
  pub key_of_row : row_key x ≡ key
  pub first_of_row : x.first ≡ first
  pub last_of_row : last_moment x ≡ last

-- Each transmission in S has exactly one of the rows, and each row is of a transmission.
pub record HasOneRowEach (gap : ℕ) (S : List Received) (rows : List Row) : Type 0 where
  pub some : (k : Key) (a b : ℕ) → Run gap S k a b → (x : Row) × (x ∈ rows) × IsRowAt k a b x
  pub only : (k : Key) (a b : ℕ) (x y : Row) → x ∈ rows → y ∈ rows
      → IsRowAt k a b x → IsRowAt k a b y → x ≡ y
  pub run : (x : Row) → x ∈ rows → Run gap S (row_key x) x.first (last_moment x)

-- In a book each transmission of its set has exactly one row.
abbrev pub RunsHaveOneRowEach : ℕ → Type 0
RunsHaveOneRowEach gap =
    (S : List Received) (rows : List Row) → BookOf gap S rows → HasOneRowEach gap S rows
