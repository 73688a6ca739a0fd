-- What is new: those rows of a book that another one lacks. Whoever has taken the other one needs
-- only these.
use Rattle.std.specs.Prelude.{◌≡◌, ℕ, nat_eq, List, [], ◌∷◌, ◌++◌, ◌↔◌, Bool, true, false, ◌&&◌, not}
use Rattle.std.specs.List.{filter, flat_map, list_any}
use Rattle.std.specs.Ordering.{is_eq}
use Rattle.aprs_log.specs.Reception.{bytes_cmp, heard_cmp}
use Rattle.aprs_transmissions.specs.JoinRow.{merge}
use Rattle.aprs_transmissions.specs.Lists.{◌∈◌, SameMembers}
use Rattle.aprs_transmissions.specs.Order.{IsBelow}
use Rattle.aprs_transmissions.specs.Row.{Row, row_cmp}
use Rattle.aprs_transmissions.specs.Sound.{AreSoundRows, Sound}
use Rattle.aprs_transmissions.specs.Together.{book_together}
use Rattle.aprs_fold.specs.Folding.{IsFolding}

-- Whether two lists of receivers are equal.
abbrev pub are_same_names : List (List ℕ) → List (List ℕ) → Bool
are_same_names [] [] = true
are_same_names (r ∷ rs) (s ∷ ss) = is_eq (bytes_cmp r s) && are_same_names rs ss
are_same_names rs ss = false

-- Whether two rows are equal in each of their parts.
abbrev pub is_same_row : Row → Row → Bool
is_same_row x y = nat_eq x.first y.first
    && (is_eq (heard_cmp x.greatest y.greatest) && are_same_names x.receivers y.receivers)

-- Whether x is one of the rows.
abbrev pub is_among : List Row → Row → Bool
is_among rows x = list_any (is_same_row x) rows

-- What is new to `old`: those of the rows that `old` hasn't as they are. A row with one receiver
-- more than a row of `old` is another row.
abbrev pub new_rows : List Row → List Row → List Row
new_rows old rows = filter (λ x. not (is_among old x)) rows

-- The last of the rows, or none.
abbrev pub last_of : List Row → List Row
last_of [] = []
last_of (x ∷ []) = x ∷ []
last_of (x ∷ y ∷ rows) = last_of (y ∷ rows)

-- `own` has taken these rows: if they join it once more, it stays as it is.
abbrev pub HasMerged : ℕ → List Row → List Row → Type 0
HasMerged gap own rows = merge gap own rows ≡ own

-- Books that join `own` one after another.
abbrev pub take_all : ℕ → List Row → List (List Row) → List Row
take_all gap own [] = own
take_all gap own (rows ∷ books) = take_all gap (merge gap own rows) books

-- What is new in each of the books to `old` and the books before it.
abbrev pub news_of : ℕ → List Row → List (List Row) → List (List Row)
news_of gap old [] = []
news_of gap old (rows ∷ books) = new_rows old rows ∷ news_of gap (merge gap old rows) books

-- Each of the books has rows that are sound by themselves.
abbrev pub AreSoundBooks : List (List Row) → Type 0
AreSoundBooks books = (rows : List Row) → rows ∈ books → AreSoundRows rows

-- ---- laws

-- The new rows are exactly those of the rows that aren't rows of `old`.
abbrev pub NewAreLacking : Type 0
NewAreLacking = (old rows : List Row) (x : Row)
    → (x ∈ new_rows old rows) ↔ ((x ∈ rows) × (x ∈ old → ⊥))

-- The new rows of a book are a book.
abbrev pub NewAreSound : ℕ → Type 0
NewAreSound gap = (old rows : List Row) → Sound gap rows → Sound gap (new_rows old rows)

-- A book that has taken `old` takes the new rows as it takes all of them: nothing is lost.
abbrev pub NothingIsLost : ℕ → Type 0
NothingIsLost gap = (old rows own : List Row) → AreSoundRows old → AreSoundRows rows
    → Sound gap own → HasMerged gap own old → merge gap own (new_rows old rows) ≡ merge gap own rows

-- A book has taken itself, and what a book has taken it has taken after more rows joined it.
abbrev pub TakenIsKept : ℕ → Type 0
TakenIsKept gap = (old own more : List Row) → AreSoundRows old → Sound gap own → AreSoundRows more
    → HasMerged gap own own
    × (HasMerged gap own old → HasMerged gap (merge gap own more) old)
    × HasMerged gap (merge gap own more) more

-- Of a book nothing is new to itself. Of the book of `old` and other rows nothing is new to `old`
-- exactly if it has taken them.
abbrev pub NoneIsNew : ℕ → Type 0
NoneIsNew gap = (old rows : List Row) → Sound gap old → AreSoundRows rows
    → (new_rows old old ≡ [])
    × ((new_rows old (merge gap old rows) ≡ []) ↔ HasMerged gap old rows)

-- What is new in the book of `old` and other rows is as good as these rows.
abbrev pub MergedIsNoMore : ℕ → Type 0
MergedIsNoMore gap = (old rows own : List Row) → Sound gap old → AreSoundRows rows
    → Sound gap own → HasMerged gap own old
    → merge gap own (new_rows old (merge gap old rows)) ≡ merge gap own rows

-- Of each of several books what was new to `old` and the books before it is sent. Whoever has taken
-- `old`, and then takes what was sent, in any order and with any repeats, has the book that the
-- whole books give.
abbrev pub NewsComeFreely : ℕ → Type 0
NewsComeFreely gap = (old own : List Row) (books came : List (List Row)) → Sound gap old
    → Sound gap own → AreSoundBooks books → HasMerged gap own old
    → SameMembers came (news_of gap old books) → take_all gap own came ≡ take_all gap own books

-- The book of `old` and several other books is made, and of it what is new to `old` is sent.
-- Whoever has taken `old`, and then takes what was sent, among others and in any order and with any
-- repeats, has the book that the several books themselves give in its place.
abbrev pub NewsStandForBooks : ℕ → Type 0
NewsStandForBooks gap = (old own : List Row) (books others came : List (List Row)) → Sound gap old
    → Sound gap own → AreSoundBooks books → AreSoundBooks others → HasMerged gap own old
    → SameMembers came
    (new_rows old (book_together gap (flat_map (λ rows. rows) (old ∷ books))) ∷ others)
    → take_all gap own came ≡ take_all gap own (books ++ others)

-- Of a book the rows `old` are folded, and `rest` isn't yet. The row that is still open, where none
-- of the rest comes up to it, is one of that book exactly if it is the last one of `old`.
abbrev pub LastDecides : ℕ → Type 0
LastDecides gap = (read front written last old rest : List Row) (x : Row)
    → IsFolding gap read front written last → ((y : Row) → y ∈ old → y ∈ read)
    → Sound gap (old ++ rest) → x ∈ last → ((y : Row) → y ∈ rest → IsBelow row_cmp x y)
    → (x ∈ (old ++ rest)) ↔ (x ∈ last_of old)
