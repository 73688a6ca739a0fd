-- The step that books are made with: one more row joins the rows that it is near to.
use Rattle.std.specs.Prelude.{◌≡◌, ℕ, ◌+◌, ◌≤◌, min, List, [], ◌∷◌, if◌then◌else◌, nat_lt}
use Rattle.std.specs.Ordering.{ordering_then}
use Rattle.std.specs.declared.cmp.Ordering.{Ordering}
use Rattle.std.specs.declared.cmp.Ordering.TheVariants.{Less, Equal, Greater}
use Rattle.aprs_log.specs.Reception.{Received, bytes_cmp, heard_cmp}
use Rattle.aprs_transmissions.specs.Key.{key_cmp}
use Rattle.aprs_transmissions.specs.Row.{Row, row_key, last_moment}

-- One of three values, by an ordering.
abbrev pub choose : {A : Type 0} → Ordering → A → A → A → A
choose Less a b c = a
choose Equal a b c = b
choose Greater a b c = c

-- A list in order with x in its place, unless it is there.
abbrev pub add : {X : Type 0} → (X → X → Ordering) → X → List X → List X
add cmp x [] = x ∷ []
add cmp x (y ∷ ys) = choose (cmp x y) (x ∷ y ∷ ys) (y ∷ ys) (y ∷ add cmp x ys)

-- A list in order with all of xs in their places.
abbrev pub union : {X : Type 0} → (X → X → Ordering) → List X → List X → List X
union cmp [] ys = ys
union cmp (x ∷ xs) ys = add cmp x (union cmp xs ys)

-- The greater of two receptions.
abbrev pub greater : Received → Received → Received
greater a b = choose (heard_cmp a b) b a a

-- The row of one reception.
abbrev pub single : Received → Row
single s = record { first = s.moment; receivers = s.receiver ∷ []; greatest = s }

-- x and y have one key, and neither begins more than `gap` milliseconds after the other ends.
pub record IsNear (gap : ℕ) (x y : Row) : Type 0 where
  pub key : row_key x ≡ row_key y
  pub after : y.first ≤ last_moment x + gap
  pub before : x.first ≤ last_moment y + gap

-- Two near rows as one.
abbrev pub combine : Row → Row → Row
combine x y = record {
  first = min x.first y.first;
  receivers = union bytes_cmp x.receivers y.receivers;
  greatest = greater x.greatest y.greatest;
}

-- Of rows of one key: x before y and far from it, near (`Equal`), or after it.
abbrev pub by_moments : ℕ → Row → Row → Ordering
by_moments gap x y =
    if nat_lt (last_moment x + gap) y.first then Less
    else if nat_lt (last_moment y + gap) x.first then Greater else Equal

-- Where x lies, seen from y: before, near or after.
abbrev pub compare_near : ℕ → Row → Row → Ordering
compare_near gap x y = ordering_then (key_cmp (row_key x) (row_key y)) (by_moments gap x y)

-- The rows with one more row, which is one with each row that it is near to.
abbrev pub join_row : ℕ → List Row → Row → List Row
join_row gap [] r = r ∷ []
join_row gap (x ∷ xs) r =
    choose (compare_near gap x r) (x ∷ join_row gap xs r) (join_row gap xs (combine x r))
    (r ∷ x ∷ xs)

-- All rows of the second list join the first.
abbrev pub merge : ℕ → List Row → List Row → List Row
merge gap p [] = p
merge gap p (r ∷ rs) = merge gap (join_row gap p r) rs

-- l and the rows that follow it, where each joins the one before it that it is near to.
abbrev pub coalesce : ℕ → Row → List Row → List Row
coalesce gap l [] = l ∷ []
coalesce gap l (x ∷ xs) =
    choose (compare_near gap l x) (l ∷ coalesce gap x xs) (coalesce gap (combine l x) xs)
    (l ∷ coalesce gap x xs)

-- Rows in order, where each joins the one before it that it is near to.
abbrev pub coalesced_rows : ℕ → List Row → List Row
coalesced_rows gap [] = []
coalesced_rows gap (l ∷ xs) = coalesce gap l xs

-- The plain way to a book: one reception after another.
abbrev pub plain_book : ℕ → List Received → List Row
plain_book gap [] = []
plain_book gap (s ∷ S) = join_row gap (plain_book gap S) (single s)
