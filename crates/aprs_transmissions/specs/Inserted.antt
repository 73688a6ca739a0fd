-- The rows after one more reception, as code makes them: at most two rows change.
use Rattle.std.specs.Prelude.{◌≡◌, ℕ, min, List, [], ◌∷◌, Bool, true, false, ◌&&◌, not}
use Rattle.std.specs.declared.cmp.Ordering.{Ordering}
use Rattle.aprs_log.specs.Reception.{Received, bytes_cmp}
use Rattle.aprs_transmissions.specs.Lists.{◌∈◌}
use Rattle.aprs_transmissions.specs.Row.{Row}
use Rattle.aprs_transmissions.specs.JoinRow.{choose, add, greater, single, IsNear, combine, compare_near}

-- Where a row lies, seen from a reception: before it, near to it (`Equal`), or after it.
abbrev pub compare_near_to : ℕ → Row → Received → Ordering
compare_near_to gap r s = compare_near gap r (single s)

-- A row with one more reception.
abbrev pub grow_row : Row → Received → Row
grow_row r s = record {
  first = min r.first s.moment;
  receivers = add bytes_cmp s.receiver r.receivers;
  greatest = greater r.greatest s;
}

-- A row r that was grown by s, and the rows after it. If the first of these is near to s too, it is
-- combined with r.
abbrev pub bridge_row : ℕ → Received → Row → List Row → List Row
bridge_row gap s r [] = r ∷ []
bridge_row gap s r (x ∷ xs) =
    choose (compare_near_to gap x s) (r ∷ x ∷ xs) (combine r x ∷ xs) (r ∷ x ∷ xs)

-- The rows with one more reception, in its place among them.
abbrev pub insert_heard : ℕ → Received → List Row → List Row
insert_heard gap s [] = single s ∷ []
insert_heard gap s (r ∷ rows) =
    choose (compare_near_to gap r s) (r ∷ insert_heard gap s rows)
    (bridge_row gap s (grow_row r s) rows)
    (single s ∷ r ∷ rows)

-- Exactly one row is near to s, and it lists the receiver of s: what s changes fits in that row.
pub record FitsInPlace (gap : ℕ) (rows : List Row) (s : Received) : Type 0 where
  pub row : Row
  pub member : row ∈ rows
  pub near : IsNear gap row (single s)
  pub listed : s.receiver ∈ row.receivers
  pub only : (x : Row) → x ∈ rows → IsNear gap x (single s) → x ≡ row

-- Whether the ascending list has this receiver.
abbrev pub is_listed : List ℕ → List (List ℕ) → Bool
is_listed r [] = false
is_listed r (x ∷ xs) = choose (bytes_cmp r x) false true (is_listed r xs)

-- Whether the first of the rows is near to s.
abbrev pub is_near_first : ℕ → Received → List Row → Bool
is_near_first gap s [] = false
is_near_first gap s (x ∷ xs) = choose (compare_near_to gap x s) false true false

-- `FitsInPlace` as a test of sound rows.
abbrev pub has_place_for : ℕ → Received → List Row → Bool
has_place_for gap s [] = false
has_place_for gap s (r ∷ rows) =
    choose (compare_near_to gap r s) (has_place_for gap s rows)
    (is_listed s.receiver r.receivers && not (is_near_first gap s rows)) false
