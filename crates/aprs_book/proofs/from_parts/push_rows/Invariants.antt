use Rattle.aprs_book.proofs.Common.{◌≡◌, take, millis_of, Sound}
use Rattle.aprs_book.proofs.from_parts.push_rows.Given as goal

abbrev pub invariant-loop-place : goal.invariant-loop-place
invariant-loop-place g l =
    (l.book.gap ≡ l.fn.book.gap) × (l.book.rows ≡ take l.place l.rows)
    × Sound (millis_of l.fn.book.gap) (take l.place l.rows)
