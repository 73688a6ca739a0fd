-- The most that neighbours of a transmission are apart, in seconds. Moments are in milliseconds.
use Rattle.std.specs.Prelude.{ℕ, ◌*◌, ◌<◌, ◌≤◌}

-- The gap of a book for which no other was chosen: 30 seconds.
abbrev pub standard_gap : ℕ
standard_gap = 30

-- The greatest gap that a book can have: an hour.
abbrev pub greatest_gap : ℕ
greatest_gap = 3600

-- A gap that a book can have: 1 second to an hour.
abbrev pub IsGap : ℕ → Type 0
IsGap gap = (0 < gap) × (gap ≤ greatest_gap)

-- The gap in milliseconds: neighbours at most this far apart are of one transmission.
abbrev pub millis_of : ℕ → ℕ
millis_of gap = gap * 1000
