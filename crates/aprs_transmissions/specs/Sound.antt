-- Rows that some set of receptions has, judged from the rows alone.
use Rattle.std.specs.Prelude.{◌≡◌, ℕ, ◌+◌, ◌<◌, ◌≤◌, List}
use Rattle.aprs_log.specs.Reception.{bytes_cmp}
use Rattle.aprs_transmissions.specs.Lists.{◌∈◌, IfLast, Ordered}
use Rattle.aprs_transmissions.specs.Order.{IsBelow, IsUpTo}
use Rattle.aprs_transmissions.specs.Row.{Row, row_key, last_moment, row_cmp}

-- A row is sound by itself: its first moment isn't after its last, its receivers ascend, and that
-- of its greatest reception is among them, the last of them where all was heard at one moment.
pub record IsSoundRow (x : Row) : Type 0 where
  pub in_order : x.first ≤ last_moment x
  pub ascending : Ordered (IsBelow bytes_cmp) x.receivers
  pub receiver : x.greatest.receiver ∈ x.receivers
  pub single : x.first ≡ last_moment x
      → (r : List ℕ) → r ∈ x.receivers → IsUpTo bytes_cmp r x.greatest.receiver

-- Each of the rows is sound by itself.
abbrev pub AreSoundRows : List Row → Type 0
AreSoundRows rows = (x : Row) → x ∈ rows → IsSoundRow x

-- Where the keys are equal, y begins more than `gap` milliseconds after x ends.
abbrev pub IsFar : ℕ → Row → Row → Type 0
IsFar gap x y = row_key x ≡ row_key y → last_moment x + gap < y.first

-- The rows ascend, rows of one key are far from each other, and each is sound by itself.
pub record Sound (gap : ℕ) (rows : List Row) : Type 0 where
  pub ascending : Ordered (IsBelow row_cmp) rows
  pub apart : Ordered (IsFar gap) rows
  pub each : (x : Row) → x ∈ rows → IsSoundRow x

-- x comes after the row `last` in the order of rows, and far from it.
abbrev pub FollowsFar : ℕ → Row → Row → Type 0
FollowsFar gap x last = IsBelow row_cmp last x × IsFar gap last x

-- x may follow the rows: it is sound by itself, and, if there are rows, comes after the last of
-- them, far from it.
pub record IsNext (gap : ℕ) (rows : List Row) (x : Row) : Type 0 where
  pub own : IsSoundRow x
  pub after : IfLast rows (FollowsFar gap x)
