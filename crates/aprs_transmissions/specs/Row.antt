-- Rows, each of which stands for one transmission.
use Rattle.std.specs.Prelude.{◌≡◌, ℕ, ◌≤◌, List, ◌↔◌}
use Rattle.std.specs.Ordering.{nat_cmp, on, then_cmp}
use Rattle.std.specs.declared.cmp.Ordering.{Ordering}
use Rattle.aprs_log.specs.Reception.{Received, bytes_cmp, heard_cmp}
use Rattle.aprs_transmissions.specs.Lists.{◌∈◌, Ordered}
use Rattle.aprs_transmissions.specs.Order.{IsBelow, IsUpTo}
use Rattle.aprs_transmissions.specs.Key.{Key, key_of, key_cmp}
use Rattle.aprs_transmissions.specs.Run.{Run}

-- The first moment, in milliseconds; the receivers; and the greatest reception, which has the key
-- and the last moment.
pub record Row : Type 0 where
  pub first : ℕ
  pub receivers : List (List ℕ)
  pub greatest : Received

-- The key of a row: that of its greatest reception.
abbrev pub row_key : Row → Key
row_key x = key_of x.greatest.frame

-- The last moment of a row: that of its greatest reception.
abbrev pub last_moment : Row → ℕ
last_moment x = x.greatest.moment

-- s is of the row's key, at a moment from its first to its last.
pub record IsOf (x : Row) (s : Received) : Type 0 where
  pub key : key_of s.frame ≡ row_key x
  pub from : x.first ≤ s.moment
  pub to : s.moment ≤ last_moment x

-- x is the row of a transmission in S: its receivers are those of the transmission's receptions,
-- ascending and without repeats, and its greatest reception is the greatest of them.
pub record RowOf (gap : ℕ) (S : List Received) (x : Row) : Type 0 where
  pub run : Run gap S (row_key x) x.first (last_moment x)
  pub ascending : Ordered (IsBelow bytes_cmp) x.receivers
  pub receivers : (r : List ℕ)
      → (r ∈ x.receivers) ↔ ((s : Received) × (s ∈ S) × IsOf x s × (s.receiver ≡ r))
  pub member : x.greatest ∈ S
  pub greatest : (s : Received) → s ∈ S → IsOf x s → IsUpTo heard_cmp s x.greatest

-- Rows are ordered by key, then first moment.
abbrev pub row_cmp : Row → Row → Ordering
row_cmp = then_cmp (on row_key key_cmp) (on (λ x. x.first) nat_cmp)
