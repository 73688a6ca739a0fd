-- Names that were gathered, and the room for texts of them. No public clause cites this module.
use Rattle.std.specs.Prelude.{ℕ, ◌+◌, ◌≤◌, List, All, length}
use Rattle.std.specs.List.{sum_by}
use Rattle.aprs_log.specs.Receiver.{IsName}

-- The names, and for how many bytes more there is room.
pub record GatheredNames : Type 0 where
  pub names : List (List ℕ)
  pub left : ℕ

-- How many bytes the names have with a comma after each.
abbrev pub names_size : List (List ℕ) → ℕ
names_size = sum_by (λ name. length name + 1)

-- They are names, and fit in a room of `room` bytes. There is memory for `count` names, at least
-- half of `room`, and for a text of `size` bytes, at least `room`.
pub record HasRoom (names : List (List ℕ)) (count size room : ℕ) : Type 0 where
  pub each : All IsName names
  pub within : names_size names ≤ room
  pub enough : room ≤ count + count
  pub text : room ≤ size
