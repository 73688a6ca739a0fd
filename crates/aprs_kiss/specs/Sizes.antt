-- How long a frame may be.
use Rattle.std.specs.Prelude.{ℕ}

-- The most bytes between two frame ends once escapes are undone, the type byte among them.
abbrev pub most_bytes : ℕ
most_bytes = 1024
