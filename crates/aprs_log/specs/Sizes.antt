-- How long the parts of a log are, in bytes.
use Rattle.std.specs.Prelude.{ℕ}

-- The most bytes of a line without its LF.
abbrev pub most_line : ℕ
most_line = 8192

-- The most bytes of a receiver's name.
abbrev pub most_name : ℕ
most_name = 16

-- The bytes of a moment to the second: 2026-11-26T18:00:00Z.
abbrev pub seconds_size : ℕ
seconds_size = 20

-- The last second, 2099-12-31T23:59:59Z, in seconds since 1970.
abbrev pub last_second : ℕ
last_second = 4102444799

-- The last millisecond, 2099-12-31T23:59:59.999Z, in milliseconds since 1970.
abbrev pub last_milli : ℕ
last_milli = 4102444799999
