-- What a clause reads of a buffer.
use Rattle.std.specs.Prelude.{ℕ, List, slice_range}
use Rattle.aprs_log.specs.declared.reader.window.Window.{Window}

-- The bytes that a buffer holds.
abbrev pub items : Window → List ℕ
items w = slice_range w.bytes w.start w.end
