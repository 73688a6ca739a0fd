-- Texts in pieces.
use Rattle.std.specs.Prelude.{ℕ, List}
use Rattle.std.specs.List.{slice_split}
use Rattle.aprs_io.specs.Cut.{is_byte}

-- The parts of the text before, between and after the bytes that are `stop`.
abbrev pub pieces : ℕ → List ℕ → List (List ℕ)
pieces stop text = slice_split (is_byte stop) text
