-- The lines of the tables.
use Rattle.std.specs.Prelude.{ℕ, List, [], ◌∷◌, ◌++◌}
use Rattle.std.specs.List.{join_with_byte}

-- A line: its fields, with a tab between two, and LF.
abbrev pub tabbed_line : List (List ℕ) → List ℕ
tabbed_line fields = join_with_byte 9 fields ++ 10 ∷ []
