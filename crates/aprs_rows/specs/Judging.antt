-- Rows of which only the last one is known. No public clause cites this module.
use Rattle.std.specs.Prelude.{List, [], ◌∷◌, Option, None, Some}

-- The list of the one value that is there, or the empty list.
abbrev pub list_of : {X : Type 0} → Option X → List X
list_of None = []
list_of (Some x) = x ∷ []
