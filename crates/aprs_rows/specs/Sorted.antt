-- The text of names that ascend, of equal ones one. No public clause cites this module.
use Rattle.std.specs.Prelude.{ℕ, List, [], ◌∷◌, ◌++◌, if◌then◌else◌}
use Rattle.std.specs.Ordering.{is_ne}
use Rattle.aprs_log.specs.Octet.{octet}
use Rattle.aprs_log.specs.Reception.{bytes_cmp}

-- A comma and the name, unless the name before it is the same.
abbrev pub next_text : List ℕ → List ℕ → List ℕ
next_text before n = if is_ne (bytes_cmp before n) then octet "," ∷ n else []

-- The names after this one, each with a comma before it, of equal ones one.
abbrev pub further : List ℕ → List (List ℕ) → List ℕ
further before [] = []
further before (n ∷ names) = next_text before n ++ further n names

-- The text that follows the first of the names.
abbrev pub after_first : List (List ℕ) → List ℕ
after_first [] = []
after_first (n ∷ names) = further n names

-- The names with commas between, of equal ones one.
abbrev pub ascending_text : List (List ℕ) → List ℕ
ascending_text [] = []
ascending_text (n ∷ names) = n ++ further n names
