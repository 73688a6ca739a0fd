-- Texts of inputs, for examples.
use Rattle.std.specs.Prelude.{ℕ, List, [], ◌∷◌, ◌++◌, codes}

-- A line without its end.
abbrev pub unended_log : List ℕ
unended_log = codes "2024"

-- The text of a book of no row, whose gap is 5 seconds.
abbrev pub text_of_no_row : List ℕ
text_of_no_row = codes "APRSBOOK 3 5" ++ 10 ∷ (codes "END 0" ++ 10 ∷ [])

-- The first line of `text_of_no_row` alone, with its LF.
abbrev pub cut_book : List ℕ
cut_book = codes "APRSBOOK 3 5" ++ 10 ∷ []
