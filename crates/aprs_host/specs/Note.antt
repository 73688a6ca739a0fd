-- What a program says besides what it complains of.
use Rattle.std.specs.Prelude.{ℕ, nat_eq, Bool, List, [], ◌∷◌, ◌++◌, codes}
use Rattle.std.specs.List.{ends_with}

-- The path ends as those of book files do.
abbrev pub is_book_name : List ℕ → Bool
is_book_name path = ends_with nat_eq path (codes ".book")

-- The line which says that the input of this path is empty.
abbrev pub empty_text : List ℕ → List ℕ → List ℕ
empty_text program path =
    (program ++ codes ": ") ++ (path ++ (codes ": is empty" ++ 10 ∷ []))
