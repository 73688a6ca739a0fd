-- A line, put in parts.
use Rattle.aprs_lists.proofs.Common.{◌≡◌, ◌∙◌, ℕ, List, [], ◌∷◌, ◌++◌, ap, append-nil, map, Cell, cell_text}
use Rattle.aprs_table.proofs.Lines.{in_line, tabs}
use Rattle.aprs_lists.specs.Lines.{tabbed_line}

pub in_parts : (first : Cell) (second third fourth : List Cell)
    → cell_text first ++ (tabs (map cell_text second) ++ (tabs (map cell_text third)
    ++ (tabs (map cell_text fourth) ++ 10 ∷ [])))
    ≡ tabbed_line (cell_text first ∷ map cell_text second
    ++ (map cell_text third ++ map cell_text fourth))
in_parts first second third fourth =
    let xs = map cell_text second in
    let ys = map cell_text third in
    let zs = map cell_text fourth in
    in_line (cell_text first) (xs ∷ ys ∷ zs ∷ [])
    ∙ ap (λ (l : List (List ℕ)). tabbed_line (cell_text first ∷ xs ++ (ys ++ l))) (append-nil zs)
