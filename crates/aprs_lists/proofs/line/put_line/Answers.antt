use Rattle.aprs_lists.proofs.Common.{◌++◌, ◌∷◌, List, ℕ, ap, append-nil, map, Puts-is, cell_text}
use Rattle.aprs_lists.specs.Lines.{tabbed_line}
use Rattle.aprs_lists.proofs.line.put_line.Goals as goal

pub returns : goal.returns
returns g c =
    Puts-is c.put_long_line.ensures
    (ap (λ (l : List (List ℕ)). tabbed_line
    (cell_text c.args.first.now ∷ map cell_text c.args.second.now ++ l))
    (append-nil (map cell_text c.args.third.now)))
