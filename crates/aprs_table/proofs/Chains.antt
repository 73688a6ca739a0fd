-- Texts that are put one after another.
use Rattle.aprs_table.proofs.Common.{ℕ, List, Option, Result, Ok, Err, ◌++◌, flat_map, map, Puts, Puts-fails, Puts-is, Puts-then}
use Rattle.std.specs.Result.{IsErr}
use Rattle.aprs_io.specs.declared.outlet.Outlet.{Outlet}
use Rattle.aprs_table.specs.Cells.{cell_text, tabbed_cell}
use Rattle.aprs_table.specs.Table.{after_tab}
use Rattle.aprs_table.specs.declared.cell.Cell.{Cell}
use Rattle.aprs_table.proofs.Lines.{tabbed_cells}

-- a text before the next one
infixr 5 ◌before◌
pub ◌before◌ : {W E F : Type 0} {contents : W → Option (List ℕ)} {r : Result (Unit {0}) F}
    {o p q : Outlet W} {x y : List ℕ} → Puts {E = E} contents (Ok tt) o p x
    → Puts contents r p q y → Puts contents r o q (x ++ y)
first before next = Puts-then first next

-- a text that couldn't be put, and what follows it
pub refused : {W E F : Type 0} {contents : W → Option (List ℕ)} {r : Result (Unit {0}) F} {e : E}
    {o p : Outlet W} {x : List ℕ} → IsErr r → Puts contents (Err e) o p x → (y : List ℕ)
    → Puts contents r o p (x ++ y)
refused {r} is put y = Puts-fails r is put y

-- the texts of cells, each after a tab
pub cells_put : {W E : Type 0} {contents : W → Option (List ℕ)} {r : Result (Unit {0}) E}
    {o p : Outlet W} (xs : List Cell) → Puts contents r o p (flat_map tabbed_cell xs)
    → Puts contents r o p (flat_map after_tab (map cell_text xs))
cells_put xs put = Puts-is put (tabbed_cells xs)
