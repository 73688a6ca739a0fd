use Rattle.aprs_rows.proofs.Common.{List, Row, subst, All, All-from_recursion}
use Rattle.aprs_rows.specs.Merger.{all_ahead}
use Rattle.aprs_rows.specs.Told.{HasNamesAndFrame}
use Rattle.aprs_rows.proofs.Merger.{told_ahead}
use Rattle.aprs_rows.proofs.store.merger.Merger.told.Goals as goal

pub returns : goal.returns
returns g c =
    let lists = c.self.inside.fronts.items in
    subst (λ (rows : List Row). All HasNamesAndFrame rows) c.self.view_is
    (All-from_recursion HasNamesAndFrame (all_ahead lists) (told_ahead lists c.self.invariant.0))
