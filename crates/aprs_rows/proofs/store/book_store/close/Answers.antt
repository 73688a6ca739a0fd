use Rattle.aprs_rows.proofs.Common.{◌∙◌, ◌∷◌, ◌++◌, [], List, Row, ap}
use Rattle.aprs_rows.proofs.InStore.{closed}
use Rattle.aprs_rows.proofs.store.book_store.close.Goals as goal

pub returns-clause-members : goal.returns-clause-members
returns-clause-members g c =
    closed c.args.sorted.now.items c.push_reserved.new.self.items c.args.chunk.now
    c.in_ok-rows.rows c.clear.new.self c.in_ok-rows.ensures.same
    (c.push_reserved.ensures.items
    ∙ ap (λ (ls : List (List Row)). ls ++ c.in_ok-rows.rows ∷ []) c.in_ok-reserve.ensures.items)
    c.clear.ensures
