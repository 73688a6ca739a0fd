use Rattle.aprs_rows.proofs.Common.{◌∙◌, ◌∷◌, ◌++◌, [], List, Row, ap, sym, subst, BookValue, millis_of}
use Rattle.aprs_transmissions.specs.JoinRow.{merge}
use Rattle.aprs_rows.specs.BookStore.{IsStored}
use Rattle.aprs_rows.proofs.InStore.{more_rows}
use Rattle.aprs_rows.proofs.store.book_store.BookStore.add.Goals as goal

pub invariant_of-self : goal.invariant_of-self
invariant_of-self g c =
    subst (λ (lists : List (List Row)). IsStored c.self.inside.gap lists c.self.inside.chunk)
    (sym c.reserve.ensures.items) c.self.invariant

pub invariant_of-self-2 : goal.invariant_of-self-2
invariant_of-self-2 g c =
    (more_rows c.self.inside.gap c.self.inside.sorted.items c.push_reserved.new.self.items
    c.self.inside.chunk c.args.rows c.self.invariant c.requires c.sound.ensures.sound
    (c.push_reserved.ensures.items
    ∙ ap (λ (ls : List (List Row)). ls ++ c.args.rows ∷ []) c.in_ok-reserve.ensures.items)).stored

pub returns-clause-added : goal.returns-clause-added
returns-clause-added g c =
    (more_rows c.self.inside.gap c.self.inside.sorted.items c.push_reserved.new.self.items
    c.self.inside.chunk c.args.rows c.self.invariant c.requires c.sound.ensures.sound
    (c.push_reserved.ensures.items
    ∙ ap (λ (ls : List (List Row)). ls ++ c.args.rows ∷ []) c.in_ok-reserve.ensures.items)).book_is
    ∙ ap (λ (b : BookValue). record {
      gap = b.gap;
      rows = merge (millis_of b.gap) b.rows c.args.rows;
    }) c.self.view_is
