use Rattle.aprs_summary.proofs.Common.{◌≡◌, true, false}
use Rattle.aprs_summary.proofs.KnownSteps.{is_there, not_there, placed_same, placed_made}
use Rattle.aprs_summary.proofs.known.index.Index.reserve.Goals as goal

pub returns-then-contains_key-clause-made : goal.returns-then-contains_key-clause-made
returns-then-contains_key-clause-made g c =
    is_there (λ k. k.items) g.X.Kept.received c.args.bytes.now c.self.inside.map.entries _ c.self.view_is
    c.if-contains_key.ensures

pub returns-in_err-key-clause-there : goal.returns-in_err-key-clause-there
returns-in_err-key-clause-there g c = λ h.
    let no : false ≡ true =
    not_there (λ k. k.items) g.X.Kept.received c.args.bytes.now c.self.inside.map.entries _ c.self.view_is
    c.if-contains_key.ensures h in
    absurd (cc)

pub returns-in_err-insert-clause-there : goal.returns-in_err-insert-clause-there
returns-in_err-insert-clause-there g c = λ h.
    let no : false ≡ true =
    not_there (λ k. k.items) g.X.Kept.received c.args.bytes.now c.self.inside.map.entries _ c.self.view_is
    c.if-contains_key.ensures h in
    absurd (cc)

pub returns-clause-same : goal.returns-clause-same
returns-clause-same g c =
    placed_same (λ k. k.items) g.X.Kept.received c.args.bytes.now c.self.inside.map.entries _ c.self.view_is
    c.insert.new.self.entries c.in_ok-key.key c.in_ok-key.ensures.items
    c.in_ok-insert.ensures.entries
    c.if-contains_key.ensures

pub returns-clause-made : goal.returns-clause-made
returns-clause-made g c =
    placed_made (λ k. k.items) g.X.Kept.received c.args.bytes.now c.self.inside.map.entries _ c.self.view_is
    c.insert.new.self.entries c.in_ok-key.key c.in_ok-key.ensures.items
    c.in_ok-insert.ensures.entries
