use Rattle.aprs_summary.proofs.Common.{◌∙◌, Some, None, ap, refl, sym, greater_known}
use Rattle.aprs_summary.proofs.KnownSteps.{put_known, put_there, put_twice, taken_at, unwrapped}
use Rattle.aprs_summary.proofs.known.index.Index.take.Goals as goal

pub put_back-requires : goal.put_back-requires
put_back-requires g c =
    put_there (λ k. k.items) g.X.Kept.received c.args.bytes.now c.self.inside.map.entries _ c.self.view_is
    c.insert.new.self.entries c.in_ok-key.key c.in_ok-key.ensures.items c.kept_from.result
    c.in_ok-known.ensures.entries

pub returns-in-None-clause-taken : goal.returns-in-None-clause-taken
returns-in-None-clause-taken g c =
    taken_at (λ k. k.items) g.X.Kept.received c.args.bytes.now c.self.inside.map.entries _ c.self.view_is
    c.in_ok-key.key c.in_ok-key.ensures.items None (sym c.in-None.is ∙ c.in_ok-known.ensures.old)
    c.args.x.now c.args.x.now refl _
    (put_known (λ k. k.items) g.X.Kept.received c.args.bytes.now c.self.inside.map.entries _ c.self.view_is
    c.insert.new.self.entries c.in_ok-key.key c.in_ok-key.ensures.items c.kept_from.result
    c.in_ok-known.ensures.entries c.args.x.now c.kept_from.ensures)

pub returns-in-Some-None-clause-taken : goal.returns-in-Some-None-clause-taken
returns-in-Some-None-clause-taken g c =
    taken_at (λ k. k.items) g.X.Kept.received c.args.bytes.now c.self.inside.map.entries _ c.self.view_is
    c.in_ok-key.key c.in_ok-key.ensures.items (Some None)
    (sym (c.in-Some-None.is ∙ ap Some c.in-Some-None.field-0-is) ∙ c.in_ok-known.ensures.old)
    c.args.x.now c.args.x.now refl _
    (put_known (λ k. k.items) g.X.Kept.received c.args.bytes.now c.self.inside.map.entries _ c.self.view_is
    c.insert.new.self.entries c.in_ok-key.key c.in_ok-key.ensures.items c.kept_from.result
    c.in_ok-known.ensures.entries c.args.x.now c.kept_from.ensures)

pub returns-then-not-exceeds-clause-taken : goal.returns-then-not-exceeds-clause-taken
returns-then-not-exceeds-clause-taken g c =
    let kept = unwrapped _ _ (ap Some (sym c.lent.ensures) ∙ c.exceeds.ensures.kept c.if-not-exceeds.true) in
    let known = put_known (λ k. k.items) g.X.Kept.received c.args.bytes.now c.self.inside.map.entries _
    c.self.view_is c.insert.new.self.entries c.in_ok-key.key c.in_ok-key.ensures.items
    c.kept_from.result c.in_ok-known.ensures.entries c.args.x.now c.kept_from.ensures in
    taken_at (λ k. k.items) g.X.Kept.received c.args.bytes.now c.self.inside.map.entries _ c.self.view_is
    c.in_ok-key.key c.in_ok-key.ensures.items (Some (Some c.in-Some-Some.known))
    (sym (c.in-Some-Some.is ∙ ap Some c.in-Some-Some.field-0-is) ∙ c.in_ok-known.ensures.old)
    (g.X.Kept.received c.in-Some-Some.known) c.args.x.now
    (kept ∙ ap (λ v. greater_known (Some v) c.args.x.now) c.lent.ensures) _
    (λ q. put_twice c.args.bytes.now q _ _ _ _ _ (known q) (c.put_back.ensures q))

pub returns-else-not-exceeds-clause-taken : goal.returns-else-not-exceeds-clause-taken
returns-else-not-exceeds-clause-taken g c =
    taken_at (λ k. k.items) g.X.Kept.received c.args.bytes.now c.self.inside.map.entries _ c.self.view_is
    c.in_ok-key.key c.in_ok-key.ensures.items (Some (Some c.in-Some-Some.known))
    (sym (c.in-Some-Some.is ∙ ap Some c.in-Some-Some.field-0-is) ∙ c.in_ok-known.ensures.old)
    c.args.x.now c.args.x.now
    (sym (c.exceeds.ensures.new c.if-not-exceeds.false)
    ∙ ap (λ v. greater_known (Some v) c.args.x.now) c.lent.ensures) _
    (put_known (λ k. k.items) g.X.Kept.received c.args.bytes.now c.self.inside.map.entries _ c.self.view_is
    c.insert.new.self.entries c.in_ok-key.key c.in_ok-key.ensures.items c.kept_from.result
    c.in_ok-known.ensures.entries c.args.x.now c.kept_from.ensures)
