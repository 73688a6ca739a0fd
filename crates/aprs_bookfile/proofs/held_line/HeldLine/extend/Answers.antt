use Rattle.aprs_bookfile.proofs.Common.{◌≡◌, ◌∙◌, ◌++◌, ap, sym, subst, take}
use Rattle.aprs_bookfile.proofs.HeldLines.{more_held, more_lean}
use Rattle.aprs_bookfile.specs.HeldLine.{IsHeldOf, IsLean}
use Rattle.aprs_bookfile.proofs.held_line.HeldLine.extend.Goals as goal

pub returns-clause-held : goal.returns-clause-held
returns-clause-held g c = λ line h.
    let items : c.args.self.now ≡ c.self.inside.bytes.items = cc in
    subst (λ l. IsHeldOf c.args.first l (line ++ c.args.bytes.now))
    (ap (λ l. l ++ take c.deciding-count.result.0 c.args.bytes.now) items
    ∙ sym c.in_ok-extend_from_slice.ensures.items)
    (more_held c.args.first c.args.self.now c.args.bytes.now _ _ c.deciding-count.ensures line h)

pub returns-clause-lean : goal.returns-clause-lean
returns-clause-lean g c = λ lean.
    let items : c.args.self.now ≡ c.self.inside.bytes.items = cc in
    subst (IsLean c.args.first)
    (ap (λ l. l ++ take c.deciding-count.result.0 c.args.bytes.now) items
    ∙ sym c.in_ok-extend_from_slice.ensures.items)
    (more_lean c.args.first c.args.self.now c.args.bytes.now _ _ c.deciding-count.ensures lean)
