use Rattle.aprs_summary.proofs.Common.{◌∙◌, None, Some, ap, option_map}
use Rattle.aprs_summary.proofs.KnownSteps.{known_got}
use Rattle.aprs_summary.proofs.known.index.Index.get.Goals as goal

pub returns-in-Some : goal.returns-in-Some
returns-in-Some g c =
    ap (option_map g.X.Kept.received) c.as_ref.ensures.value
    ∙ known_got (λ k. k.items) g.X.Kept.received c.args.bytes.now c.self.inside.map.entries _ c.self.view_is
    (Some c.in-Some.known.now) c.in-Some.ensures.value

pub returns-in-None : goal.returns-in-None
returns-in-None g c =
    known_got (λ k. k.items) g.X.Kept.received c.args.bytes.now c.self.inside.map.entries _ c.self.view_is
    None c.in-None.ensures.value
