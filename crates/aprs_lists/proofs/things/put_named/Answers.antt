use Rattle.aprs_lists.proofs.Common.{◌++◌, ◌∷◌, ap, map, Puts-is, cell_text}
use Rattle.aprs_transmissions.specs.Key.{key_of}
use Rattle.aprs_lists.specs.Lines.{tabbed_line}
use Rattle.aprs_lists.proofs.ThingLines.{named_fields_of}
use Rattle.aprs_lists.proofs.things.put_named.Goals as goal

pub returns : goal.returns
unfolding key_of
returns g c =
    Puts-is c.put_line.ensures
    (ap (λ fields. tabbed_line (c.args.kind.now ∷ fields ++ map cell_text c.args.whereabouts.now))
    (named_fields_of c.args.name.now c.live_text.result.now c.as_bytes.result.now c.args.live
    _ c.args.heard.now c.source.result c.heard.view_is c.live_text.ensures
    c.as_bytes.ensures.value c.source.ensures))
