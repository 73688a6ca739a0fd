use Rattle.aprs_lists.proofs.Common.{Puts-is}
use Rattle.aprs_transmissions.specs.Key.{key_of}
use Rattle.aprs_lists.proofs.HeardLines.{name_fields_of, placed}
use Rattle.aprs_lists.proofs.listing.heard_line.put_name.Goals as goal

pub returns : goal.returns
unfolding key_of
returns g c =
    Puts-is c.put_text_line.ensures
    (placed c.args.kind.now c.args.at.now.comment.now _ _ _ _
    (name_fields_of c.args.name.now c.live_text.result.now c.as_bytes.result.now c.args.live _
    c.args.heard.now c.source.result c.heard.view_is c.live_text.ensures
    c.as_bytes.ensures.value
    c.source.ensures)
    c.place_fields-place.ensures)
