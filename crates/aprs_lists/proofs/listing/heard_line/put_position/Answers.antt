use Rattle.aprs_lists.proofs.Common.{codes, Puts-is}
use Rattle.aprs_lists.proofs.HeardLines.{heard_fields_of, placed}
use Rattle.aprs_lists.proofs.listing.heard_line.put_position.Goals as goal

pub returns : goal.returns
returns g c =
    Puts-is c.put_text_line.ensures
    (placed (codes "position") c.args.at.now.comment.now _ _ _ _
    (heard_fields_of _ c.args.heard.now c.as_bytes.result.now c.heard.view_is
    c.as_bytes.ensures.value)
    c.place_fields-place.ensures)
