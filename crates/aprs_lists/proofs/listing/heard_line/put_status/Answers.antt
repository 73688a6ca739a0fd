use Rattle.aprs_lists.proofs.Common.{ap, Received, Puts-is}
use Rattle.aprs_lists.proofs.listing.heard_line.put_status.Goals as goal

pub returns : goal.returns
returns g c =
    Puts-is c.put_text_line.ensures
    (cc (
      c.as_bytes.ensures.value,
      ap (λ (h : Received). h.moment) c.heard.view_is,
      ap (λ (h : Received). h.receiver) c.heard.view_is,
    ))
