use Rattle.aprs_table.proofs.Common.{◌∙◌, map, frame_bytes, parts_of, hop_of, view, Puts-is}
use Rattle.aprs_table.specs.FieldText.{field_text}
use Rattle.aprs_table.proofs.Histories.{row_told}
use Rattle.aprs_table.proofs.history.put_row_history.Goals as goal

pub returns : goal.returns
returns g c =
    let hops = map hop_of (parts_of (frame_bytes c.frame-frame.result)).digipeaters in
    Puts-is c.put_told.ensures
    (row_told c.args.row.now c.first.result c.last.result c.receivers.result.now
    c.via_or_dash.result.now (frame_bytes c.frame-frame.result) c.info.result.now c.source.result
    (map field_text c.told_fields-told.result) (view c.read.result) c.frame-frame.ensures
    c.first.ensures c.last.ensures c.receivers.ensures.text c.source.ensures
    (c.via_or_dash.ensures hops (c.as_slice.ensures.value ∙ c.hops_text-hops.ensures))
    c.told_fields-told.ensures c.info.ensures.value c.read.ensures.value)
