use Rattle.aprs_table.proofs.Common.{◌∙◌, [], ◌∷◌, ◌++◌, map, Some, None, ap, codes, Call, call_text, frame_bytes, parts_of, mic_e_view, Puts-is}
use Rattle.aprs_table.specs.History.{other_line}
use Rattle.aprs_table.specs.FieldText.{field_text}
use Rattle.aprs_table.specs.SpacedLine.{line_with_text}
use Rattle.aprs_table.proofs.Histories.{mic_e_read, told_text}
use Rattle.aprs_table.proofs.history.put_other.Goals as goal

pub returns-in-Some : goal.returns-in-Some
returns-in-Some g c =
    let told = map field_text c.args.told.now in
    let p = parts_of (frame_bytes c.args.frame.now) in
    let says = mic_e_view c.in-Some.says in
    Puts-is c.put_text_line.ensures
    (told_text (codes "mic-e") told says.comment c.mic_e_fields-fields.ensures
    ∙ ap (other_line told p)
    (mic_e_read p c.destination-destination.result c.info-info.result.now (Some c.in-Some.says)
    c.destination-destination.ensures c.info-info.ensures.value c.in-Some.ensures.value))

pub returns-in-None : goal.returns-in-None
returns-in-None g c =
    let told = map field_text c.args.told.now in
    let p = parts_of (frame_bytes c.args.frame.now) in
    Puts-is c.put_text_line-in-None.ensures
    (told_text (codes "raw") told c.info-info.result.now
    (ap (λ (call : Call). call_text call ∷ []) c.destination-destination.ensures)
    ∙ ap (line_with_text (codes "raw") (told ++ call_text p.destination.call ∷ []))
    c.info-info.ensures.value
    ∙ ap (other_line told p)
    (mic_e_read p c.destination-destination.result c.info-info.result.now None
    c.destination-destination.ensures c.info-info.ensures.value c.in-None.ensures.value))
