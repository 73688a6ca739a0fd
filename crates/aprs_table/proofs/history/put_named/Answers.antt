use Rattle.aprs_table.proofs.Common.{◌≡◌, ◌∙◌, ℕ, List, map, ap, sym, codes, view, Report, Puts-is}
use Rattle.aprs_table.specs.FieldText.{field_text}
use Rattle.aprs_table.specs.HistoryLines.{told_named_line}
use Rattle.aprs_table.proofs.Histories.{told_text}
use Rattle.aprs_table.proofs.history.put_named.Goals as goal

line_by : (told : List (List ℕ)) (r s : Report) → r ≡ s
    → told_named_line told (view s) ≡ told_named_line told (view r)
line_by told r s e = ap (λ (r : Report). told_named_line told (view r)) (sym e)

pub returns-in-Object : goal.returns-in-Object
returns-in-Object g c =
    let it = c.in-Object in
    Puts-is c.put_text_line.ensures
    (told_text (codes "object") (map field_text c.args.told.now) it.comment.now
    c.named_fields-fields.ensures
    ∙ line_by (map field_text c.args.told.now) c.args.report _ it.is)

pub returns-in-Item : goal.returns-in-Item
returns-in-Item g c =
    let it = c.in-Item in
    Puts-is c.put_text_line-in-Item.ensures
    (told_text (codes "item") (map field_text c.args.told.now) it.comment.now
    c.named_fields-fields-in-Item.ensures
    ∙ line_by (map field_text c.args.told.now) c.args.report _ it.is)
