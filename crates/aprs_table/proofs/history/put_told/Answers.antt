use Rattle.aprs_table.proofs.Common.{◌≡◌, ◌∙◌, ℕ, List, [], ◌∷◌, map, ap, sym, refl, codes, Parts, frame_bytes, parts_of, view, Report, Puts-is}
use Rattle.aprs_table.specs.History.{told_line}
use Rattle.aprs_table.specs.FieldText.{field_text}
use Rattle.aprs_table.specs.HistoryLines.{told_named_line}
use Rattle.aprs_table.specs.SpacedLine.{word}
use Rattle.aprs_table.proofs.Histories.{told_text}
use Rattle.aprs_table.proofs.history.put_told.Goals as goal

line_by : (told : List (List ℕ)) (p : Parts) (r s : Report) → r ≡ s
    → told_line told p (view s) ≡ told_line told p (view r)
line_by told p r s e = ap (λ (r : Report). told_line told p (view r)) (sym e)

named_by : (told : List (List ℕ)) (p : Parts) (r s : Report) → r ≡ s
    → told_named_line told (view s) ≡ told_line told p (view s)
    → told_named_line told (view r) ≡ told_line told p (view r)
named_by told p r s is e = rw is e

pub returns-in-Position : goal.returns-in-Position
returns-in-Position g c =
    let it = c.in-Position in
    Puts-is c.put_text_line.ensures
    (told_text (codes "position") (map field_text c.args.told.now) it.comment.now
    c.place_fields-fields.ensures
    ∙ line_by (map field_text c.args.told.now) (parts_of (frame_bytes c.args.frame.now)) c.args.report _ it.is)

pub returns-in-Object : goal.returns-in-Object
returns-in-Object g c =
    Puts-is c.put_named.ensures
    (named_by (map field_text c.args.told.now) (parts_of (frame_bytes c.args.frame.now)) c.args.report _
    c.in-Object.is refl)

pub returns-in-Item : goal.returns-in-Item
returns-in-Item g c =
    Puts-is c.put_named-in-Item.ensures
    (named_by (map field_text c.args.told.now) (parts_of (frame_bytes c.args.frame.now)) c.args.report _
    c.in-Item.is refl)

pub returns-in-Status : goal.returns-in-Status
returns-in-Status g c =
    Puts-is c.put_text_line-in-Status.ensures
    (line_by (map field_text c.args.told.now) (parts_of (frame_bytes c.args.frame.now)) c.args.report _ c.in-Status.is)

pub returns-in-Message : goal.returns-in-Message
returns-in-Message g c =
    let it = c.in-Message in
    Puts-is c.put_text_line-in-Message.ensures
    (told_text (codes "message") (map field_text c.args.told.now) it.text.now
    (ap (λ id. word it.addressee.now ∷ id ∷ []) c.id_text.ensures)
    ∙ line_by (map field_text c.args.told.now) (parts_of (frame_bytes c.args.frame.now)) c.args.report _ it.is)

pub returns-in-Ack : goal.returns-in-Ack
returns-in-Ack g c = Puts-is c.put_answer_line.ensures
    (line_by (map field_text c.args.told.now) (parts_of (frame_bytes c.args.frame.now)) c.args.report _ c.in-Ack.is)

pub returns-in-Rej : goal.returns-in-Rej
returns-in-Rej g c = Puts-is c.put_answer_line-in-Rej.ensures
    (line_by (map field_text c.args.told.now) (parts_of (frame_bytes c.args.frame.now)) c.args.report _ c.in-Rej.is)

pub returns-in-Raw : goal.returns-in-Raw
returns-in-Raw g c = Puts-is c.put_other.ensures
    (line_by (map field_text c.args.told.now) (parts_of (frame_bytes c.args.frame.now)) c.args.report _ c.in-Raw.is)
