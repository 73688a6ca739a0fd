use Rattle.aprs_lists.proofs.Common.{◌≡◌, ◌∙◌, ◌++◌, ap, sym, codes, Received, view, Report, Puts-is}
use Rattle.aprs_transmissions.specs.Key.{key_of}
use Rattle.aprs_summary.specs.Reports.{report_of}
use Rattle.aprs_lists.specs.Listing.{heard_fields, heard_line, name_fields, report_line}
use Rattle.aprs_table.specs.SpacedLine.{line_with_text, place_fields}
use Rattle.aprs_lists.proofs.listing.heard_line.put_heard.Goals as goal

-- the report of a reception as it is lent gives its line
line_by : (x : Received) (lent r : Report) → view lent ≡ report_of (key_of x.frame) → lent ≡ r
    → report_line x (view r) ≡ heard_line x
line_by x lent r e is = ap (λ (r : Report). report_line x (view r)) (sym is) ∙ ap (report_line x) e

pub returns-in-Position : goal.returns-in-Position
returns-in-Position g c =
    Puts-is c.put_position.ensures
    (ap (λ at. line_with_text (codes "position") (heard_fields c.args.heard.now
    ++ place_fields at.stamp at.place at.symbol) at.comment.now) c.new-at.ensures
    ∙ line_by c.args.heard.now c.heard.inside.report _ (c.heard.invariant
    ∙ ap (λ (h : Received). report_of (key_of h.frame)) c.heard.view_is) c.in-Position.is)

pub returns-in-Object : goal.returns-in-Object
returns-in-Object g c =
    Puts-is c.put_name.ensures
    (ap (λ at. line_with_text (codes "object") (name_fields c.in-Object.name.now c.in-Object.live
    c.args.heard.now
    ++ place_fields at.stamp at.place at.symbol) at.comment.now) c.new-at-in-Object.ensures
    ∙ line_by c.args.heard.now c.heard.inside.report _ (c.heard.invariant
    ∙ ap (λ (h : Received). report_of (key_of h.frame)) c.heard.view_is) c.in-Object.is)

pub returns-in-Item : goal.returns-in-Item
returns-in-Item g c =
    Puts-is c.put_name-in-Item.ensures
    (ap (λ at. line_with_text (codes "item") (name_fields c.in-Item.name.now c.in-Item.live
    c.args.heard.now
    ++ place_fields at.stamp at.place at.symbol) at.comment.now) c.new-at-in-Item.ensures
    ∙ line_by c.args.heard.now c.heard.inside.report _ (c.heard.invariant
    ∙ ap (λ (h : Received). report_of (key_of h.frame)) c.heard.view_is) c.in-Item.is)

pub returns-in-Status : goal.returns-in-Status
returns-in-Status g c =
    Puts-is c.put_status.ensures
    (line_by c.args.heard.now c.heard.inside.report _ (c.heard.invariant
    ∙ ap (λ (h : Received). report_of (key_of h.frame)) c.heard.view_is) c.in-Status.is)
