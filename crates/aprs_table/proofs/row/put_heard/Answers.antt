use Rattle.aprs_table.proofs.Common.{Puts-is, ◌∙◌}
use Rattle.aprs_table.proofs.Chains.{◌before◌, refused}
use Rattle.aprs_table.proofs.Lines.{heard_parts}
use Rattle.aprs_table.proofs.row.put_heard.Goals as goal

pub returns-in_err-put : goal.returns-in_err-put
returns-in_err-put g c = Puts-is (refused c.from_residual.ensures.0
    (Puts-is c.in_err-put.ensures (c.as_slice.ensures.value ∙ c.heard_text.ensures)) _)
    (heard_parts c.args.row.now)

pub returns-in_err-put-2 : goal.returns-in_err-put-2
returns-in_err-put-2 g c = Puts-is
    (Puts-is c.in_ok-put.ensures (c.as_slice.ensures.value ∙ c.heard_text.ensures)
    before refused c.from_residual-in_err-put-2.ensures.0
    (Puts-is c.in_err-put-2.ensures c.receivers.ensures.text) _)
    (heard_parts c.args.row.now)

pub returns-in_err-put-3 : goal.returns-in_err-put-3
returns-in_err-put-3 g c = Puts-is
    (Puts-is c.in_ok-put.ensures (c.as_slice.ensures.value ∙ c.heard_text.ensures)
    before Puts-is c.in_ok-put-2.ensures c.receivers.ensures.text
    before refused c.from_residual-in_err-put-3.ensures.0 c.in_err-put-3.ensures _)
    (heard_parts c.args.row.now)

pub returns : goal.returns
returns g c = Puts-is
    (Puts-is c.in_ok-put.ensures (c.as_slice.ensures.value ∙ c.heard_text.ensures)
    before Puts-is c.in_ok-put-2.ensures c.receivers.ensures.text
    before c.in_ok-put-3.ensures
    before Puts-is c.put-4.ensures c.receiver.ensures.value)
    (heard_parts c.args.row.now)
