use Rattle.aprs_table.proofs.Common.{arith, Puts-broken, Puts-more, Puts-none}
use Rattle.aprs_table.specs.FieldText.{spaced_field}
use Rattle.aprs_table.proofs.spaced_line.put_fields.Goals as goal

pub loop-field-init : goal.loop-field-init
loop-field-init g c = Puts-none _

pub loop-field-preserved : goal.loop-field-preserved
loop-field-preserved g c =
    Puts-more spaced_field c.args.fields.now c.loop-field.field-index _
    (omega arith) c.field-item.is c.loop-field.invariant c.in_ok-put_spaced.ensures

pub returns-in_err-put_spaced : goal.returns-in_err-put_spaced
returns-in_err-put_spaced g c =
    Puts-broken spaced_field c.args.fields.now c.loop-field.field-index _
    (omega arith) c.field-item.is c.loop-field.invariant c.from_residual.result
    c.from_residual.ensures.0
    c.in_err-put_spaced.ensures
