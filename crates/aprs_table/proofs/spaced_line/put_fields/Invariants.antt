use Rattle.aprs_table.proofs.Common.{Ok, take, flat_map, Puts}
use Rattle.aprs_table.specs.FieldText.{spaced_field}
use Rattle.aprs_table.proofs.spaced_line.put_fields.Given as goal

abbrev pub invariant-loop-field : goal.invariant-loop-field
invariant-loop-field g l =
    Puts {E = Unit {0}} g.W.Write.contents (Ok tt) l.initial.out l.out
    (flat_map spaced_field (take l.field-index l.fields))
