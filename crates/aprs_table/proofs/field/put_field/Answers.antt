use Rattle.aprs_table.proofs.Common.{ap, sym, ◌∙◌, Puts-is}
use Rattle.aprs_table.specs.FieldText.{field_text}
use Rattle.aprs_table.specs.declared.field.Field.{Field}
use Rattle.aprs_table.proofs.field.put_field.Goals as goal

pub returns-in-Call : goal.returns-in-Call
returns-in-Call g c = Puts-is c.put-in-Call.ensures
    (c.as_slice.ensures.value ∙ c.text.ensures.text
    ∙ sym (ap (λ (x : Field). field_text x) c.in-Call.is))

pub returns-in-Degrees : goal.returns-in-Degrees
returns-in-Degrees g c = Puts-is c.put-in-Degrees.ensures
    (c.as_slice-in-Degrees.ensures.value ∙ c.degrees_text.ensures
    ∙ sym (ap (λ (x : Field). field_text x) c.in-Degrees.is))

pub returns-in-Symbol : goal.returns-in-Symbol
returns-in-Symbol g c = Puts-is c.put_shown.ensures
    (sym (ap (λ (x : Field). field_text x) c.in-Symbol.is))
