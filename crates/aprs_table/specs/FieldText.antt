-- The text of a field of a line whose fields stand after a space each.
use Rattle.std.specs.Prelude.{ℕ, List}
use Rattle.std.specs.Fmt.{decimal}
use Rattle.aprs_ax25.specs.Callsign.{call_text}
use Rattle.aprs_log.specs.Moment.{moment_text}
use Rattle.aprs_table.specs.SpacedLine.{after_space, word, stamp_text, degrees_text, ambiguity_text, symbol_text}
use Rattle.aprs_table.specs.declared.field.Field.{Field}
use Rattle.aprs_table.specs.declared.field.Field.TheVariants as field

-- The text of a field.
abbrev pub field_text : Field → List ℕ
field_text (field.Plain bytes) = bytes.now
field_text (field.Word bytes) = word bytes.now
field_text (field.Call call) = call_text call
field_text (field.Count n) = decimal n
field_text (field.Moment moment) = moment_text moment
field_text (field.Stamp stamp) = stamp_text stamp
field_text (field.Degrees fraction) = degrees_text fraction
field_text (field.Ambiguity place) = ambiguity_text place
field_text (field.Symbol symbol) = symbol_text symbol

-- A space and the text of a field.
abbrev pub spaced_field : Field → List ℕ
spaced_field x = after_space (field_text x)
