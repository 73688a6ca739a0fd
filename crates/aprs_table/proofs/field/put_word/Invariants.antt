use Rattle.aprs_table.proofs.Common.{Ok, take, flat_map, Puts}
use Rattle.aprs_table.specs.SpacedLine.{word_byte}
use Rattle.aprs_table.proofs.field.put_word.Given as goal

abbrev pub invariant-loop-b : goal.invariant-loop-b
invariant-loop-b g l =
    Puts {E = Unit {0}} g.W.Write.contents (Ok tt) l.initial.out l.out
    (flat_map word_byte (take l.b-index l.bytes))
