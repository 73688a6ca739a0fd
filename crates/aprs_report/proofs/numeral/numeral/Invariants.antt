use Rattle.aprs_report.proofs.Numerals.{ReadTo}
use Rattle.aprs_report.proofs.numeral.numeral.Given as goal

abbrev pub invariant-loop-byte : goal.invariant-loop-byte
invariant-loop-byte l = ReadTo l.base l.nought l.text l.byte-index l.n
