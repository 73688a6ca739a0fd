use Rattle.aprs_convert.proofs.Common.{◌≡◌, ◌+◌, ◌*◌, ◌≤◌, ◌++◌, length, take}
use Rattle.aprs_io.specs.Shown.{shown_text}
use Rattle.aprs_convert.proofs.text.push_escaped.Given as goal

abbrev pub invariant-loop-b : goal.invariant-loop-b
invariant-loop-b l = record {
  shown : l.out.items ≡ l.initial.out.items ++ shown_text (take l.b-index l.bytes);
  most : length l.out.items ≤ length l.initial.out.items + 4 * l.b-index;
}
