use Rattle.aprs_rows.proofs.Common.{◌≡◌, ◌≤◌, ◌++◌, drop, map, vec_capacity}
use Rattle.aprs_rows.specs.Sorted.{after_first, ascending_text}
use Rattle.aprs_rows.proofs.row.name_room.put_ascending.Given as goal

abbrev pub invariant-loop-i : goal.invariant-loop-i
invariant-loop-i g l = record {
  text : l.text.items ++ after_first (drop l.i (map (λ n. n.now) l.names))
      ≡ l.fn.text.items ++ ascending_text (map (λ n. n.now) l.names);
  capacity : vec_capacity l.fn.text ≤ vec_capacity l.text;
}
