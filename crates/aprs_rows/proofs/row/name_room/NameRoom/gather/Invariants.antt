use Rattle.aprs_rows.proofs.Common.{◌≡◌, ◌++◌, ◌+◌, ◌-◌, length, map, vec_capacity}
use Rattle.aprs_rows.specs.NameRoom.{HasRoom, names_size}
use Rattle.aprs_rows.specs.Names.{names_in}
use Rattle.aprs_rows.proofs.row.name_room.NameRoom.gather.Given as goal

abbrev pub invariant-loop-name : goal.invariant-loop-name
invariant-loop-name g l = record {
  names : map (λ n. n.now) l.self-inside.names.items ++ names_in l.rest
      ≡ l.fn.self.names ++ names_in l.fn.text;
  room : HasRoom (l.fn.self.names ++ names_in l.fn.text) (vec_capacity l.self-inside.names)
      (vec_capacity l.self-inside.text) (length l.self-inside.room.now);
  left : (length l.self-inside.room.now - names_size (l.fn.self.names ++ names_in l.fn.text))
      + (length l.fn.text + 1) ≡ l.fn.self.left;
}

abbrev pub decreases-loop-name : goal.decreases-loop-name
decreases-loop-name g l = length l.rest
