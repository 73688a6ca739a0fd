use Rattle.aprs_rows.proofs.Common.{◌≡◌, ◌+◌, ◌++◌, take, vec_len, vec_capacity}
use Rattle.aprs_rows.proofs.joining.receivers.copy_onto.Given as goal

abbrev pub invariant-loop-name : goal.invariant-loop-name
invariant-loop-name g l =
    (l.names.items ≡ l.initial.names.items ++ take l.name-index l.more)
    × (vec_len l.names ≡ vec_len l.initial.names + l.name-index)
    × (vec_capacity l.names ≡ vec_capacity l.initial.names)
