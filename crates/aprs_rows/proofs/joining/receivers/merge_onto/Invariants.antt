use Rattle.aprs_rows.proofs.Common.{◌≡◌, ◌+◌, ◌-◌, ◌≤◌, ◌++◌, drop, length, vec_len, vec_capacity, bytes_cmp, ascending_union}
use Rattle.aprs_rows.proofs.joining.receivers.merge_onto.Given as goal

abbrev pub invariant-loop-i : goal.invariant-loop-i
invariant-loop-i g l =
    (l.initial.names.items ++ ascending_union bytes_cmp l.ours l.theirs
    ≡ l.names.items ++ ascending_union bytes_cmp (drop l.i l.ours) (drop l.j l.theirs))
    × (vec_len l.names + (length l.ours - l.i) + (length l.theirs - l.j) ≤ vec_capacity l.names)
    × (l.i ≤ length l.ours)
    × (l.j ≤ length l.theirs)

abbrev pub decreases-loop-i : goal.decreases-loop-i
decreases-loop-i g l = (length l.ours - l.i) + (length l.theirs - l.j)
