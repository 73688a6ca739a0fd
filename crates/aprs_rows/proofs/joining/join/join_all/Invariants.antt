use Rattle.aprs_rows.proofs.Common.{take, ◌∈◌, FoldsTo}
use Rattle.aprs_rows.proofs.joining.join.join_all.Given as goal

abbrev pub invariant-loop-item : goal.invariant-loop-item
invariant-loop-item g l =
    let j = g.J.Join in
    FoldsTo j.joined l.start (take l.item-index l.items) l.all
    × j.valid l.start
    × j.alike l.start l.all
    × ((x : _) → x ∈ take l.item-index l.items → j.valid x)
