use Rattle.aprs_rows.proofs.Common.{◌≤◌, ◌⊎◌, length, arith, inl, inr}
use Rattle.std.proofs.lemmas.Grind.{common_steps}
use Rattle.aprs_rows.proofs.ReceiverNames.{merged_ended}
use Rattle.aprs_rows.proofs.joining.receivers.merge_onto.Goals as goal
use Rattle.aprs_rows.proofs.joining.receivers.merge_onto.Goals.{then-loop-i-test+else-j-theirs, else-loop-i-test}

pub returns : goal.returns
returns g c =
    let ended : (length c.args.ours.now ≤ c.loop-i.i) ⊎ (length c.args.theirs.now ≤ c.loop-i.j) =
    elim c.loop-i-test.branch [
      | then-loop-i-test+else-j-theirs w ↦ inr (omega arith)
      | else-loop-i-test w ↦ inl (omega arith)
    ] in
    let e = merged_ended c.args.ours.now c.args.theirs.now c.loop-i.i c.loop-i.j ended in
    grind (arith, common_steps, e)
