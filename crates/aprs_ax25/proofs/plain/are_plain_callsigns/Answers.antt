use Rattle.std.proofs.Common.{◌≡◌, arith, subst, ℕ, List, ◌≤◌, take}
use Rattle.std.proofs.lemmas.Bool.{and_parts}
use Rattle.aprs_ax25.proofs.Plains.{Follows, Follows-more, first-of-window, second-of-window}
use Rattle.aprs_ax25.proofs.plain.are_plain_callsigns.Goals as goal

pub loop-i-preserved : goal.loop-i-preserved
loop-i-preserved c = record {
  first = λ fine. c.loop-i.invariant.first (and_parts _ _ fine).0;
  others = λ fine. Follows-more (take 17 c.args.octets.now) c.loop-i.i c.may_follow-are_fine.result
      (c.loop-i.invariant.others (and_parts _ _ fine).0) c.may_follow-are_fine.ensures
      (and_parts _ _ fine).1;
}

whole : (i : ℕ) (octets : List ℕ) → 16 ≤ i → i ≤ 16 → Follows octets i → Follows octets 16
whole i octets low high h = let e : i ≡ 16 = omega arith in subst (Follows octets) e h

pub returns-clause-first : goal.returns-clause-first
returns-clause-first c = λ fine.
    first-of-window c.args.octets.now c.requires (c.loop-i.invariant.first fine)
    (whole c.loop-i.i (take 17 c.args.octets.now) (omega (arith, c.loop-i-test.false))
    (omega (arith, c.loop-i.auto.i-end)) (c.loop-i.invariant.others fine))

pub returns-clause-second : goal.returns-clause-second
returns-clause-second c = λ fine.
    second-of-window c.args.octets.now c.requires
    (whole c.loop-i.i (take 17 c.args.octets.now) (omega (arith, c.loop-i-test.false))
    (omega (arith, c.loop-i.auto.i-end)) (c.loop-i.invariant.others fine))
