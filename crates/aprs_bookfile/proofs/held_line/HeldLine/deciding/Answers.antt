use Rattle.std.proofs.Common.{below_more}
use Rattle.aprs_bookfile.proofs.Common.{◌≡◌, ◌+◌, ap, drop, length, arith, subst, take_rest}
use Rattle.aprs_bookfile.proofs.HeldLines.{not_yet, passed_before, passed_place, passed_within}
use Rattle.aprs_bookfile.specs.HeldLine.{Passes}
use Rattle.aprs_bookfile.proofs.held_line.HeldLine.deciding.Goals as goal

pub loop-i-preserved : goal.loop-i-preserved
loop-i-preserved g c =
    let held = c.args.self.now in
    let bytes = c.args.bytes.now in
    let i = c.loop-i.i in
    let was = c.loop-i.invariant in
    let items : c.self.inside.bytes.items ≡ held = cc in
    let size : c.len-held.result + i ≡ length held + i =
    omega (arith, ap length items, c.len-held.ensures) in
    let passes : Passes c.args.first c.loop-i.place (drop i bytes) c.pass-count.result.0
    c.pass-count.result.1 = subst (λ l. Passes c.args.first c.loop-i.place l
    c.pass-count.result.0 c.pass-count.result.1) (take_rest bytes i) c.pass-count.ensures in
    record {
      within = passed_within c.args.first held bytes i _ _ _ was.within was.place_is passes;
      place_is = passed_place c.args.first held bytes i _ _ _ was.within was.place_is passes;
      before = passed_before c.args.first held bytes i _ _ _ was.within was.place_is passes
          (below_more _ _ was.before (not_yet c.args.first _ _ i _ _ _ size
          was.place_is c.is_hopeless.ensures c.if-is_hopeless.false));
    }
