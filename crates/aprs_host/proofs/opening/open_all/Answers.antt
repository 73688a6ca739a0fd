use Rattle.aprs_host.proofs.Common.{◌≡◌, ◌+◌, ◌++◌, ◌∷◌, [], None, Some, arith, refl, rules, subst, sym, take}
use Rattle.aprs_host.proofs.Openings.{asks_more, at_more, stops_at}
use Rattle.aprs_host.specs.Opening.{AreAt, IsKnownAs}
use Rattle.aprs_host.proofs.opening.open_all.Goals as goal

pub returns-then-is_err-clause-stops : goal.returns-then-is_err-clause-stops
returns-then-is_err-clause-stops g c =
    stops_at c.args.paths.now c.loop-path.path-index c.path-item.result
    (omega (arith, c.loop-path-test.true, c.loop-path.auto.path-index-end)) c.path-item.is
    _ (g.O.Opener.asked c.loop-path.opener) _ _ c.as_str.result.now None
    c.loop-path.invariant.asked c.in-Ok.ensures.asks c.as_str.ensures.value refl

pub returns-in-Err-clause-stops : goal.returns-in-Err-clause-stops
returns-in-Err-clause-stops g c =
    stops_at c.args.paths.now c.loop-path.path-index c.path-item.result
    (omega (arith, c.loop-path-test.true, c.loop-path.auto.path-index-end)) c.path-item.is
    _ (g.O.Opener.asked c.loop-path.opener) _ _ c.as_str.result.now (Some c.in-Err.fault)
    c.loop-path.invariant.asked c.in-Err.ensures.asks c.as_str.ensures.value
    (c.as_bytes.result, search rules, c.complaint_of_open.ensures)

pub loop-path-preserved : goal.loop-path-preserved
loop-path-preserved g c =
    let pushed : c.push.new.self.items ≡ c.loop-path.inputs.items ++ c.new.result ∷ [] =
    search rules in
    record {
      at_paths = subst (λ items. AreAt g.O.Opener.path_of items
          (take (c.loop-path.path-index + 1) c.args.paths.now)) (sym pushed)
          (at_more g.O.Opener.path_of c.loop-path.inputs.items c.args.paths.now
          c.loop-path.path-index c.new.result c.path-item.result c.as_str.result.now
          (omega (arith, c.loop-path-test.true, c.loop-path.auto.path-index-end)) c.path-item.is
          c.as_str.ensures.value c.loop-path.invariant.at_paths
          (subst (λ it. IsKnownAs (g.O.Opener.path_of it) c.as_str.result.now)
          (sym c.new.ensures.device) c.in-Ok.ensures.at_path));
      asked = asks_more (g.O.Opener.asked c.args.opener.now)
          (g.O.Opener.asked c.loop-path.opener) (g.O.Opener.asked c.open.new.self)
          c.args.paths.now c.loop-path.path-index c.path-item.result c.as_str.result.now
          (omega (arith, c.loop-path-test.true, c.loop-path.auto.path-index-end)) c.path-item.is
          c.as_str.ensures.value c.loop-path.invariant.asked c.in-Ok.ensures.asks;
    }
