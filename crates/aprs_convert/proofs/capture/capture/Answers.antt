use Rattle.aprs_convert.proofs.Common.{inl, subst, sym, arith, Calls-none, Calls-then, err_from_is_err_and, Consumes}
use Rattle.aprs_convert.specs.Plan.{capture_text}
use Rattle.aprs_convert.proofs.Captures.{HasGot-none, HasGot-more, HasGot-refused}
use Rattle.aprs_convert.proofs.capture.capture.Goals as goal

pub loop-count-init : goal.loop-count-init
loop-count-init g c = record {
  reads = Calls-none _;
  writes = Calls-none _;
  most = omega arith;
  got = HasGot-none (capture_text c.args.receiver.now c.args.moment.now) c.args.limit _ _ _
      c.new-reader.ensures;
}

pub loop-count-preserved : goal.loop-count-preserved
loop-count-preserved g c = record {
  reads = Calls-then c.loop-count.invariant.reads c.in-Ok.ensures.calls;
  writes = Calls-then c.loop-count.invariant.writes c.in_ok-capture_chunk-in-Ok.ensures.calls;
  most = omega (arith, c.loop-count.invariant.most);
  got = HasGot-more (capture_text c.args.receiver.now c.args.moment.now) c.args.limit
      c.loop-count.left _ _ _ _ _ _ _ _ _ c.split_at.result.0.now
      c.loop-count.invariant.got (subst (Consumes _ _)
      (sym c.split_at.ensures.front) c.in-Ok.ensures.bytes)
      (omega (arith, c.split_at.ensures.front_len, c.in-Ok.ensures.some))
      c.in_ok-capture_chunk-in-Ok.ensures.stands c.in_ok-capture_chunk-in-Ok.ensures.sent;
}

pub returns-in_err-capture_chunk-in-Ok : goal.returns-in_err-capture_chunk-in-Ok
returns-in_err-capture_chunk-in-Ok g c =
    let p = err_from_is_err_and c.from_residual.result c.from_residual.ensures.1 in
    rw (p.1, p.2)
    (record {
      run = HasGot-refused c.args.receiver.now c.args.moment.now c.args.limit c.loop-count.left _ _ _
          _ _ _ _ c.split_at.result.0.now
          c.loop-count.invariant.got (subst (Consumes _ _)
          (sym c.split_at.ensures.front) c.in-Ok.ensures.bytes)
          (omega (arith, c.split_at.ensures.front_len, c.in-Ok.ensures.some))
          c.in_err-capture_chunk-in-Ok.ensures.prefix;
      reads = inl (Calls-then c.loop-count.invariant.reads c.in-Ok.ensures.calls);
      writes = Calls-then c.loop-count.invariant.writes c.in_err-capture_chunk-in-Ok.ensures.calls;
    })
