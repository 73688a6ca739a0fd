use Rattle.aprs_convert.proofs.Common.{refl, Calls-none, Calls-then, on_err}
use Rattle.aprs_kiss.proofs.Hearing.{parts_of}
use Rattle.aprs_convert.specs.Plan.{capture_text}
use Rattle.aprs_convert.proofs.Captures.{HasCaptured-none, HasCaptured-more, HasCaptured-refused}
use Rattle.aprs_convert.proofs.capture.capture_chunk.Goals as goal

pub loop-rest-init : goal.loop-rest-init
loop-rest-init g c = record {
  calls = Calls-none _;
  captured = HasCaptured-none (capture_text c.args.receiver.now c.args.moment.now) _ _ _;
}

pub returns-in_err-write_fed-clause-prefix : goal.returns-in_err-write_fed-clause-prefix
returns-in_err-write_fed-clause-prefix g c = on_err c.from_residual.result
    (HasCaptured-refused (capture_text c.args.receiver.now c.args.moment.now) _ _ _ _ _ _ _ _ _ _
    c.loop-rest.invariant.captured
    (parts_of _ _ _ c.feed.result.0 refl refl) c.feed.ensures.judged
    c.in_err-write_fed.ensures.prefix)

pub loop-rest-preserved : goal.loop-rest-preserved
loop-rest-preserved g c = record {
  calls = Calls-then c.loop-rest.invariant.calls c.in_ok-write_fed.ensures.calls;
  captured = HasCaptured-more (capture_text c.args.receiver.now c.args.moment.now) _ _ _ _ _ _ _ _ _
      _ _ c.loop-rest.invariant.captured
      (parts_of _ _ _ c.feed.result.0 refl c.split_at.ensures.back) c.feed.follows.holds-at-none
      c.feed.ensures.judged c.in_ok-write_fed.ensures.sent;
}
