use Rattle.aprs_fold.proofs.Common.{[], ◌∙◌, refl, sym, arith}
use Rattle.aprs_bookfile.proofs.RowStreams.{begun}
use Rattle.aprs_fold.proofs.InErr.{in_err}
use Rattle.aprs_fold.proofs.Streamed.{begins_other, differing_gap, same_gap, IsAsked-none}
use Rattle.aprs_fold.proofs.Reading.{gets_asked}
use Rattle.aprs_fold.proofs.opening.open_one.Goals as goal

pub returns-in-Err-clause-refuses : goal.returns-in-Err-clause-refuses
returns-in-Err-clause-refuses g c =
    let first = begun g.R.Read.remaining c.args.limit [] c.args.input.now c.in_ok-stream.stream
    c.in_ok-stream.ensures.holds (omega (arith, c.in_ok-stream.ensures.left)) in
    (refl, c.in-Err.ensures.fault c.args.limit [] c.args.input.now [] first)

pub returns-then-ne-clause-refuses : goal.returns-then-ne-clause-refuses
returns-then-ne-clause-refuses g c =
    let first = begun g.R.Read.remaining c.args.limit [] c.args.input.now c.in_ok-stream.stream
    c.in_ok-stream.ensures.holds (omega (arith, c.in_ok-stream.ensures.left)) in
    let gets = c.in_default.ensures.one c.args.limit [] c.args.input.now [] first in
    let differs = differing_gap c.gap.result c.args.gap c.if-ne.ensures in (
      refl,
      begins_other g.R.Read.remaining c.args.limit c.args.gap c.args.input.now c.advance.new.source
          c.advance.new.self (λ same. differs (c.gap.ensures ∙ same)) gets,
      gets_asked g.R.Read.remaining c.args.limit c.args.gap c.args.input.now c.advance.new.source
          c.advance.new.self [] gets,
    )

pub returns-clause-reads : goal.returns-clause-reads
returns-clause-reads g c =
    let first = begun g.R.Read.remaining c.args.limit [] c.args.input.now c.in_ok-stream.stream
    c.in_ok-stream.ensures.holds (omega (arith, c.in_ok-stream.ensures.left)) in
    record {
      gap_is = sym c.gap.ensures ∙ same_gap c.gap.result c.args.gap c.if-ne.ensures;
      size = omega (arith, c.in_default.ensures.size, c.in_ok-stream.ensures.size, c.requires);
      gets = c.in_default.ensures.one c.args.limit [] c.args.input.now [] first;
      keeps = c.advance.ensures.keeping ∙ c.in_ok-stream.ensures.keeping;
      lends = c.in_default.ensures.taken c.args.limit [] c.args.input.now []
          c.in_ok-stream.ensures.keeping first;
    }

pub returns-in_err-stream-clause-refuses : goal.returns-in_err-stream-clause-refuses
returns-in_err-stream-clause-refuses g c =
    in_err _ _ c.from_residual.ensures.1
    (IsAsked-none g.R.Read.remaining c.args.limit c.args.input.now)
