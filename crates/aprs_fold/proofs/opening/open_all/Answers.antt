use Rattle.aprs_fold.proofs.Common.{◌∷◌, [], ◌∙◌, List, ap, sym, subst, arith, get_or, set, length, length-append, slice_get-get_or}
use Rattle.aprs_bookfile.specs.declared.row_stream.RowStream.{RowStream}
use Rattle.aprs_fold.specs.Streams.{AreOpened}
use Rattle.aprs_fold.specs.declared.fault.FoldFault.TheVariants.{Memory}
use Rattle.aprs_fold.proofs.InErr.{in_err}
use Rattle.aprs_fold.proofs.Reading.{reading_asked}
use Rattle.aprs_fold.proofs.Streamed.{memory_own, one_own, AreOpened-asked, AreOpened-dropped, AreOpened-more, AreOpened-refused, AreOpened-refused_asked}
use Rattle.aprs_fold.proofs.Points.{memory_refuses}
use Rattle.aprs_fold.proofs.opening.open_all.Goals as goal

pub returns-in_err-stream-clause-own : goal.returns-in_err-stream-clause-own
returns-in_err-stream-clause-own g c =
    let now = c.loop-index.inputs in
    in_err _ _ c.from_residual.ensures.1
    (one_own g.R.Read.remaining c.args.limit c.args.gap c.loop-index.index _
    (get_or now c.loop-index.index c.index-inputs-index.result) c.open_one.new.input
    c.in_err-stream.ensures.refuses)

pub returns-in_err-stream-clause-refuses : goal.returns-in_err-stream-clause-refuses
returns-in_err-stream-clause-refuses g c =
    let i = c.loop-index.index in
    let now = c.loop-index.inputs in
    let r = get_or now i c.index-inputs-index.result in
    let here = slice_get-get_or now i c.index-inputs-index.result
    (omega (arith, c.loop-index-test.true, c.loop-index.auto.inputs)) in
    in_err _ _ c.from_residual.ensures.1
    (AreOpened-refused g.R.Read.remaining c.args.limit c.args.gap _ r
    c.open_one.new.input c.args.inputs.now now c.loop-index.streams.items i
    c.loop-index.invariant.count here c.in_err-stream.ensures.refuses c.loop-index.invariant.opened)

pub returns-in_err-stream-clause-asks : goal.returns-in_err-stream-clause-asks
returns-in_err-stream-clause-asks g c =
    let i = c.loop-index.index in
    let now = c.loop-index.inputs in
    let r = get_or now i c.index-inputs-index.result in
    let here = slice_get-get_or now i c.index-inputs-index.result
    (omega (arith, c.loop-index-test.true, c.loop-index.auto.inputs)) in
    AreOpened-refused_asked g.R.Read.remaining c.args.limit c.args.gap _ r
    c.open_one.new.input c.args.inputs.now now c.loop-index.streams.items i
    c.loop-index.invariant.count here c.in_err-stream.ensures.refuses c.loop-index.invariant.opened

pub returns-in_err-keep-clause-own : goal.returns-in_err-keep-clause-own
returns-in_err-keep-clause-own g c =
    in_err _ _ c.from_residual-in_err-keep.ensures.1 (memory_own _ c.in_err-keep.ensures.memory)

pub returns-in_err-keep-clause-refuses : goal.returns-in_err-keep-clause-refuses
returns-in_err-keep-clause-refuses g c =
    in_err _ _ c.from_residual-in_err-keep.ensures.1
    (memory_refuses g.R.Read.remaining c.args.limit c.args.gap c.args.inputs.now _ _
    c.in_err-keep.ensures.memory)

pub returns-in_err-keep-clause-asks : goal.returns-in_err-keep-clause-asks
returns-in_err-keep-clause-asks g c =
    let i = c.loop-index.index in
    let now = c.loop-index.inputs in
    let r = get_or now i c.index-inputs-index.result in
    let here = slice_get-get_or now i c.index-inputs-index.result
    (omega (arith, c.loop-index-test.true, c.loop-index.auto.inputs)) in
    AreOpened-dropped g.R.Read.remaining c.args.limit c.args.gap
    Memory r
    c.open_one.new.input c.args.inputs.now now c.loop-index.streams.items i
    c.loop-index.invariant.count here
    (reading_asked g.R.Read.remaining c.args.limit c.args.gap r c.open_one.new.input
    c.in_ok-stream.stream [] c.in_ok-stream.ensures.reads) c.loop-index.invariant.opened

pub loop-index-preserved : goal.loop-index-preserved
loop-index-preserved g c =
    let i = c.loop-index.index in
    let now = c.loop-index.inputs in
    let r = get_or now i c.index-inputs-index.result in
    let here = slice_get-get_or now i c.index-inputs-index.result
    (omega (arith, c.loop-index-test.true, c.loop-index.auto.inputs)) in
    let old = c.loop-index.streams.items in
    let kept = c.in_ok-keep.ensures.kept in
    let len = ap length kept ∙ length-append old (c.in_ok-stream.stream ∷ []) in
    record {
      count = omega (arith, len, c.loop-index.invariant.count);
      opened = subst (λ (l : List (RowStream _)). AreOpened g.R.Read.remaining c.args.limit
          c.args.gap c.args.inputs.now (set now i c.open_one.new.input) l) (sym kept)
          (AreOpened-more g.R.Read.remaining c.args.limit c.args.gap c.args.inputs.now now old i r
          c.open_one.new.input c.in_ok-stream.stream c.loop-index.invariant.count here
          c.in_ok-stream.ensures.reads c.loop-index.invariant.opened);
    }

pub returns-clause-asks : goal.returns-clause-asks
returns-clause-asks g c = AreOpened-asked g.R.Read.remaining c.args.limit c.args.gap
    c.args.inputs.now c.loop-index.inputs c.loop-index.streams.items c.loop-index.invariant.opened
