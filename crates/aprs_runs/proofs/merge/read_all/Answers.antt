use Rattle.aprs_runs.proofs.Common.{◌≡◌, [], Some, get_or, set, slice_get, length, map, refl, sym, ap, ◌∙◌, add-one, subst, arith, length-map, slice_get-get_or, device_of, BookOf, BookValue, millis_of, book_of_nothing}
use Rattle.aprs_runs.proofs.Merges.{HasRead-all, HasRead-more, HasRead-none, HasRead-refused, after_more, after_same, element_of, same_len, some_each}
use Rattle.aprs_runs.proofs.Readers.{AsksEach-next, ReadsFirst, ReadsFirst-all, ReadsFirst-more, ReadsFirst-next, ReadsFirst-rest}
use Rattle.aprs_runs.proofs.merge.read_all.Goals as goal

pub loop-index-init : goal.loop-index-init
loop-index-init g c = record {
  calls = refl;
  gap = ap (λ (b : BookValue). b.gap) c.new-gathered.ensures;
  some = λ none. absurd (none (ap (λ (b : BookValue). b.rows) c.new-gathered.ensures));
  read = λ inputs e. HasRead-none _ _ inputs _ _
      (subst (λ rows. BookOf (millis_of c.args.gap) [] rows)
      (sym (ap (λ (b : BookValue). b.rows) c.new-gathered.ensures))
      (book_of_nothing (millis_of c.args.gap)));
}

pub loop-index-preserved : goal.loop-index-preserved
loop-index-preserved g c =
    let i = c.loop-index.index in
    let old = c.args.inputs.now in
    let now = c.loop-index.inputs in
    let r = get_or now i c.index-inputs-index.result in
    let new = c.read_into.new.r in
    let here : slice_get now i ≡ Some r = slice_get-get_or now i c.index-inputs-index.result
    (omega (arith, c.loop-index-test.true, c.loop-index.auto.inputs)) in
    let at = ReadsFirst-next i old now c.loop-index.invariant.calls ∙ here in
    record {
      calls = subst (λ n. ReadsFirst n old (set now i new)) (sym (add-one i))
          (ReadsFirst-more r new i old now c.loop-index.invariant.calls here c.in-Ok.ensures.calls);
      some = λ none. omega arith;
      read = λ inputs e. HasRead-more _ c.args.limit inputs
          (map (λ r. g.R.Read.remaining (device_of r)) now) _ i c.loop-index.gathered.rows _ _
          (c.loop-index.invariant.read inputs e)
          (element_of (λ r. g.R.Read.remaining (device_of r)) old _ i r at e)
          (after_more (λ r. g.R.Read.remaining (device_of r)) now i new
          (omega (arith, c.loop-index-test.true, c.loop-index.auto.inputs)))
          c.read_into.new.gathered.rows
          _ refl c.loop-index.gathered.gap c.loop-index.invariant.gap c.in-Ok.ensures.reads;
      gap = c.read_into.ensures.gap ∙ c.loop-index.invariant.gap;
    }

pub returns-in-Err-clause-reads : goal.returns-in-Err-clause-reads
returns-in-Err-clause-reads g c =
    let i = c.loop-index.index in
    let old = c.args.inputs.now in
    let now = c.loop-index.inputs in
    let r = get_or now i c.index-inputs-index.result in
    let at = ReadsFirst-next i old now c.loop-index.invariant.calls
    ∙ slice_get-get_or now i c.index-inputs-index.result
    (omega (arith, c.loop-index-test.true, c.loop-index.auto.inputs)) in
    λ inputs e.
    HasRead-refused _ c.args.limit inputs (map (λ r. g.R.Read.remaining (device_of r)) now) _ i
    c.loop-index.gathered.rows _ _ (c.loop-index.invariant.read inputs e)
    (element_of (λ r. g.R.Read.remaining (device_of r)) old _ i r at e)
    (after_more (λ r. g.R.Read.remaining (device_of r)) now i c.read_into.new.r
    (omega (arith, c.loop-index-test.true, c.loop-index.auto.inputs)))
    c.in-Err.fault c.loop-index.gathered.rows c.read_into.new.gathered.rows
    _ refl (after_same (λ r. g.R.Read.remaining (device_of r)) now old (some_each inputs) i
    c.read_into.new.r (ReadsFirst-rest i old now c.loop-index.invariant.calls) e)
    c.loop-index.gathered.gap
    c.loop-index.invariant.gap c.in-Err.ensures.reads

pub returns-in-Err-clause-calls : goal.returns-in-Err-clause-calls
returns-in-Err-clause-calls g c =
    let i = c.loop-index.index in
    let now = c.loop-index.inputs in
    AsksEach-next (get_or now i c.index-inputs-index.result) c.read_into.new.r c.in-Err.fault i
    c.args.inputs.now now c.loop-index.invariant.calls
    (slice_get-get_or now i c.index-inputs-index.result
    (omega (arith, c.loop-index-test.true, c.loop-index.auto.inputs))) c.in-Err.ensures.calls

pub returns-clause-reads : goal.returns-clause-reads
returns-clause-reads g c = λ inputs e.
    let len = same_len (λ r. g.R.Read.remaining (device_of r)) c.args.inputs.now inputs e in
    let new = length-map c.loop-index.inputs (λ r. g.R.Read.remaining (device_of r)) in
    HasRead-all _ c.args.limit inputs _ c.loop-index.index c.loop-index.gathered
    c.loop-index.invariant.gap (c.loop-index.invariant.read inputs e)
    (omega (arith, len, c.loop-index-test.false, c.loop-index.auto.index-end))
    (omega (
      arith,
      len,
      new,
      c.loop-index-test.false,
      c.loop-index.auto.index-end,
      c.loop-index.auto.inputs,
    ))

pub returns-clause-calls : goal.returns-clause-calls
returns-clause-calls g c =
    let whole : c.loop-index.index ≡ length c.args.inputs.now =
    omega (arith, c.loop-index-test.false, c.loop-index.auto.index-end) in
    ReadsFirst-all c.args.inputs.now c.loop-index.inputs
    (subst (λ n. ReadsFirst n c.args.inputs.now c.loop-index.inputs) whole
    c.loop-index.invariant.calls)
