use Rattle.aprs_rows.proofs.Common.{[], ◌++◌, map, arith, length-append}
use Rattle.aprs_rows.specs.Sorted.{ascending_text}
use Rattle.aprs_rows.proofs.SortedTexts.{all_put, next_fits, next_put}
use Rattle.aprs_rows.proofs.row.name_room.put_ascending.Goals as goal

pub put_next-requires : goal.put_next-requires
put_next-requires g c =
    let fits = next_fits c.args.names.now c.in-Some.others.now c.in-Some.first.now c.loop-i.i
    (record { ref_ptr = (0, 0); now = [] }) c.loop-i.text.items
    (c.args.text.now.items ++ ascending_text (map (λ n. n.now) c.args.names.now))
    c.in-Some.ensures.cases.0 c.loop-i-test.true c.loop-i.invariant.text in
    let all = length-append c.args.text.now.items
    (ascending_text (map (λ n. n.now) c.args.names.now)) in
    omega (
      arith,
      fits,
      all,
      c.requires,
      c.loop-i.invariant.capacity,
      c.loop-i.text.ok.0,
      c.args.text.now.ok.0,
    )

pub loop-i-preserved : goal.loop-i-preserved
loop-i-preserved g c = record {
  text = next_put c.args.names.now c.in-Some.others.now c.in-Some.first.now c.loop-i.i _
      c.loop-i.text.items _ c.put_next.new.text.items c.in-Some.ensures.cases.0
      c.loop-i-test.true c.loop-i.invariant.text c.put_next.ensures.text;
  capacity = omega (arith, c.loop-i.invariant.capacity, c.put_next.ensures.capacity);
}

pub returns-clause-text : goal.returns-clause-text
returns-clause-text g c =
    all_put c.args.names.now c.in-Some.others.now c.in-Some.first.now c.loop-i.i
    c.loop-i.text.items _ c.in-Some.ensures.cases.0 c.loop-i-test.false c.loop-i.invariant.text
