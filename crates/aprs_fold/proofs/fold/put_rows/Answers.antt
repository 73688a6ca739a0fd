use Rattle.aprs_fold.proofs.Common.{[], List, Row, map, sym, subst, arith}
use Rattle.aprs_bookfile.specs.declared.row_stream.RowStream.{RowStream}
use Rattle.aprs_fold.specs.Streams.{AreReading}
use Rattle.aprs_fold.specs.declared.fault.FoldFault.TheVariants.{Memory}
use Rattle.aprs_fold.proofs.Begun.{ChangesAt-none}
use Rattle.aprs_fold.specs.LastRow.{last_row_after}
use Rattle.aprs_fold.proofs.InErr.{in_err}
use Rattle.aprs_fold.proofs.LastRows.{lent_again}
use Rattle.aprs_fold.proofs.Reading.{AreReading-lends}
use Rattle.aprs_rows.proofs.Matches.{opened_again}
use Rattle.aprs_fold.specs.Fronts.{in_front}
use Rattle.aprs_fold.proofs.Points.{asked, by_memory, by_write, is_ready, is_within}
use Rattle.aprs_fold.proofs.Streamed.{memory_own, AreOpened-all}
use Rattle.aprs_fold.proofs.Walking.{leaves_here, leaves_none, leaves_taken, leaves_taking, leaves_write, point, taking_refuses, walk_begins, walk_ends, walks_on, Walking}
use Rattle.aprs_fold.proofs.fold.put_rows.Goals as goal

pub returns-in_err-opened-clause-left : goal.returns-in_err-opened-clause-left
returns-in_err-opened-clause-left g c =
    in_err _ _ c.from_residual.ensures.1 (leaves_none c.requires.gap _ c.in_err-opened.ensures.own)

pub returns-in_err-tournament-clause-left : goal.returns-in_err-tournament-clause-left
returns-in_err-tournament-clause-left g c =
    in_err _ _ c.from_residual-in_err-tournament.ensures.1 (leaves_none c.requires.gap Memory tt)

pub loop-index-init : goal.loop-index-init
loop-index-init g c = record {
  walks = subst (λ (last : List Row). Walking g.R.Read.remaining g.W.Write.contents c.args.limit
      c.args.gap c.args.range.now c.args.inputs.now c.open_all.new.inputs
      c.as_mut_slice-streams.result.now c.args.out.now c.args.out.now last 0)
      (sym (c.new-last.ensures c.as_mut_slice-streams.result.now)) (walk_begins _ _ (subst (λ (l : List (RowStream _)). AreReading
      g.R.Read.remaining c.args.limit c.args.gap c.args.inputs.now c.open_all.new.inputs l
      (map (λ (s : RowStream _). []) l)) (sym c.as_mut_slice-streams.ensures.value)
      (AreOpened-all g.R.Read.remaining c.args.limit c.args.gap c.args.inputs.now
      c.open_all.new.inputs c.in_ok-opened.opened.items c.in_ok-opened.ensures.all
      c.in_ok-opened.ensures.reads)));
  played = c.in_ok-tournament.ensures.played;
}

pub returns-in_err-wrote-clause-refuses : goal.returns-in_err-wrote-clause-refuses
returns-in_err-wrote-clause-refuses g c =
    let f = c.in-Some.ensures.some in
    in_err _ _ c.from_residual-in_err-wrote.ensures.1
    (taking_refuses c.requires.gap c.loop-index.invariant.walks f _
    c.take_front.new.out (c.in_err-wrote.ensures.fails f.row f.is).1)

pub returns-in_err-wrote-clause-left : goal.returns-in_err-wrote-clause-left
returns-in_err-wrote-clause-left g c =
    let f = c.in-Some.ensures.some in
    let t = c.in_err-wrote.ensures.fails f.row f.is in
    in_err _ _ c.from_residual-in_err-wrote.ensures.1
    (leaves_taking c.requires.gap c.loop-index.invariant.walks f _
    c.take_front.new.out t.0 t.1)

pub returns-in_err-wrote-clause-asks : goal.returns-in_err-wrote-clause-asks
returns-in_err-wrote-clause-asks g c = asked (point c.requires.gap c.loop-index.invariant.walks)

pub returns-in_err-count-clause-refuses : goal.returns-in_err-count-clause-refuses
returns-in_err-count-clause-refuses g c =
    in_err _ _ c.from_residual-in_err-count.ensures.1
    (by_memory (point c.requires.gap c.loop-index.invariant.walks) _
    c.in_err-count.ensures.fails)

pub returns-in_err-count-clause-left : goal.returns-in_err-count-clause-left
returns-in_err-count-clause-left g c =
    let f = c.in-Some.ensures.some in
    let t = c.in_ok-wrote.ensures.takes f.row f.is in
    in_err _ _ c.from_residual-in_err-count.ensures.1
    (leaves_taken c.requires.gap c.loop-index.invariant.walks f t.2.closed
    c.take_front.new.out t.0 t.2.puts (last_row_after c.take_front.new.last f.row) t.2.takes _
    (memory_own _ c.in_err-count.ensures.fails) c.loop-index.inputs
    (ChangesAt-none c.in-Some.index c.loop-index.inputs))

pub returns-in_err-count-clause-asks : goal.returns-in_err-count-clause-asks
returns-in_err-count-clause-asks g c = asked (point c.requires.gap c.loop-index.invariant.walks)

pub advance-requires-clause-ready : goal.advance-requires-clause-ready
advance-requires-clause-ready g c =
    is_ready (point c.requires.gap c.loop-index.invariant.walks) c.in-Some.ensures.some

pub advance-requires-clause-within : goal.advance-requires-clause-within
advance-requires-clause-within g c =
    is_within (point c.requires.gap c.loop-index.invariant.walks) c.in-Some.ensures.some

pub returns-in_err-advance-clause-refuses : goal.returns-in_err-advance-clause-refuses
returns-in_err-advance-clause-refuses g c =
    in_err _ _ c.from_residual-in_err-advance.ensures.1
    ((c.in_err-advance.ensures.fault c.args.limit c.args.gap c.args.inputs.now
    c.loop-index.invariant.walks.taken c.loop-index.invariant.walks.reading).0)

pub returns-in_err-advance-clause-left : goal.returns-in_err-advance-clause-left
returns-in_err-advance-clause-left g c =
    let f = c.in-Some.ensures.some in
    let t = c.in_ok-wrote.ensures.takes f.row f.is in
    in_err _ _ c.from_residual-in_err-advance.ensures.1
    (leaves_taken c.requires.gap c.loop-index.invariant.walks f t.2.closed
    c.take_front.new.out t.0 t.2.puts (last_row_after c.take_front.new.last f.row) t.2.takes _
    c.in_err-advance.ensures.own c.advance.new.inputs c.in_err-advance.ensures.changes)

pub returns-in_err-advance-clause-asks : goal.returns-in_err-advance-clause-asks
returns-in_err-advance-clause-asks g c = (c.in_err-advance.ensures.fault c.args.limit c.args.gap
    c.args.inputs.now c.loop-index.invariant.walks.taken c.loop-index.invariant.walks.reading).1

pub play_again-requires-clause-there : goal.play_again-requires-clause-there
play_again-requires-clause-there g c =
    let len = c.in_ok-advance.ensures.stays.0 in
    let within = c.in-Some.ensures.some.within in
    omega (arith, len, within)

pub play_again-requires-clause-played : goal.play_again-requires-clause-played
play_again-requires-clause-played g c =
    let stays = c.in_ok-advance.ensures.stays in
    opened_again in_front c.loop-index.streams c.loop-index.tournament
    c.loop-index.invariant.played c.advance.new.streams c.in-Some.index stays.0 stays.1

pub loop-index-preserved : goal.loop-index-preserved
loop-index-preserved g c =
    let f = c.in-Some.ensures.some in
    let t = c.in_ok-wrote.ensures.takes f.row f.is in
    let one = c.in_ok-advance.ensures.one c.args.limit c.args.gap c.args.inputs.now
    c.loop-index.invariant.walks.taken c.loop-index.invariant.walks.reading in
    let last = c.take_front.new.last in
    let lent = AreReading-lends g.R.Read.remaining c.args.limit c.args.gap c.in-Some.index
    c.args.inputs.now c.loop-index.inputs c.advance.new.inputs c.loop-index.streams
    c.advance.new.streams c.loop-index.invariant.walks.taken f.row f.is
    c.loop-index.invariant.walks.reading one.0 in
    record {
      walks = subst (λ (l : List Row). Walking g.R.Read.remaining g.W.Write.contents c.args.limit
          c.args.gap c.args.range.now c.args.inputs.now c.advance.new.inputs
          c.advance.new.streams c.args.out.now c.take_front.new.out l c.in_ok-count.count)
          (lent_again c.in-Some.index last.stream last.joined f.row c.advance.new.streams t.1 lent)
          (walks_on c.requires.gap c.loop-index.invariant.walks f t.2.closed
          c.take_front.new.out t.0 t.2.puts (last_row_after last f.row) c.advance.new.inputs
          c.advance.new.streams c.in_ok-wrote.wrote c.in_ok-count.count t.2.takes t.2.is_there
          c.in_ok-count.ensures.counts one.0 one.1);
      played = c.play_again.ensures;
    }

pub returns-in_err-all-clause-refuses : goal.returns-in_err-all-clause-refuses
returns-in_err-all-clause-refuses g c =
    in_err _ _ c.from_residual-in_err-all.ensures.1
    (by_memory (point c.requires.gap c.loop-index.invariant.walks) _
    c.in_err-all.ensures.fails)

pub returns-in_err-all-clause-left : goal.returns-in_err-all-clause-left
returns-in_err-all-clause-left g c =
    in_err _ _ c.from_residual-in_err-all.ensures.1
    (leaves_here c.requires.gap c.loop-index.invariant.walks _
    (memory_own _ c.in_err-all.ensures.fails))

pub returns-in_err-all-clause-asks : goal.returns-in_err-all-clause-asks
returns-in_err-all-clause-asks g c = asked (point c.requires.gap c.loop-index.invariant.walks)

pub returns-in_err-put_last-clause-refuses : goal.returns-in_err-put_last-clause-refuses
returns-in_err-put_last-clause-refuses g c =
    in_err _ _ c.from_residual-in_err-put_last.ensures.1
    (by_write (point c.requires.gap c.loop-index.invariant.walks) _
    c.in_err-put_last.ensures.fails.0)

pub returns-in_err-put_last-clause-left : goal.returns-in_err-put_last-clause-left
returns-in_err-put_last-clause-left g c =
    in_err _ _ c.from_residual-in_err-put_last.ensures.1
    (leaves_write c.requires.gap c.loop-index.invariant.walks _
    c.put_last.new.out (rw c.row-2.ensures at c.in_err-put_last.ensures.fails))

pub returns-in_err-put_last-clause-asks : goal.returns-in_err-put_last-clause-asks
returns-in_err-put_last-clause-asks g c = asked (point c.requires.gap c.loop-index.invariant.walks)

pub returns-clause-folds : goal.returns-clause-folds
returns-clause-folds g c = walk_ends c.requires.gap c.loop-index.invariant.walks
    c.in_default.ensures.none c.has_line.result c.put_last.new.out c.in_ok-all.all
    (rw c.row.ensures at c.has_line.ensures) (rw c.row-2.ensures at c.in_ok-put_last.ensures.puts)
    c.in_ok-all.ensures.counts

pub returns-clause-asks : goal.returns-clause-asks
returns-clause-asks g c = asked (point c.requires.gap c.loop-index.invariant.walks)
