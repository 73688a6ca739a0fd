use Rattle.aprs_fold.proofs.Common.{[], List, Row, map, true, inr, sym, subst, arith}
use Rattle.aprs_bookfile.specs.declared.row_stream.RowStream.{RowStream}
use Rattle.aprs_fold.specs.Known.{IsNewing}
use Rattle.aprs_fold.specs.Streams.{AreReading}
use Rattle.aprs_fold.specs.declared.fault.FoldFault.TheVariants.{Memory}
use Rattle.aprs_fold.specs.LastRow.{last_row_after}
use Rattle.aprs_fold.proofs.InErr.{in_err}
use Rattle.aprs_fold.proofs.LastRows.{lent_again}
use Rattle.aprs_fold.proofs.Reading.{AreReading-lends}
use Rattle.aprs_rows.proofs.Matches.{opened_again}
use Rattle.aprs_fold.specs.Fronts.{in_front}
use Rattle.aprs_fold.proofs.Newing.{fails_left, fails_refused, leaves_begun, leaves_put, news_begins, news_end, news_on, point}
use Rattle.aprs_fold.proofs.Points.{asked, by_memory, by_write, is_ready, is_within}
use Rattle.aprs_fold.proofs.Streamed.{memory_own, AreOpened-all}
use Rattle.aprs_fold.proofs.news.put_news.Goals as goal

pub returns-in_err-opened-clause-left : goal.returns-in_err-opened-clause-left
returns-in_err-opened-clause-left g c =
    in_err _ _ c.from_residual.ensures.1
    (leaves_begun g.W.Write.contents c.args.gap c.args.out.now c.requires.gap _
    c.in_err-opened.ensures.own)

pub returns-in_err-tournament-clause-left : goal.returns-in_err-tournament-clause-left
returns-in_err-tournament-clause-left g c =
    in_err _ _ c.from_residual-in_err-tournament.ensures.1
    (leaves_begun g.W.Write.contents c.args.gap c.args.out.now c.requires.gap
    Memory tt)

pub loop-index-init : goal.loop-index-init
loop-index-init g c =
    let reading = subst (λ (l : List (RowStream _)). AreReading g.R.Read.remaining c.args.limit
    c.args.gap c.args.inputs.now c.open_all.new.inputs l (map (λ (s : RowStream _). []) l))
    (sym c.as_mut_slice-streams.ensures.value) (AreOpened-all g.R.Read.remaining c.args.limit
    c.args.gap c.args.inputs.now c.open_all.new.inputs c.in_ok-opened.opened.items
    c.in_ok-opened.ensures.all c.in_ok-opened.ensures.reads) in
    record {
      newing = subst (λ (last : List Row). IsNewing g.R.Read.remaining g.W.Write.contents
          c.args.limit c.args.gap c.args.range.now c.args.inputs.now c.open_all.new.inputs
          c.as_mut_slice-streams.result.now c.args.out.now c.args.out.now last 0)
          (sym (c.new-last.ensures c.as_mut_slice-streams.result.now))
          (news_begins _ _ reading);
      played = c.in_ok-tournament.ensures.played;
    }

pub returns-in_err-wrote-clause-left : goal.returns-in_err-wrote-clause-left
returns-in_err-wrote-clause-left g c =
    in_err _ _ c.from_residual-in_err-wrote.ensures.1
    (fails_left c.requires.gap c.loop-index.invariant.newing _ c.take_front_new.new.out
    c.in_err-wrote.ensures.fails)

pub returns-in_err-wrote-clause-refuses : goal.returns-in_err-wrote-clause-refuses
returns-in_err-wrote-clause-refuses g c =
    in_err _ _ c.from_residual-in_err-wrote.ensures.1
    (fails_refused c.requires.gap c.loop-index.invariant.newing _
    c.take_front_new.new.out c.in_err-wrote.ensures.fails)

pub returns-in_err-wrote-clause-asks : goal.returns-in_err-wrote-clause-asks
returns-in_err-wrote-clause-asks g c =
    asked (point c.requires.gap c.loop-index.invariant.newing)

pub returns-in_err-count-clause-left : goal.returns-in_err-count-clause-left
returns-in_err-count-clause-left g c =
    let f = c.in-Some.ensures.some in
    let t = c.in_ok-wrote.ensures.takes f.row f.is in
    in_err _ _ c.from_residual-in_err-count.ensures.1
    (leaves_put c.requires.gap c.loop-index.invariant.newing t.2.closed t.2.puts _
    (memory_own _ c.in_err-count.ensures.fails))

pub returns-in_err-count-clause-refuses : goal.returns-in_err-count-clause-refuses
returns-in_err-count-clause-refuses g c =
    in_err _ _ c.from_residual-in_err-count.ensures.1
    (by_memory (point c.requires.gap c.loop-index.invariant.newing) _
    c.in_err-count.ensures.fails)

pub returns-in_err-count-clause-asks : goal.returns-in_err-count-clause-asks
returns-in_err-count-clause-asks g c =
    asked (point c.requires.gap c.loop-index.invariant.newing)

pub advance-requires-clause-ready : goal.advance-requires-clause-ready
advance-requires-clause-ready g c =
    is_ready (point c.requires.gap c.loop-index.invariant.newing) c.in-Some.ensures.some

pub advance-requires-clause-within : goal.advance-requires-clause-within
advance-requires-clause-within g c =
    is_within (point c.requires.gap c.loop-index.invariant.newing) c.in-Some.ensures.some

pub returns-in_err-advance-clause-left : goal.returns-in_err-advance-clause-left
returns-in_err-advance-clause-left g c =
    let f = c.in-Some.ensures.some in
    let t = c.in_ok-wrote.ensures.takes f.row f.is in
    in_err _ _ c.from_residual-in_err-advance.ensures.1
    (leaves_put c.requires.gap c.loop-index.invariant.newing t.2.closed t.2.puts _
    c.in_err-advance.ensures.own)

pub returns-in_err-advance-clause-refuses : goal.returns-in_err-advance-clause-refuses
returns-in_err-advance-clause-refuses g c =
    in_err _ _ c.from_residual-in_err-advance.ensures.1
    ((c.in_err-advance.ensures.fault c.args.limit c.args.gap c.args.inputs.now
    c.loop-index.invariant.newing.taken c.loop-index.invariant.newing.reading).0)

pub returns-in_err-advance-clause-asks : goal.returns-in_err-advance-clause-asks
returns-in_err-advance-clause-asks g c = (c.in_err-advance.ensures.fault c.args.limit c.args.gap
    c.args.inputs.now c.loop-index.invariant.newing.taken c.loop-index.invariant.newing.reading).1

pub play_again-requires-clause-there : goal.play_again-requires-clause-there
play_again-requires-clause-there g c =
    let len = c.in_ok-advance.ensures.stays.0 in
    let within = c.in-Some.ensures.some.within in
    omega (arith, len, within)

pub play_again-requires-clause-played : goal.play_again-requires-clause-played
play_again-requires-clause-played g c =
    let stays = c.in_ok-advance.ensures.stays in
    opened_again in_front c.loop-index.streams c.loop-index.tournament
    c.loop-index.invariant.played c.advance.new.streams c.in-Some.index stays.0 stays.1

pub loop-index-preserved : goal.loop-index-preserved
loop-index-preserved g c =
    let f = c.in-Some.ensures.some in
    let t = c.in_ok-wrote.ensures.takes f.row f.is in
    let one = c.in_ok-advance.ensures.one c.args.limit c.args.gap c.args.inputs.now
    c.loop-index.invariant.newing.taken c.loop-index.invariant.newing.reading in
    let last = c.take_front_new.new.last in
    let lent = AreReading-lends g.R.Read.remaining c.args.limit c.args.gap c.in-Some.index
    c.args.inputs.now c.loop-index.inputs c.advance.new.inputs c.loop-index.streams
    c.advance.new.streams c.loop-index.invariant.newing.taken f.row f.is
    c.loop-index.invariant.newing.reading one.0 in
    record {
      newing = subst (λ (l : List Row). IsNewing g.R.Read.remaining g.W.Write.contents
          c.args.limit c.args.gap c.args.range.now c.args.inputs.now c.advance.new.inputs
          c.advance.new.streams c.args.out.now c.take_front_new.new.out l c.in_ok-count.count)
          (lent_again c.in-Some.index last.stream last.joined f.row c.advance.new.streams t.1 lent)
          (news_on c.requires.gap c.loop-index.invariant.newing t.2.closed t.2.puts f t.0
          (last_row_after last f.row) t.2.takes c.advance.new.inputs c.advance.new.streams one.0
          one.1 c.in_ok-count.count c.in_ok-count.ensures.counts);
      played = c.play_again.ensures;
    }

pub returns-in_err-some-clause-left : goal.returns-in_err-some-clause-left
returns-in_err-some-clause-left g c =
    in_err _ _ c.from_residual-in_err-some.ensures.1
    (fails_left c.requires.gap c.loop-index.invariant.newing _ c.put_open_new.new.out
    (inr c.in_err-some.ensures.fails))

pub returns-in_err-some-clause-refuses : goal.returns-in_err-some-clause-refuses
returns-in_err-some-clause-refuses g c =
    in_err _ _ c.from_residual-in_err-some.ensures.1
    (by_write (point c.requires.gap c.loop-index.invariant.newing) _
    c.in_err-some.ensures.fails.0)

pub returns-in_err-some-clause-asks : goal.returns-in_err-some-clause-asks
returns-in_err-some-clause-asks g c =
    asked (point c.requires.gap c.loop-index.invariant.newing)

pub returns-in_err-all-clause-left : goal.returns-in_err-all-clause-left
returns-in_err-all-clause-left g c =
    in_err _ _ c.from_residual-in_err-all.ensures.1
    (leaves_put c.requires.gap c.loop-index.invariant.newing true c.in_ok-some.ensures.puts
    _ (memory_own _ c.in_err-all.ensures.fails))

pub returns-in_err-all-clause-refuses : goal.returns-in_err-all-clause-refuses
returns-in_err-all-clause-refuses g c =
    in_err _ _ c.from_residual-in_err-all.ensures.1
    (by_memory (point c.requires.gap c.loop-index.invariant.newing) _
    c.in_err-all.ensures.fails)

pub returns-in_err-all-clause-asks : goal.returns-in_err-all-clause-asks
returns-in_err-all-clause-asks g c =
    asked (point c.requires.gap c.loop-index.invariant.newing)

pub returns-clause-news : goal.returns-clause-news
returns-clause-news g c = news_end c.requires.gap c.loop-index.invariant.newing
    c.in_default.ensures.none c.in_ok-some.some c.put_open_new.new.out c.in_ok-all.all
    c.in_ok-some.ensures.puts c.in_ok-all.ensures.counts

pub returns-clause-asks : goal.returns-clause-asks
returns-clause-asks g c = asked (point c.requires.gap c.loop-index.invariant.newing)
