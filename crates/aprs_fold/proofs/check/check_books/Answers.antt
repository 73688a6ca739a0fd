use Rattle.aprs_fold.proofs.Common.{◌≢◌, [], List, map, sym, subst, arith}
use Rattle.aprs_bookfile.specs.declared.row_stream.RowStream.{RowStream}
use Rattle.aprs_fold.specs.Streams.{AreReading}
use Rattle.aprs_fold.specs.declared.fault.FoldFault.TheVariants.{Memory, Write}
use Rattle.aprs_fold.proofs.InErr.{in_err}
use Rattle.aprs_rows.proofs.Matches.{opened_again}
use Rattle.aprs_fold.specs.Fronts.{in_front}
use Rattle.aprs_fold.proofs.Points.{asked, is_ready, is_within, unwritten}
use Rattle.aprs_fold.proofs.Reading.{AreReading-ended}
use Rattle.aprs_fold.proofs.Streamed.{AreOpened-all}
use Rattle.aprs_fold.proofs.check.check_books.Goals as goal

pub returns-in_err-opened-clause-unwritten : goal.returns-in_err-opened-clause-unwritten
returns-in_err-opened-clause-unwritten g c =
    in_err _ (λ fault. fault ≢ Write) c.from_residual.ensures.1
    (unwritten _ c.in_err-opened.ensures.own)

pub returns-in_err-tournament-clause-unwritten : goal.returns-in_err-tournament-clause-unwritten
returns-in_err-tournament-clause-unwritten g c =
    in_err _ (λ fault. fault ≢ Write) c.from_residual-in_err-tournament.ensures.1
    (unwritten Memory tt)

pub loop-index-init : goal.loop-index-init
loop-index-init g c = record {
  point = record {
    taken = map (λ (s : RowStream _). []) c.as_mut_slice-streams.result.now;
    reading = subst (λ (l : List (RowStream _)). AreReading g.R.Read.remaining c.args.limit
        c.args.gap c.args.inputs.now c.open_all.new.inputs l (map (λ (s : RowStream _). []) l))
        (sym c.as_mut_slice-streams.ensures.value) (AreOpened-all g.R.Read.remaining c.args.limit
        c.args.gap c.args.inputs.now c.open_all.new.inputs c.in_ok-opened.opened.items
        c.in_ok-opened.ensures.all c.in_ok-opened.ensures.reads);
  };
  played = c.in_ok-tournament.ensures.played;
}

pub advance-requires-clause-ready : goal.advance-requires-clause-ready
advance-requires-clause-ready g c =
    is_ready c.loop-index.invariant.point c.in-Some.ensures.some

pub advance-requires-clause-within : goal.advance-requires-clause-within
advance-requires-clause-within g c =
    is_within c.loop-index.invariant.point c.in-Some.ensures.some

pub returns-in_err-advance-clause-refuses : goal.returns-in_err-advance-clause-refuses
returns-in_err-advance-clause-refuses g c =
    let p = c.loop-index.invariant.point in
    in_err _ _ c.from_residual-in_err-advance.ensures.1
    ((c.in_err-advance.ensures.fault c.args.limit c.args.gap c.args.inputs.now p.taken
    p.reading).0)

pub returns-in_err-advance-clause-unwritten : goal.returns-in_err-advance-clause-unwritten
returns-in_err-advance-clause-unwritten g c =
    in_err _ (λ fault. fault ≢ Write) c.from_residual-in_err-advance.ensures.1
    (unwritten _ c.in_err-advance.ensures.own)

pub returns-in_err-advance-clause-asks : goal.returns-in_err-advance-clause-asks
returns-in_err-advance-clause-asks g c =
    let p = c.loop-index.invariant.point in
    (c.in_err-advance.ensures.fault c.args.limit c.args.gap c.args.inputs.now p.taken p.reading).1

pub play_again-requires-clause-there : goal.play_again-requires-clause-there
play_again-requires-clause-there g c =
    let len = c.in_ok-advance.ensures.stays.0 in
    let within = c.in-Some.ensures.some.within in
    omega (arith, len, within)

pub play_again-requires-clause-played : goal.play_again-requires-clause-played
play_again-requires-clause-played g c =
    let stays = c.in_ok-advance.ensures.stays in
    opened_again in_front c.loop-index.streams c.loop-index.tournament
    c.loop-index.invariant.played c.advance.new.streams c.in-Some.index stays.0 stays.1

pub loop-index-preserved : goal.loop-index-preserved
loop-index-preserved g c =
    let p = c.loop-index.invariant.point in
    let one = c.in_ok-advance.ensures.one c.args.limit c.args.gap c.args.inputs.now p.taken
    p.reading in
    record {
      point = record { taken = _; reading = one.0 };
      played = c.play_again.ensures;
    }

pub returns-clause-books : goal.returns-clause-books
returns-clause-books g c =
    let p = c.loop-index.invariant.point in (
      p.taken,
      AreReading-ended g.R.Read.remaining c.args.limit c.args.gap c.args.inputs.now
          c.loop-index.inputs c.loop-index.streams p.taken c.in_default.ensures.none p.reading,
    )

pub returns-clause-asks : goal.returns-clause-asks
returns-clause-asks g c = asked c.loop-index.invariant.point
