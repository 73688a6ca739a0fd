use Rattle.std.proofs.Common.{◌/◌, arith}
use Rattle.aprs_rows.specs.Matches.{IsAbove}
use Rattle.aprs_rows.proofs.Matches.{above_after, above_last, above_next, all_played, played_one}
use Rattle.aprs_rows.proofs.store.tournament.play_above.Goals as goal

pub loop-number-preserved : goal.loop-number-preserved
loop-number-preserved g c =
    let number = c.loop-number.number in
    let more = c.loop-number-test.true in
    let within = c.loop-number.invariant.within in
    record {
      within = omega (arith, within);
      played = played_one g.T.HasFront.front c.args.streams.now c.loop-number.winners c.play.new.winners (number / 2)
          (IsAbove number) (IsAbove (number / 2)) c.loop-number.invariant.played
          (omega (arith, more)) (omega (arith, within)) c.play.ensures.each c.play.ensures.won
          c.play.ensures.others (λ k h. above_next number k h)
          (λ k some h. above_after (number / 2) k h);
    }

pub returns : goal.returns
returns g c = all_played g.T.HasFront.front c.args.streams.now c.loop-number.winners (IsAbove c.loop-number.number)
    c.loop-number.invariant.played
    (λ k some h. above_last c.loop-number.number k c.loop-number-test.false some h)
