use Rattle.aprs_rows.proofs.Common.{◌<◌, ◌-◌, ℕ, arith}
use Rattle.aprs_rows.proofs.Matches.{all_played, fewer_to_play, none_played, played_one, second_to_play}
use Rattle.aprs_rows.proofs.store.tournament.play_all.Goals as goal

pub loop-number-init : goal.loop-number-init
loop-number-init g c = record {
  most = omega arith;
  played = none_played g.T.HasFront.front c.args.streams.now c.args.winners.now c.requires.each c.requires.within;
}

pub loop-number-preserved : goal.loop-number-preserved
loop-number-preserved g c =
    let number = c.loop-number.number in
    let more = c.loop-number-test.true in
    let most = c.loop-number.invariant.most in
    record {
      most = omega (arith, most);
      played = played_one g.T.HasFront.front c.args.streams.now c.loop-number.winners c.play.new.winners (number - 1)
          (λ (k : ℕ). k < number) (λ (k : ℕ). k < number - 1) c.loop-number.invariant.played
          (omega (arith, more)) (omega (arith, more, most)) c.play.ensures.each
          c.play.ensures.won c.play.ensures.others (λ k h. fewer_to_play number k more h)
          (λ k some h. second_to_play (number - 1) k some h);
    }

pub returns : goal.returns
returns g c =
    let last = c.loop-number-test.false in
    all_played g.T.HasFront.front c.args.streams.now c.loop-number.winners (λ (k : ℕ). k < c.loop-number.number)
    c.loop-number.invariant.played (λ k some lt. omega (arith, some, lt, last))
