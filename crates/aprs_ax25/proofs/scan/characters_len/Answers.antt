use Rattle.std.proofs.Common.{◌≡◌, length, take, not, arith, sym, ap, ◌∙◌}
use Rattle.std.proofs.lemmas.List.Sums.{position_or_len_is}
use Rattle.std.proofs.lemmas.List.{length-take-le}
use Rattle.aprs_ax25.specs.FrameFault.{ends_characters}
use Rattle.aprs_ax25.proofs.scan.characters_len.Goals as goal

pub returns-then-not-is_callsign_byte-clause-value :
    goal.returns-then-not-is_callsign_byte-clause-value
returns-then-not-is_callsign_byte-clause-value c =
    sym (position_or_len_is ends_characters (take 6 c.args.octets.now) c.loop-i.i 0 (omega arith)
    c.loop-i.invariant
    (λ _. ap not (sym c.is_callsign_byte.ensures ∙ c.if-not-is_callsign_byte.true)))

pub returns-clause-value : goal.returns-clause-value
returns-clause-value c =
    let six : length (take 6 c.args.octets.now) ≡ 6 =
    length-take-le 6 c.args.octets.now c.requires in
    sym (position_or_len_is ends_characters (take 6 c.args.octets.now) 6 0 (omega arith)
    (λ k h. c.loop-i.invariant k (omega arith)) (λ h. absurd (omega arith)))
