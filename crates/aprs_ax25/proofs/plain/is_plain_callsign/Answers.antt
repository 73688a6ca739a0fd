use Rattle.std.proofs.Common.{◌≡◌, length, take, drop, [], arith, ap, ◌∙◌, refl}
use Rattle.std.proofs.lemmas.List.{length-take-le, drop_all}
use Rattle.aprs_ax25.specs.Plain.{characters_then_spaces}
use Rattle.aprs_ax25.proofs.Plains.{plain-address}
use Rattle.aprs_ax25.proofs.plain.is_plain_callsign.Goals as goal

pub returns : goal.returns
returns c = λ fine.
    let six = take 6 c.args.octets.now in
    let len : length six ≡ 6 = length-take-le 6 c.args.octets.now (omega (arith, c.requires)) in
    let i = c.loop-octet.octet-index in
    let none : drop i six ≡ [] = drop_all i six (omega (arith, c.loop-octet-test.false)) in
    plain-address c.args.octets.now c.requires (c.loop-octet.invariant.first fine)
    (c.loop-octet.invariant.others fine
    (ap (characters_then_spaces c.loop-octet.after_character) none ∙ refl))
