use Rattle.std.proofs.Common.{◌∙◌, ◌++◌, ap}
use Rattle.aprs_ax25.proofs.Making.{padded-pushed}
use Rattle.aprs_ax25.proofs.callsign.push_characters_and_spaces.Goals as goal

pub returns : goal.returns
returns c = padded-pushed _ _ _ c.args.characters.now _ c.loop-character-test.false
    c.loop-character.invariant
    (c.push_all.ensures.items ∙ ap (λ l. c.loop-character.out.items ++ l) c.split_at.ensures.back)
