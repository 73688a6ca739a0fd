use Rattle.std.proofs.Common.{◌≡◌, ◌*◌, ◌++◌, map, take}
use Rattle.aprs_ax25.proofs.callsign.push_characters_and_spaces.Given as goal

abbrev pub invariant-loop-character : goal.invariant-loop-character
invariant-loop-character l = l.out.items
    ≡ l.initial.out.items ++ map (λ b. 2 * b) (take l.character-index l.characters)
