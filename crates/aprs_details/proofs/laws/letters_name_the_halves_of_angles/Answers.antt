use Rattle.aprs_details.proofs.NamedHalves.{halves_told}
use Rattle.aprs_details.proofs.laws.letters_name_the_halves_of_angles.Goals as goal

pub returns : goal.returns
returns c = λ before text comment lat lon ambiguity symbol h.
    halves_told before text comment lat lon ambiguity symbol h
