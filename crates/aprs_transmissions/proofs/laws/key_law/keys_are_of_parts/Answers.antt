use Rattle.aprs_transmissions.proofs.Common.{ap}
use Rattle.aprs_ax25.specs.Frame.{Parts}
use Rattle.aprs_ax25.proofs.Spellings.{FrameOf-parts_of}
use Rattle.aprs_transmissions.specs.Key.{key_of, key_of_parts}
use Rattle.aprs_transmissions.proofs.laws.key_law.keys_are_of_parts.Goals as goal

pub returns : goal.returns
unfolding key_of
returns c = λ parts frame h. ap (λ (p : Parts). key_of_parts p) (FrameOf-parts_of parts frame h)
