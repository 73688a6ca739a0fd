use Rattle.aprs_kiss.proofs.Common.{◌++◌, ◌∷◌, [], length}
use Rattle.aprs_io.specs.Device.{SendsAllBut}
use Rattle.aprs_kiss.specs.Spelling.{kiss_text, spelling_of}
use Rattle.aprs_kiss.proofs.write.write_spelled.Given as goal

abbrev pub invariant-loop-byte : goal.invariant-loop-byte
invariant-loop-byte g l =
    SendsAllBut g.W.Write.contents l.fn.w l.w (kiss_text l.frame) (spelling_of l.rest ++ 0xC0 ∷ [])

abbrev pub decreases-loop-byte : goal.decreases-loop-byte
decreases-loop-byte g l = length l.rest
