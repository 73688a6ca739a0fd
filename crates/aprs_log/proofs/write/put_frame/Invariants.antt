use Rattle.aprs_log.proofs.Common.{◌≡◌, ◌≤◌, ◌+◌, ◌*◌, ◌++◌, ◌∷◌, [], length, take, encode_lower}
use Rattle.aprs_kiss.specs.Spelling.{spelling_of}
use Rattle.aprs_log.proofs.write.put_frame.Given as goal

abbrev pub invariant-cuts : goal.invariant-cuts
invariant-cuts l = record {
  digits : take l.end l.out ++ encode_lower (spelling_of l.rest ++ 0xC0 ∷ [])
      ≡ take l.initial.end l.initial.out ++ encode_lower (spelling_of l.frame ++ 0xC0 ∷ []);
  end : l.end + 4 * length l.rest ≤ l.at + 1316;
  room : length l.out ≡ length l.initial.out;
}

abbrev pub decreases-cuts : goal.decreases-cuts
decreases-cuts l = length l.rest
