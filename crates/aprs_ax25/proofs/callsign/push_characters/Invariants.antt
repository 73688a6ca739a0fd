use Rattle.std.proofs.Common.{◌≡◌, ℕ, ◌<◌, ◌≤◌, ◌+◌, ◌++◌, ◌/◌, get_or, map, take, false}
use Rattle.arrayvec.specs.ArrayVec.{array_vec_len}
use Rattle.aprs_ax25.specs.FrameFault.{ends_characters}
use Rattle.aprs_ax25.proofs.callsign.push_characters.Given as goal

abbrev pub invariant-loop-octet : goal.invariant-loop-octet
invariant-loop-octet g l = record {
  characters : l.out.items
      ≡ l.initial.out.items ++ map (λ octet. octet / 2) (take l.octet-index (take 6 l.octets));
  before : (k : ℕ) → k < l.octet-index → ends_characters (get_or (take 6 l.octets) k 0) ≡ false;
  most : array_vec_len l.out ≤ array_vec_len l.initial.out + l.octet-index;
}
