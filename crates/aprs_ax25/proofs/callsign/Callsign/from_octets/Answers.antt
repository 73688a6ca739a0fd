use Rattle.std.proofs.Common.{ℕ, List, ◌/◌, ◌%◌, sym, subst, slice_index}
use Rattle.aprs_ax25.specs.Callsign.{IsCall}
use Rattle.aprs_ax25.proofs.Calls.{call_of-IsCall}
use Rattle.aprs_ax25.proofs.callsign.Callsign.from_octets.Goals as goal

pub invariant_of-result : goal.invariant_of-result
invariant_of-result c =
    let octets = c.args.octets.now in
    let P : List ℕ → Type 0 =
    λ characters. IsCall (record { characters = characters; ssid = slice_index octets 6 / 2 % 16 }) in
    subst P (sym c.characters_of.ensures) (call_of-IsCall octets c.requires.seven c.requires.callsign)
