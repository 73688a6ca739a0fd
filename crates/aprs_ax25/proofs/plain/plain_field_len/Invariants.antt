use Rattle.std.proofs.Common.{◌*◌}
use Rattle.aprs_ax25.proofs.Plains.{ArePlain}
use Rattle.aprs_ax25.proofs.plain.plain_field_len.Given as goal

abbrev pub invariant-loop-pair : goal.invariant-loop-pair
invariant-loop-pair l = ArePlain (2 * l.pair) l.bytes l.rest
