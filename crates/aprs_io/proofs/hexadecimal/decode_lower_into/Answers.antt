use Rattle.aprs_io.proofs.Digits.{no_odd_digits}
use Rattle.aprs_io.proofs.hexadecimal.decode_lower_into.Goals as goal

pub returns-in_default-clause-bytes : goal.returns-in_default-clause-bytes
returns-in_default-clause-bytes c = no_odd_digits c.args.text.now c.in_default.ensures
