use Rattle.aprs_log.proofs.Common.{ℕ, arith, length-drop}
use Rattle.std.proofs.lemmas.List.{length-take}
use Rattle.aprs_log.proofs.Windows.{consumed}
use Rattle.aprs_log.proofs.reader.window.Window.consume.Goals as goal

pub returns : goal.returns
returns c =
    let w = c.args.self.now in
    consumed w.bytes w.start w.end c.args.count
    (omega (arith, length-take {A = ℕ}, length-drop {A = ℕ}))
