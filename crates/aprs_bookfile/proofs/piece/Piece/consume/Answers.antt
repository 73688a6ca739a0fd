use Rattle.aprs_bookfile.proofs.Common.{ℕ, arith, length-take}
use Rattle.std.proofs.lemmas.List.{length-drop}
use Rattle.aprs_log.proofs.Windows.{consumed}
use Rattle.aprs_bookfile.proofs.piece.Piece.consume.Goals as goal

pub returns : goal.returns
returns g c =
    let w = c.args.self.now in
    consumed w.bytes.items w.start w.end c.args.count
    (omega (arith, c.requires, length-take {A = ℕ}, length-drop {A = ℕ}))
