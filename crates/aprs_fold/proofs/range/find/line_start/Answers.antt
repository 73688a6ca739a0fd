use Rattle.std.proofs.Common.{◌≤◌, ◌-◌, inr, arith}
use Rattle.std.proofs.lemmas.Option.{IfSome_then}
use Rattle.aprs_fold.proofs.range.find.line_start.Goals as goal

pub returns-clause-begins : goal.returns-clause-begins
returns-clause-begins g c =
    IfSome_then c.read_line.result c.read_line.ensures.reads (λ at reads bytes known.
    let le : c.args.low ≤ c.args.middle - 1 = omega arith in
    inr (c.args.middle - 1, c.read_line.new.line.items, le, reads bytes known))
