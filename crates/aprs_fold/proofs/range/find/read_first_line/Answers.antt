use Rattle.std.proofs.Common.{◌∙◌}
use Rattle.std.proofs.lemmas.Option.{IfSome_then}
use Rattle.aprs_fold.proofs.range.find.read_first_line.Goals as goal

pub returns-clause-reads : goal.returns-clause-reads
returns-clause-reads g c =
    IfSome_then c.read_line.result c.read_line.ensures.reads (λ next reads bytes known. (
      c.in_ok-at.at,
      c.in_ok-at.ensures.begins bytes known,
      reads bytes (c.line_start.ensures.stays ∙ known),
    ))
