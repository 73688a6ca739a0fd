use Rattle.aprs_convert.specs.Conversion.{Converts}
use Rattle.aprs_convert.specs.Plan.{RunsAsPlanned, convert_plan}
use Rattle.aprs_convert.proofs.Forms.{by_lines}
use Rattle.aprs_convert.proofs.Planned.{runs_so}
use Rattle.aprs_convert.proofs.Writings.{converts}
use Rattle.aprs_convert.proofs.run.convert_input.Goals as goal

pub returns-in-Text : goal.returns-in-Text
returns-in-Text g c =
    runs_so (convert_plan c.args.form) (Converts c.args.form) (converts c.args.form) c.args.limit
    g.R.Read.remaining g.W.Write.contents _ _ _ _ _
    (by_lines (λ plan. RunsAsPlanned plan c.args.limit g.R.Read.remaining g.W.Write.contents
    c.convert_lines.result c.args.r.now c.convert_lines.new.r c.args.w.now c.convert_lines.new.w)
    c.args.form c.in-Text.is c.convert_lines.ensures)

pub returns-in-Capture : goal.returns-in-Capture
returns-in-Capture g c =
    runs_so (convert_plan c.args.form) (Converts c.args.form) (converts c.args.form) c.args.limit
    g.R.Read.remaining g.W.Write.contents _ _ _ _ _ (rw c.in-Capture.is c.capture.ensures)
