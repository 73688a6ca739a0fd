use Rattle.aprs_summary.proofs.Common.{[], subst, sym, LastKnown, Passes}
use Rattle.aprs_summary.specs.Known.{known_at, topic_bytes, is_report_on}
use Rattle.aprs_summary.proofs.known.notes.Notes.new.Goals as goal

pub returns : goal.returns
returns g c = λ topic bytes.
    subst (λ es. LastKnown [] (Passes (is_report_on (topic_bytes topic) bytes)) (known_at bytes es))
    (sym (c.new.ensures topic)) (λ s h p. h)
