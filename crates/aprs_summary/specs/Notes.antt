-- What is noted of rows, one after another.
use Rattle.std.specs.Prelude.{ℕ, List, Option, Some, None, if◌then◌else◌, map}
use Rattle.aprs_log.specs.Reception.{Received}
use Rattle.aprs_transmissions.specs.Row.{Row}
use Rattle.aprs_transmissions.specs.Best.{LastKnown, greater_known}
use Rattle.aprs_transmissions.specs.BestLaws.{Passes}
use Rattle.aprs_summary.specs.declared.known.notes.Notes.{Notes}
use Rattle.aprs_summary.specs.declared.known.notes.Streak.{Streak}
use Rattle.aprs_summary.specs.Known.{FourIndexes, Topic, index_of, has_bytes, known_at, subject_bytes, topic_bytes, is_report_on, greatest_of}

-- What is known at these bytes by a topic: what its index knows there, or, where the last rows
-- report on just that, the greater of this and their greatest reception.
abbrev pub known_with : Option Streak → Topic → List ℕ → FourIndexes → Option Received
known_with None topic bytes indexes = known_at bytes (index_of topic indexes)
known_with (Some run) topic bytes indexes =
    if has_bytes bytes (subject_bytes topic run.subject)
    then Some (greater_known (known_at bytes (index_of topic indexes)) run.greatest)
    else known_at bytes (index_of topic indexes)

-- Whatever the rows report on, its greatest reception in them is noted.
abbrev pub AreNotesOf : {X A : Type 0} → List Row → Notes X A → Type 0
AreNotesOf rows notes = (topic : Topic) (bytes : List ℕ)
    → LastKnown (map greatest_of rows) (Passes (is_report_on (topic_bytes topic) bytes))
    (known_with notes.last topic bytes notes.indexes)
