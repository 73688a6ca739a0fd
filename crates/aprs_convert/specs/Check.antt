-- What a check writes of a log.
use Rattle.std.specs.Prelude.{◌≡◌, ◌⊎◌, ℕ, ◌+◌, List, [], ◌∷◌, ◌++◌, length, map, codes, Option, None, Some, Err}
use Rattle.std.specs.Fmt.{decimal}
use Rattle.aprs_io.specs.declared.input.InputEnd.{InputEnd}
use Rattle.aprs_log.specs.Fault.{reason_name}
use Rattle.aprs_log.specs.Line.{frame_in}
use Rattle.aprs_log.specs.LineText.{IsLine, Reports}
use Rattle.aprs_log.specs.LogText.{HasLogFault, IsLogText, text_of_lines}
use Rattle.aprs_log.specs.Reception.{Received}
use Rattle.aprs_log.specs.declared.fault.LogFault.{LogFault}
use Rattle.aprs_log.specs.declared.fault.Reason.{Reason}

-- The report of a line that is passed over: its number, and the reason.
abbrev pub passed_line_of : ℕ × Reason → List ℕ
passed_line_of pass = codes "line " ++ decimal pass.0 ++ codes " passed " ++ reason_name pass.1

-- The report of how many lines are heard and how many passed over.
abbrev pub totals_line_of : ℕ → ℕ → List ℕ
totals_line_of heard passed = codes "heard " ++ decimal heard ++ codes " passed " ++ decimal passed

-- The line is in order, and passed over for this reason. It is the first reason why the line's
-- bytes carry no frame.
abbrev pub IsPassedFor : List ℕ → Reason → Type 0
IsPassedFor line reason = (m : ℕ) × (name : List ℕ) × (bytes : List ℕ)
    × IsLine line m name bytes × (frame_in bytes ≡ Err reason)

-- Of lines from number n on these are passed over, each by its number and the reason; each other
-- line reports a reception.
abbrev pub PassesOver : ℕ → List (List ℕ) → List (ℕ × Reason) → Type 0
PassesOver n [] passed = passed ≡ []
PassesOver n (line ∷ lines) passed =
    ((x : Received) × Reports line x × PassesOver (n + 1) lines passed)
    ⊎ ((reason : Reason) × (more : List (ℕ × Reason)) × IsPassedFor line reason
    × PassesOver (n + 1) lines more × (passed ≡ (n, reason) ∷ more))

-- A check writes this of a log up to this fault, if it has one: a line for each that is passed
-- over; and where there is no fault, how many lines report a reception and how many are passed
-- over.
abbrev pub Checks : Option LogFault → List ℕ → InputEnd → List ℕ → Type 0
Checks None text ending written = (S : List Received) × (log : IsLogText text ending S)
    × (passed : List (ℕ × Reason)) × PassesOver 1 log.lines passed × (written
    ≡ text_of_lines (map passed_line_of passed ++ totals_line_of (length S) (length passed) ∷ []))
Checks (Some fault) text ending written = (log : HasLogFault text ending fault)
    × (passed : List (ℕ × Reason)) × PassesOver 1 log.lines passed
    × (written ≡ text_of_lines (map passed_line_of passed))
