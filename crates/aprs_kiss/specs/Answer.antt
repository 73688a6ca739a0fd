-- What the answer of a KISS reader reports of the stream.
use Rattle.std.specs.Prelude.{◌-◌, ◌≤◌, ◌<◌, List, [], ◌∷◌, length, Ok, Err}
use Rattle.aprs_kiss.specs.Judgement.{Judgement}
use Rattle.aprs_kiss.specs.Sizes.{most_bytes}
use Rattle.aprs_kiss.specs.declared.reader.Fed.{Fed}
use Rattle.aprs_kiss.specs.declared.reader.Fed.TheVariants.{Nothing, Frame, Passed}

-- The judgements that an answer reports: one at most.
abbrev pub judgements_in : Fed → List Judgement
judgements_in Nothing = []
judgements_in (Frame port frame) = Ok (record { port = port; bytes = frame.now }) ∷ []
judgements_in (Passed fault) = Err fault ∷ []

-- A frame's port is a number of four bits, and its bytes fit in the buffer after a type byte.
abbrev pub IsWithinBounds : Fed → Type 0
IsWithinBounds Nothing = Unit {0}
IsWithinBounds (Frame port frame) = (port < 16) × (length frame.now ≤ most_bytes - 1)
IsWithinBounds (Passed fault) = Unit {0}
