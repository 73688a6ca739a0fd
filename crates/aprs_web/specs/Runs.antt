-- What the runs do, over inputs that are known and with an output that is empty at first.
use Rattle.std.specs.Prelude.{◌≡◌, ℕ, List, [], ◌∷◌, ◌++◌, map, take, drop, length, Option, Some, Ok, Err}
use Rattle.std.specs.List.{sum}
use Rattle.aprs_io.specs.Input.{most_input}
use Rattle.aprs_log.specs.Reception.{Received}
use Rattle.aprs_log.specs.declared.InputEnd.{InputEnd}
use Rattle.aprs_log.specs.declared.fault.LogFault.{LogFault}
use Rattle.aprs_transmissions.specs.Gap.{IsGap}
use Rattle.aprs_arguments.specs.declared.jobs.Table.{Table}
use Rattle.aprs_convert.specs.Ends.{Ends}
use Rattle.aprs_convert.specs.Got.{OfGot}
use Rattle.aprs_runs.specs.HistoryOf.{IsHistoryOf}
use Rattle.aprs_runs.specs.Merge.{IsTextOfBook}
use Rattle.aprs_runs.specs.Outcome.{IsToldOf}
use Rattle.aprs_runs.specs.RunEnds.{AnswersAs}
use Rattle.aprs_runs.specs.Several.{GiveUnion, GotOf, IsFirstRefused}
use Rattle.aprs_runs.specs.Show.{IsListingOf}
use Rattle.aprs_runs.specs.TableOf.{IsTableOf}
use Rattle.aprs_runs.specs.Widen.{GivesSetWithin, IsNotWidened}
use Rattle.aprs_runs.specs.declared.fault.InputFault.{InputFault}
use Rattle.aprs_runs.specs.declared.fault.RunFault.TheVariants.{Input, Write, Memory}
use Rattle.aprs_web.specs.Answer.{Outcome}

-- The arguments ask for a run over several inputs: the seconds are a gap, and the lengths add up to
-- that of all inputs.
abbrev pub AskForSeveral : ℕ → List ℕ → List ℕ → Type 0
AskForSeveral seconds lengths inputs = IsGap seconds × (sum lengths ≡ length inputs)

-- The inputs, which lie one after the other and have these lengths. One whose bytes aren't all
-- there has those that are.
abbrev pub input_texts : List ℕ → List ℕ → List (List ℕ)
input_texts [] inputs = []
input_texts (n ∷ ns) inputs = take n inputs ∷ input_texts ns (drop n inputs)

-- A run over one input ends so and writes this text, as `Told` says of what was got of the input.
abbrev pub WritesOver : (Option LogFault → List ℕ → InputEnd → List ℕ → Type 0) → List ℕ → Outcome
    → List ℕ → Type 0
WritesOver Told input outcome text = AnswersAs outcome (λ answer.
    (after : Option (List ℕ)) × OfGot most_input (Some input) after
    (λ got ending. Ends (λ fault. Told fault got ending) answer (Some []) (Some text)))

-- At `Ok` the inputs `Stand` for a set, and the text is told of each such set; at `Write` it is a
-- prefix of such a text. At `Input` the input of that number is refused, and at `Memory` the inputs
-- stand for a set; at both there is no text.
abbrev pub Gives : (List Received → Type 0) → (List Received → List ℕ → Type 0)
    → (ℕ → InputFault → Type 0) → Outcome → List ℕ → Type 0
Gives Stand TellsOf Refused (Ok u) text = IsToldOf Stand TellsOf text
Gives Stand TellsOf Refused (Err Write) text =
    (rest : List ℕ) × IsToldOf Stand TellsOf (text ++ rest)
Gives Stand TellsOf Refused (Err (Input index fault)) text = Refused index fault × (text ≡ [])
Gives Stand TellsOf Refused (Err Memory) text = ((S : List Received) × Stand S) × (text ≡ [])

-- A run gathers these inputs under this gap, and writes the text that is told of their set. At
-- `Memory` it wrote nothing, and nothing is said of the inputs: maybe there was no memory for a
-- list of them.
abbrev pub GathersTo : (List Received → List ℕ → Type 0) → ℕ → List (List ℕ) → Outcome → List ℕ
    → Type 0
GathersTo TellsOf gap inputs (Err Memory) text = text ≡ []
GathersTo TellsOf gap inputs outcome text = (gots : List (GotOf most_input))
    × (inputs ≡ map (λ g. g.text ++ g.rest) gots)
    × Gives (GiveUnion gap gots) TellsOf (IsFirstRefused gap gots) outcome text

-- A merge of these inputs under this gap ends so, and writes this text: their book at `Ok`, a
-- prefix of it at `Write`, and else nothing.
abbrev pub Merges : ℕ → List (List ℕ) → Outcome → List ℕ → Type 0
Merges gap = GathersTo (IsTextOfBook gap) gap

-- The run for the listing of these inputs under this gap ends so, and writes this text: the listing
-- at `Ok`, a prefix of it at `Write`, and else nothing.
abbrev pub Shows : ℕ → List (List ℕ) → Outcome → List ℕ → Type 0
Shows gap = GathersTo (IsListingOf gap) gap

-- The run for the history of these inputs under this gap ends so, and writes this text: the history
-- at `Ok`, a prefix of it at `Write`, and else nothing.
abbrev pub TellsHistory : ℕ → List (List ℕ) → Outcome → List ℕ → Type 0
TellsHistory gap = GathersTo (IsHistoryOf gap) gap

-- The run for this table of these inputs under this gap ends so, and writes this text: the table at
-- `Ok`, a prefix of it at `Write`, and else nothing.
abbrev pub TellsTable : Table → ℕ → List (List ℕ) → Outcome → List ℕ → Type 0
TellsTable t gap = GathersTo (IsTableOf t gap) gap

-- The widening of this input to this gap ends so, and writes this text: the input's book under this
-- gap at `Ok`, a prefix of it at `Write`, and else nothing.
abbrev pub Widens : ℕ → List ℕ → Outcome → List ℕ → Type 0
Widens gap input outcome text = (after : Option (List ℕ)) × OfGot most_input (Some input) after
    (λ got ending. Gives (GivesSetWithin gap got ending) (IsTextOfBook gap)
    (IsNotWidened gap got ending) outcome text)
