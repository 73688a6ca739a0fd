-- What a program is to do, and what the run for it does.
use Rattle.std.specs.Prelude.{ℕ, List, [], ◌∷◌, Option, Result}
use Rattle.aprs_io.specs.Device.{device_of}
use Rattle.aprs_io.specs.declared.device.Counted.{Counted}
use Rattle.aprs_log.specs.Reception.{Received}
use Rattle.aprs_convert.specs.Check.{Checks}
use Rattle.aprs_convert.specs.Conversion.{Converts}
use Rattle.aprs_convert.specs.Ends.{Runs}
use Rattle.aprs_convert.specs.Got.{OfGot}
use Rattle.aprs_arguments.specs.declared.jobs.Job.{Job}
use Rattle.aprs_arguments.specs.declared.jobs.Job.TheVariants as job
use Rattle.aprs_runs.specs.Devices.{AsksEach, AsksMerge, CallsOutput}
use Rattle.aprs_runs.specs.HistoryOf.{IsHistoryOf}
use Rattle.aprs_runs.specs.Merge.{IsTextOfBook}
use Rattle.aprs_runs.specs.Outcome.{IsToldOf, RefusesFor, WritesFor}
use Rattle.aprs_runs.specs.RunEnds.{AnswersAs}
use Rattle.aprs_runs.specs.Several.{GiveUnion, IsFirstRefused, OfEach}
use Rattle.aprs_runs.specs.Show.{IsListingOf}
use Rattle.aprs_runs.specs.TableOf.{IsTableOf}
use Rattle.aprs_runs.specs.Widen.{GivesSetWithin, IsNotWidened}
use Rattle.aprs_runs.specs.declared.fault.RunFault.{RunFault}
use Rattle.aprs_host.specs.declared.work.Gathering.{Gathering}
use Rattle.aprs_host.specs.declared.work.Gathering.TheVariants as gathering
use Rattle.aprs_host.specs.declared.work.Single.{Single}
use Rattle.aprs_host.specs.declared.work.Single.TheVariants as single
use Rattle.aprs_host.specs.declared.work.Work.{Work}
use Rattle.aprs_host.specs.declared.work.Work.TheVariants as work

-- The work of a job.
abbrev pub work_of : Job → Work
work_of (job.Check inputs) = work.Of single.Check
work_of (job.Convert form inputs) = work.Of (single.Convert form)
work_of (job.Widen gap inputs) = work.Of (single.Widen gap)
work_of (job.Merge gap inputs) = work.OfAll gathering.Merge gap
work_of (job.Show gap inputs) = work.OfAll gathering.Show gap

-- The text is what is written of a set: its book, its listing, its history or a table of it, under
-- this gap.
abbrev pub IsOutputOf : Gathering → ℕ → List Received → List ℕ → Type 0
IsOutputOf gathering.Merge gap = IsTextOfBook gap
IsOutputOf gathering.Show gap = IsListingOf gap
IsOutputOf gathering.History gap = IsHistoryOf gap
IsOutputOf (gathering.Table t) gap = IsTableOf t gap

-- What the readers were asked: a merge may be refused memory after their ends as well.
abbrev pub AsksAll : {R : Type 0} → Gathering → Result (Unit {0}) RunFault → List (Counted R)
    → List (Counted R) → Type 0
AsksAll gathering.Merge = AsksMerge
AsksAll other = AsksEach

-- The input was widened to this gap: what was written, why the input is refused, and what the
-- devices were asked.
pub record WidensInput {R W : Type 0} (gap limit : ℕ) (remaining : R → Option (List ℕ))
    (contents : W → Option (List ℕ)) (result : Result (Unit {0}) RunFault)
    (r s : Counted R) (w x : Counted W) : Type 0 where
  pub writes : OfGot limit (remaining (device_of r)) (remaining (device_of s))
      (λ text ending. WritesFor (IsToldOf (GivesSetWithin gap text ending) (IsTextOfBook gap))
      contents result w x)
  pub refuses : OfGot limit (remaining (device_of r)) (remaining (device_of s))
      (λ text ending. RefusesFor (GivesSetWithin gap text ending)
      (IsNotWidened gap text ending) result w x)
  pub asks : AsksEach result (r ∷ []) (s ∷ [])
  pub calls : CallsOutput result w x

-- The run over one input did this work: a check, a conversion or a widening.
abbrev pub Does : {R W : Type 0} → Single → ℕ → (R → Option (List ℕ)) → (W → Option (List ℕ))
    → Result (Unit {0}) RunFault → Counted R → Counted R → Counted W → Counted W → Type 0
Does single.Check limit remaining contents result r s w x =
    AnswersAs result (λ answer. Runs Checks limit remaining contents answer r s w x)
Does (single.Convert form) limit remaining contents result r s w x =
    AnswersAs result (λ answer. Runs (Converts form) limit remaining contents answer r s w x)
Does (single.Widen gap) limit remaining contents result r s w x =
    WidensInput gap limit remaining contents result r s w x

-- The run over several inputs did this work: what was written of their book, which input is refused
-- for what, and what the devices were asked.
pub record Gathers {R W : Type 0} (of : Gathering) (gap limit : ℕ) (remaining : R → Option (List ℕ))
    (contents : W → Option (List ℕ)) (result : Result (Unit {0}) RunFault)
    (old new : List (Counted R)) (w x : Counted W) : Type 0 where
  pub writes : OfEach limit remaining old new
      (λ gots. WritesFor (IsToldOf (GiveUnion gap gots) (IsOutputOf of gap)) contents result w x)
  pub refuses : OfEach limit remaining old new
      (λ gots. RefusesFor (GiveUnion gap gots) (IsFirstRefused gap gots) result w x)
  pub asks : AsksAll of result old new
  pub calls : CallsOutput result w x

-- There is a first input, and this holds of it before and after.
abbrev pub OfFirst : {I : Type 0} → (I → I → Type 0) → List I → List I → Type 0
OfFirst P (r ∷ old) (s ∷ new) = P r s
OfFirst P old new = ⊥

-- The work was done: over the first input where it is a run over one, and else over all.
abbrev pub DoesWork : {R W : Type 0} → Work → ℕ → (R → Option (List ℕ)) → (W → Option (List ℕ))
    → Result (Unit {0}) RunFault → List (Counted R) → List (Counted R) → Counted W → Counted W
    → Type 0
DoesWork (work.Of single) limit remaining contents result old new w x =
    OfFirst (λ r s. Does single limit remaining contents result r s w x) old new
DoesWork (work.OfAll of gap) limit remaining contents result old new w x =
    Gathers of gap limit remaining contents result old new w x
