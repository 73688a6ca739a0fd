-- What a run answers that writes what is told of the book of its inputs.
use Rattle.aprs_runs.proofs.Common.{ℕ, List, Option, Result, Ok, Err, refl, Counted, Sends-err, Sends-ok, Received, BookOf, BookValue, millis_of}
use Rattle.aprs_runs.specs.Devices.{AsksEach, CallsOutput}
use Rattle.aprs_runs.specs.Gathered.{ReadsEach}
use Rattle.aprs_runs.specs.Outcome.{IsToldOf, RefusesFor, WritesFor}
use Rattle.aprs_runs.specs.Several.{GiveUnion, IsFirstRefused}
use Rattle.aprs_runs.specs.ToldBook.{WritesTold, answer_of_output}
use Rattle.aprs_runs.specs.declared.fault.RunFault.{RunFault}
use Rattle.aprs_runs.specs.declared.fault.RunFault.TheVariants as run
use Rattle.aprs_runs.specs.declared.gathered.OutputFault.{OutputFault}
use Rattle.aprs_runs.specs.declared.gathered.OutputFault.TheVariants.{Memory, Write}
use Rattle.aprs_runs.proofs.Merges.{HoldsOfEach}
use Rattle.aprs_runs.proofs.RunsOver.{all_cut, all_written, each_so, unsaid}

module _ {W : Type 0} (limit gap : ℕ) (inputs : List (List ℕ)) (afters : List (Option (List ℕ)))
    (Told : BookValue → List ℕ → Type 0) (Tells : List Received → List ℕ → Type 0)
    (contents : W → Option (List ℕ)) (old new : Counted W) (b : BookValue)
    (tells : (text : List ℕ) → Told b text → (S : List Received) → BookOf (millis_of gap) S b.rows
    → Tells S text)
    (read : HoldsOfEach limit inputs afters (ReadsEach gap (Ok b))) where
  pub told_writes : (r : Result (Unit {0}) OutputFault) → WritesTold Told contents r b old new
      → HoldsOfEach limit inputs afters
      (λ gots. WritesFor (IsToldOf (GiveUnion gap gots) Tells) contents (answer_of_output r) old new)
  unfolding WritesTold
  told_writes (Ok tt) h = all_written limit gap inputs afters Tells contents old new b h.0
      (tells h.0 h.1) read (Sends-ok h.2)
  told_writes (Err Write) h = all_cut limit gap inputs afters Tells contents old new b h.0
      (tells h.0 h.1) read (Sends-err (Err run.Write) refl h.2)
  told_writes (Err Memory) h = unsaid limit inputs afters (ReadsEach gap (Ok b)) read

  pub told_refuses : (r : Result (Unit {0}) OutputFault) → WritesTold Told contents r b old new
      → HoldsOfEach limit inputs afters (λ gots. RefusesFor (GiveUnion gap gots)
      (IsFirstRefused gap gots) (answer_of_output r) old new)
  unfolding WritesTold
  told_refuses (Ok tt) h = unsaid limit inputs afters (ReadsEach gap (Ok b)) read
  told_refuses (Err Write) h = unsaid limit inputs afters (ReadsEach gap (Ok b)) read
  told_refuses (Err Memory) h = each_so limit inputs afters (ReadsEach gap (Ok b)) _
      (λ gots p. ((p.1.0, p.1.1), h)) read

-- the output isn't called after a fault
pub told_calls : {W : Type 0} (Told : BookValue → List ℕ → Type 0) (contents : W → Option (List ℕ))
    (old new : Counted W) (b : BookValue) (r : Result (Unit {0}) OutputFault)
    → WritesTold Told contents r b old new → CallsOutput (answer_of_output r) old new
unfolding WritesTold
told_calls Told contents old new b (Ok tt) h = (Sends-ok {E = OutputFault} {F = RunFault} h.2).calls
told_calls Told contents old new b (Err Write) h = (Sends-err (Err run.Write) refl h.2).calls
told_calls Told contents old new b (Err Memory) h = h

-- all inputs were read
pub told_asks : {R : Type 0} (old new : List (Counted R)) (r : Result (Unit {0}) OutputFault)
    → AsksEach (Ok tt) old new → AsksEach (answer_of_output r) old new
told_asks old new (Ok tt) h = h
told_asks old new (Err Write) h = h
told_asks old new (Err Memory) h = h
