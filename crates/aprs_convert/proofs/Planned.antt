-- A run that does as planned writes what is to be written.
use Rattle.aprs_convert.proofs.Common.{◌≡◌, ℕ, List, Option, Result, Ok, Err, subst, InputEnd, LogFault}
use Rattle.aprs_io.specs.declared.device.Counted.{Counted}
use Rattle.aprs_convert.specs.Ends.{Ends, Runs}
use Rattle.aprs_convert.specs.Plan.{EndsAsPlanned, Plan, RunsAsPlanned}
use Rattle.aprs_convert.specs.declared.fault.ConvertFault.{ConvertFault}
use Rattle.aprs_convert.specs.declared.fault.ConvertFault.TheVariants.{Log, Write}
use Rattle.aprs_convert.proofs.Gots.{got_so}

ends_so : (Told : Option LogFault → List ℕ → Type 0) (plan : Plan) → Told plan.fault plan.text
    → (answer : Result (Unit {0}) ConvertFault) (old new : Option (List ℕ))
    → EndsAsPlanned answer old new plan → Ends Told answer old new
ends_so Told plan told (Ok u) old new h =
    (plan.text, subst (λ f. Told f plan.text) h.0 told, h.1)
ends_so Told plan told (Err (Log fault)) old new h =
    (plan.text, subst (λ f. Told f plan.text) h.0 told, h.1)
ends_so Told plan told (Err Write) old new h = (plan.fault, plan.text, told, h)

pub runs_so : {R W : Type 0} (plan_of : List ℕ → InputEnd → Plan)
    (Told : Option LogFault → List ℕ → InputEnd → List ℕ → Type 0)
    → ((t : List ℕ) (c : InputEnd) → Told (plan_of t c).fault t c (plan_of t c).text)
    → (limit : ℕ) (remaining : R → Option (List ℕ)) (contents : W → Option (List ℕ))
    (answer : Result (Unit {0}) ConvertFault) (r s : Counted R) (v w : Counted W)
    → RunsAsPlanned plan_of limit remaining contents answer r s v w
    → Runs Told limit remaining contents answer r s v w
runs_so plan_of Told told limit remaining contents answer r s v w h = record {
  run = got_so (remaining r.device) (remaining s.device) limit (λ input. input) _ _
      (λ t c ends. ends_so (λ fault. Told fault t c) (plan_of t c) (told t c) answer
      (contents v.device) (contents w.device) ends) h.run;
  reads = h.reads;
  writes = h.writes;
}

-- ---- a reader that was lent and came back

module _ {R W : Type 0} (plan_of : List ℕ → InputEnd → Plan) (limit : ℕ)
    (remaining : R → Option (List ℕ)) (contents : W → Option (List ℕ))
    (answer : Result (Unit {0}) ConvertFault) (r lent s : Counted R) (v w : Counted W)
    (back : lent ≡ s) (h : RunsAsPlanned plan_of limit remaining contents answer r lent v w) where
  pub planned_back : RunsAsPlanned plan_of limit remaining contents answer r s v w
  planned_back =
      subst (λ k. RunsAsPlanned plan_of limit remaining contents answer r k v w) back h

  pub runs_back : (Told : Option LogFault → List ℕ → InputEnd → List ℕ → Type 0)
      → ((t : List ℕ) (c : InputEnd) → Told (plan_of t c).fault t c (plan_of t c).text)
      → Runs Told limit remaining contents answer r s v w
  runs_back Told told =
      runs_so plan_of Told told limit remaining contents answer r s v w planned_back
