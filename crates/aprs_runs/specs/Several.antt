-- What several inputs stand for together, and which of them is refused.
use Rattle.std.specs.Prelude.{◌≡◌, ℕ, List, [], ◌∷◌, ◌++◌, map, take, slice_get, Option, Some}
use Rattle.aprs_io.specs.Input.{EndsSo}
use Rattle.aprs_io.specs.declared.device.Counted.{Counted}
use Rattle.aprs_io.specs.declared.input.InputEnd.{InputEnd}
use Rattle.aprs_log.specs.Reception.{Received}
use Rattle.aprs_transmissions.specs.Lists.{SameMembers}
use Rattle.aprs_runs.specs.Inputs.{GivesSet}
use Rattle.aprs_runs.specs.Refused.{IsNotTaken}
use Rattle.aprs_runs.specs.declared.fault.InputFault.{InputFault}

-- What was got of one input: a text, how it ended, the `rest` that wasn't got, and `after`, which
-- its device then has, as `EndsSo` says. `Read` doesn't mean that a read failed: it fits also where
-- reading stopped early or never began, since the device still has just the rest then. `End` fits
-- where nothing is left.
pub record GotOf (limit : ℕ) : Type 0 where
  pub text : List ℕ
  pub ending : InputEnd
  pub rest : List ℕ
  pub after : Option (List ℕ)
  pub ends : EndsSo ending limit text rest after

-- If it is known which bytes each reader had before the run, then there is a `GotOf` for each:
-- those bytes are its `text` and its `rest`, the reader has its `after` when the run has ended, and
-- P holds of the list of them all.
abbrev pub OfEach : {R : Type 0} → (limit : ℕ) → (R → Option (List ℕ)) → List (Counted R)
    → List (Counted R) → (List (GotOf limit) → Type 0) → Type 0
OfEach limit remaining old new P = (inputs : List (List ℕ))
    → map (λ r. remaining r.device) old ≡ map (λ input. Some input) inputs
    → (gots : List (GotOf limit)) × (inputs ≡ map (λ g. g.text ++ g.rest) gots)
    × (map (λ r. remaining r.device) new ≡ map (λ g. g.after) gots) × P gots

-- Each input stands for a set, and S is the union of such sets, one for each.
abbrev pub GiveUnion : {limit : ℕ} → ℕ → List (GotOf limit) → List Received → Type 0
GiveUnion gap [] S = S ≡ []
GiveUnion gap (g ∷ gots) S = (T : List Received) × (U : List Received)
    × GivesSet gap g.text g.ending T × GiveUnion gap gots U × SameMembers S (T ++ U)

-- Input number `index`, from 0, is the first that a book of this gap doesn't take, for this fault:
-- each before it stands for a set.
pub record IsFirstRefused {limit : ℕ} (gap : ℕ) (gots : List (GotOf limit)) (index : ℕ)
    (fault : InputFault) : Type 0 where
  pub at : GotOf limit
  pub is_there : slice_get gots index ≡ Some at
  pub faultless : (S : List Received) × GiveUnion gap (take index gots) S
  pub refused : IsNotTaken gap fault at.text at.ending
