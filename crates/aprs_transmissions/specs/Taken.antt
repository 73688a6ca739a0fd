-- The sets that books have taken after some steps.
use Rattle.std.specs.Prelude.{ℕ, ◌<◌, ◌==◌, if◌then◌else◌, List, [], ◌∷◌, ◌++◌}
use Rattle.aprs_log.specs.Reception.{Received}
use Rattle.aprs_transmissions.specs.Lists.{◌∈◌}

-- `Take`: a reception goes to a place. `Merge`: what the second place has goes to the first too.
pub data Step : Type 0 where
  Take : ℕ → Received → Step
  Merge : ℕ → ℕ → Step

-- The sets at all places after one more step.
abbrev pub after_step : Step → (ℕ → List Received) → ℕ → List Received
after_step (Take i x) sets k = if k == i then sets k ++ x ∷ [] else sets k
after_step (Merge i j) sets k = if k == i then sets k ++ sets j else sets k

-- The sets at all places after these steps.
abbrev pub after_steps : List Step → (ℕ → List Received) → ℕ → List Received
after_steps [] sets = sets
after_steps (step ∷ steps) sets = after_steps steps (after_step step sets)

-- The sets at all places after these steps, from empty sets at all places.
abbrev pub sets_after : List Step → ℕ → List Received
sets_after steps = after_steps steps (λ k. [])

-- Every place that the step names is below n.
abbrev pub StepFits : ℕ → Step → Type 0
StepFits n (Take i x) = i < n
StepFits n (Merge i j) = (i < n) × (j < n)

-- Every place of every step is below n.
abbrev pub StepsFit : ℕ → List Step → Type 0
StepsFit n steps = (step : Step) → step ∈ steps → StepFits n step
