-- What stands first in a text.
use Rattle.std.specs.Prelude.{◌≡◌, ℕ, List, ◌∷◌, ◌++◌}

-- This begins at some place of the text, and nothing of the kind begins before.
pub record IsFirst {A : Type 0} (Begins : A → List ℕ → Type 0) (x : A)
    (text : List ℕ) : Type 0 where
  pub before : List ℕ
  pub rest : List ℕ
  pub whole : text ≡ before ++ rest
  pub begins : Begins x rest
  pub first : (start later : List ℕ) (b : ℕ) (y : A) → before ≡ start ++ (b ∷ later) →
      Begins y (b ∷ (later ++ rest)) → ⊥
