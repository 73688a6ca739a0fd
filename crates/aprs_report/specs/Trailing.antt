-- Bytes that are cut off at the end of others.
use Rattle.std.specs.Prelude.{◌≡◌, ℕ, Bool, true, false, List, [], ◌∷◌, ◌++◌}
use Rattle.std.specs.List.{list_all}

-- The last byte passes the test.
abbrev pub ends_in : (ℕ → Bool) → List ℕ → Bool
ends_in p [] = false
ends_in p (last ∷ []) = p last
ends_in p (first ∷ next ∷ more) = ends_in p (next ∷ more)

-- This is left of the bytes without all those at the end that pass the test.
pub record IsTrimmed (p : ℕ → Bool) (left bytes : List ℕ) : Type 0 where
  pub ending : List ℕ
  pub whole : bytes ≡ left ++ ending
  pub cut : list_all p ending ≡ true
  pub stops : ends_in p left ≡ false
