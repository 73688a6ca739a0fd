-- Marks of three bytes.
use Rattle.aprs_details.proofs.Common.{◌≡◌, ◌&&◌, ℕ, true, List, [], ◌∷◌, length, refl, eqb, eqb-true, and_parts, arith}
use Rattle.std.specs.Prelude.{slice_index}

-- three bytes that pass the test are these
pub three_are : (a b c : ℕ) (mark : List ℕ) → length mark ≡ 3
    → (eqb (slice_index mark 0) a && eqb (slice_index mark 1) b && eqb (slice_index mark 2) c) ≡ true
    → mark ≡ a ∷ b ∷ c ∷ []
three_are a b c [] three h = absurd cc
three_are a b c (x ∷ []) three h = absurd cc
three_are a b c (x ∷ y ∷ []) three h = absurd cc
three_are a b c (x ∷ y ∷ z ∷ w ∷ more) three h = absurd (omega (arith, three))
three_are a b c (x ∷ y ∷ z ∷ []) three h =
    let p = and_parts (eqb x a && eqb y b) (eqb z c) h in
    let q = and_parts (eqb x a) (eqb y b) p.0 in
    rw (eqb-true x a q.0, eqb-true y b q.1, eqb-true z c p.1) refl
