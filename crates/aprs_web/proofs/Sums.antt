-- Sums of lengths, from the left.
use Rattle.aprs_web.proofs.Common.{◌≡◌, ℕ, ◌+◌, ◌-◌, ◌<◌, ◌≤◌, List, [], ◌∷◌, length, drop, get_or, ap, ◌∙◌, arith, fold, sum}
use Rattle.std.proofs.lemmas.List.{drop_more}

-- a sum from a on
abbrev pub sum_from : ℕ → List ℕ → ℕ
sum_from a xs = fold (λ m n. m + n) a xs

at_least : (a : ℕ) (xs : List ℕ) → a ≤ sum_from a xs
at_least a [] = omega arith
at_least a (x ∷ xs) = omega (arith, at_least (a + x) xs)

-- where the next length is more than what is left, the lengths don't add up
pub exceeds : (xs : List ℕ) (i total rest d : ℕ) → i < length xs → rest ≤ total
    → sum xs ≡ sum_from (total - rest) (drop i xs) → (get_or xs i d ≤ rest → ⊥)
    → sum xs ≡ total → ⊥
exceeds xs i total rest d there less is more all =
    let next : sum xs ≡ sum_from (total - rest + get_or xs i d) (drop (i + 1) xs) =
    is ∙ ap (λ ys. sum_from (total - rest) ys) (drop_more xs i d there) in
    let most : rest < get_or xs i d = omega (arith, more) in
    omega (arith, next, all, less, most, at_least (total - rest + get_or xs i d) (drop (i + 1) xs))
