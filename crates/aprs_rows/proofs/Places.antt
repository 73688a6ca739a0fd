-- Places in bytes.
use Rattle.aprs_rows.proofs.Common.{◌≡◌, ℕ, zero, suc, ◌≤◌, List, [], ◌∷◌, ◌++◌, length, take, drop, refl, ap, arith, length-take}

pub take_front : (n : ℕ) (a b : List ℕ) → n ≤ length a → take n (a ++ b) ≡ take n a
take_front zero a b h = refl
take_front (suc n) [] b h = absurd (omega (arith, h))
take_front (suc n) (x ∷ a) b h = ap (λ t. x ∷ t) (take_front n a b (omega (arith, h)))

pub drop_front : (n : ℕ) (a b : List ℕ) → n ≤ length a → drop n (a ++ b) ≡ drop n a ++ b
drop_front zero a b h = refl
drop_front (suc n) [] b h = absurd (omega (arith, h))
drop_front (suc n) (x ∷ a) b h = drop_front n a b (omega (arith, h))

pub as_many : (n : ℕ) (xs : List ℕ) → length (take n xs) ≡ n → n ≤ length xs
as_many n xs e = let m = length-take n xs in omega (arith, m, e)
