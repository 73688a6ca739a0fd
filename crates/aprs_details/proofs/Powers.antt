-- The products of powers of 1.002 in two tables.
use Rattle.aprs_details.proofs.Common.{◌≡◌, ℕ, zero, suc, ◌+◌, ◌*◌, ◌^◌, ◌<◌, ◌≤◌, true, List, [], ◌∷◌, length, get_or, refl, sym, ap, subst, ◌∙◌, arith, eqb-true, and_parts}
use Rattle.std.proofs.Math.Nat.{pow-zero, pow-succ', pow-suc, mul-one, mul-le-mul_right, div-eq_of_lt-le, div-mul-le_self, lt-div-mul-add}
use Rattle.std.proofs.lemmas.Nat.{mul-le, pow-add}
use Rattle.std.proofs.lemmas.Bool.{ltb-true, leb-true}
use Rattle.aprs_details.specs.Decimal.{nearest, IsNearest}
use Rattle.aprs_details.specs.GgaAltitude.{feet_of_cs, has_powers, rounded, is_settled, is_settled_by, are_settled}

-- x is a / b cut off
record CutOff (x a b : ℕ) : Type 0 where
  pub least : x * b ≤ a
  pub most : a < suc x * b

not_yet : (p up : ℕ) → p ≡ p * up ^ 0
not_yet p up = sym (ap (λ (n : ℕ). p * n) (pow-zero up) ∙ mul-one p)

once_more : (p up k : ℕ) → p * up * up ^ k ≡ p * up ^ suc k
once_more p up k =
    let e : p * up * up ^ k ≡ p * (up * up ^ k) = omega arith in
    e ∙ ap (λ (n : ℕ). p * n) (sym (pow-succ' up k))

-- what a table of powers has at a place
cut_off_at : (p q up down k : ℕ) (table : List ℕ) → k < length table →
    has_powers p q up down table ≡ true → CutOff (get_or table k 0) (p * up ^ k) (q * down ^ k)
cut_off_at p q up down k [] lt h = absurd (omega arith)
cut_off_at p q up down zero (x ∷ xs) lt h =
    let here = and_parts _ _ (and_parts _ _ h).0 in
    let least = leb-true (x * q) p here.0 in
    let most = ltb-true p (suc x * q) here.1 in
    subst (λ (a : ℕ). CutOff x a (q * down ^ 0)) (not_yet p up)
    (subst (λ (b : ℕ). CutOff x p b) (not_yet q down) (record { least = least; most = most }))
cut_off_at p q up down (suc k) (x ∷ xs) lt h =
    let next = cut_off_at (p * up) (q * down) up down k xs (omega arith) (and_parts _ _ h).1 in
    subst (λ (a : ℕ). CutOff (get_or xs k 0) a (q * down ^ suc k)) (once_more p up k)
    (subst (λ (b : ℕ). CutOff (get_or xs k 0) (p * up * up ^ k) b) (once_more q down k) next)

settled_in : (x k : ℕ) (table : List ℕ) → k < length table → is_settled_by x table ≡ true →
    is_settled x (get_or table k 0) ≡ true
settled_in x k [] lt h = absurd (omega arith)
settled_in x zero (y ∷ ys) lt h = (and_parts _ _ h).0
settled_in x (suc k) (y ∷ ys) lt h = settled_in x k ys (omega arith) (and_parts _ _ h).1

settled_at : (i k : ℕ) (xs ys : List ℕ) → i < length xs → k < length ys → are_settled xs ys ≡ true →
    is_settled (get_or xs i 0) (get_or ys k 0) ≡ true
settled_at i k [] ys lt lk h = absurd (omega arith)
settled_at zero k (x ∷ xs) ys lt lk h = settled_in x k ys lk (and_parts _ _ h).0
settled_at (suc i) k (x ∷ xs) ys lt lk h = settled_at i k xs ys (omega arith) lk (and_parts _ _ h).1

-- a product of two that were cut off
product : (x y a b c d : ℕ) → CutOff x (16777216 * a) (1 * b) → CutOff y (1099511627776 * c) (1 * d) →
    ((x * y) * (b * d) ≤ 18446744073709551616 * (a * c))
    × (18446744073709551616 * (a * c) < (x * y + x + y + 1) * (b * d))
product x y a b c d f g = (
  omega (arith, mul-le (x * (1 * b)) (y * (1 * d)) (16777216 * a) (1099511627776 * c) f.least g.least),
  omega (
    arith,
    mul-le (suc (16777216 * a)) (suc (1099511627776 * c)) (suc x * (1 * b)) (suc y * (1 * d))
        f.most g.most,
  ),
)

-- a number is what a fraction of it between two numbers is rounded to, if both are
between : (m z n d r : ℕ) → m * d ≤ 18446744073709551616 * n → 18446744073709551616 * n < (z + 1) * d →
    rounded m ≡ r → rounded z ≡ r → 0 < d → nearest n d ≡ r
between m z n d r least most em ez pos =
    let low : r * 18446744073709551616 ≤ m + 9223372036854775808 = omega (arith, em) in
    let high : z + 9223372036854775808 < (r + 1) * 18446744073709551616 = omega (arith, ez) in
    let low_d = mul-le-mul_right d low in
    let high_d : suc (z + 9223372036854775808) * d ≤ (r + 1) * 18446744073709551616 * d = mul-le-mul_right d high in
    div-eq_of_lt-le {k = r} (d * 2) (omega (arith, low_d, least)) (omega (arith, high_d, most, pos))

steep : (up k : ℕ) → (up ^ 91) ^ k ≡ up ^ (k * 91)
steep up zero = pow-zero (up ^ 91) ∙ sym (pow-zero up)
steep up (suc k) =
    pow-suc (up ^ 91) k ∙ ap (λ (n : ℕ). n * up ^ 91) (steep up k) ∙ sym (pow-add up (k * 91) 91)
    ∙ ap (λ (n : ℕ). up ^ n) (let e : k * 91 + 91 ≡ suc k * 91 = omega arith in e)

positive : (z n d : ℕ) → n < z * d → 0 < d
positive z n zero lt = absurd (omega (arith, lt))
positive z n (suc d) lt = omega arith

ends_at : (x y a b c d : ℕ) → CutOff x (16777216 * a) (1 * b) → CutOff y (1099511627776 * c) (1 * d) →
    is_settled x y ≡ true → rounded (x * y) ≡ nearest (a * c) (b * d)
ends_at x y a b c d f g h =
    let p = product x y a b c d f g in
    let same = eqb-true _ _ (and_parts _ _ h).1 in
    sym (between (x * y) (x * y + x + y) (a * c) (b * d) (rounded (x * y)) p.0 p.1 refl (sym same)
    (positive (x * y + x + y + 1) (18446744073709551616 * (a * c)) (b * d) p.1))

power_at : (up c s : ℕ) → (up ^ 91) ^ c * up ^ s ≡ up ^ (c * 91 + s)
power_at up c s = ap (λ (n : ℕ). n * up ^ s) (steep up c) ∙ sym (pow-add up (c * 91) s)

-- the altitude of two digits by the powers in two tables
pub product_at : (c s : ℕ) (high low : List ℕ) → c < length high → s < length low →
    has_powers 16777216 1 (1002 ^ 91) (1000 ^ 91) high ≡ true →
    has_powers 1099511627776 1 1002 1000 low ≡ true → are_settled high low ≡ true →
    rounded (get_or high c 0 * get_or low s 0) ≡ feet_of_cs (c * 91 + s)
unfolding feet_of_cs
product_at c s high low lc ls ph pl h =
    ends_at (get_or high c 0) (get_or low s 0) ((1002 ^ 91) ^ c) ((1000 ^ 91) ^ c) (1002 ^ s) (1000 ^ s)
    (cut_off_at 16777216 1 (1002 ^ 91) (1000 ^ 91) c high lc ph) (cut_off_at 1099511627776 1 1002 1000 s low ls pl)
    (settled_at c s high low lc ls h)
    ∙ ap (λ (n : ℕ). nearest n ((1000 ^ 91) ^ c * 1000 ^ s)) (power_at 1002 c s)
    ∙ ap (λ (d : ℕ). nearest (1002 ^ (c * 91 + s)) d) (power_at 1000 c s)

-- and it is small
pub product_small : (c s : ℕ) (high low : List ℕ) → c < length high → s < length low →
    are_settled high low ≡ true → rounded (get_or high c 0 * get_or low s 0) < 4294967296
product_small c s high low lc ls h =
    let lt = ltb-true (get_or high c 0 * get_or low s 0) 39614081257132168796771975168 (and_parts _ _ (settled_at c s high low lc ls h)).0 in
    omega (arith, lt)

-- ---- what is rounded is the nearest

pow_positive : (k : ℕ) → 0 < 1000 ^ k
pow_positive zero = omega (arith, pow-zero 1000)
pow_positive (suc k) = omega (arith, pow-suc 1000 k, pow_positive k)

nearest_is : (n d : ℕ) → 0 < d → IsNearest n d (nearest n d)
nearest_is n d pos =
    let twice : 0 < d * 2 = omega (arith, pos) in
    record {
      not_above = div-mul-le_self (n * 2 + d) (d * 2);
      not_below = lt-div-mul-add {a = n * 2 + d} {b = d * 2} twice;
    }

pub altitude_is_nearest : (cs : ℕ) → IsNearest (1002 ^ cs) (1000 ^ cs) (feet_of_cs cs)
unfolding feet_of_cs
altitude_is_nearest cs = nearest_is (1002 ^ cs) (1000 ^ cs) (pow_positive cs)
