-- Numbers in digits, from the left.
use Rattle.aprs_report.proofs.Common.{◌≡◌, ℕ, zero, suc, ◌+◌, ◌*◌, ◌-◌, ◌^◌, ◌<◌, ◌≤◌, true, false, List, [], ◌∷◌, ◌++◌, length, take, get_or, Some, None, refl, sym, ap, subst, ◌∙◌, arith, ltb, leb, lit≤, add-one, list_all, and_parts, and_from, ltb-true, length-append, take_all, take-suc}
use Rattle.std.proofs.Math.Nat.{pow-zero, pow-suc, mul_assoc, mul-one, add-mul, mul-le-mul_left}
use Rattle.std.proofs.lemmas.List.Folds.{list_all-append, list_all_at}
use Rattle.aprs_report.specs.Numeral.{is_digit_of, number, IsNumeral}
use Rattle.aprs_report.specs.Reader.{numeral_of}
use Rattle.aprs_report.proofs.Steps.{guarded_some}

regroup : (a p b m d : ℕ) → a * (p * b) + (m * b + d) ≡ (a * p + m) * b + d
regroup a p b m d = omega (arith, mul_assoc a p b, add-mul (a * p) m b)

length_push : (xs : List ℕ) (d : ℕ) → length (xs ++ d ∷ []) ≡ suc (length xs)
length_push xs d = omega (arith, length-append xs (d ∷ []))

-- one digit more
pub number_push : (base nought : ℕ) (xs : List ℕ) (d : ℕ) →
    number base nought (xs ++ d ∷ []) ≡ number base nought xs * base + (d - nought)
number_push base nought [] d = rw (pow-zero, mul-one) (omega arith)
number_push base nought (x ∷ xs) d =
    rw (number_push base nought xs d, length_push xs d, pow-suc base (length xs))
    (regroup (x - nought) (base ^ length xs) base (number base nought xs) (d - nought))

-- what the loop knows of the digits that it has read
pub record ReadTo (base nought : ℕ) (text : List ℕ) (i n : ℕ) : Type 0 where
  pub digits : list_all (is_digit_of base nought) (take i text) ≡ true
  pub value : n ≡ number base nought (take i text)
  pub below : n < 91 ^ i

small_power : (i : ℕ) → i ≤ 4 → 91 ^ i ≤ 68574961
small_power zero h = lit≤ tt
small_power (suc zero) h = lit≤ tt
small_power (suc (suc zero)) h = lit≤ tt
small_power (suc (suc (suc zero))) h = lit≤ tt
small_power (suc (suc (suc (suc zero)))) h = lit≤ tt
small_power (suc (suc (suc (suc (suc i))))) h = absurd (omega arith)

-- how large the next number can be, by the digits that it has
next_below : (base n d i : ℕ) → base ≤ 91 → d < base → n < 91 ^ i → n * base + d < 91 ^ suc i
next_below base n d i b db h =
    let wide : n * base ≤ n * 91 = mul-le-mul_left n b in
    omega (arith, pow-suc 91 i)

pub digit_below : (base nought b : ℕ) → is_digit_of base nought b ≡ true → b - nought < base
digit_below base nought b h = ltb-true _ _ (and_parts (leb nought b) (ltb (b - nought) base) h).1

pub next_small : (base nought : ℕ) (text : List ℕ) (i n b : ℕ) → base ≤ 91 → i < 4 →
    is_digit_of base nought b ≡ true → ReadTo base nought text i n →
    n * base + (b - nought) < 68574961
next_small base nought text i n b wide lt h r =
    omega (
      arith,
      next_below base n (b - nought) i wide (digit_below base nought b h) r.below,
      small_power (suc i) (omega arith),
    )

pub read_small : (base nought : ℕ) (text : List ℕ) (i n : ℕ) → i ≤ 4 →
    ReadTo base nought text i n → n < 68574961
read_small base nought text i n le r = omega (arith, r.below, small_power i le)

reads_suc : (base nought : ℕ) (text : List ℕ) (i n : ℕ) → base ≤ 91 → i < length text →
    is_digit_of base nought (get_or text i 0) ≡ true → ReadTo base nought text i n →
    ReadTo base nought text (suc i) (n * base + (get_or text i 0 - nought))
reads_suc base nought text i n b lt h r =
    let start = take-suc text i 0 lt in
    record {
      digits =
          ap (list_all (is_digit_of base nought)) start
          ∙ list_all-append (is_digit_of base nought) (take i text) (get_or text i 0 ∷ [])
          ∙ and_from _ _ r.digits (and_from _ _ h refl);
      value =
          ap (λ (n : ℕ). n * base + (get_or text i 0 - nought)) r.value
          ∙ sym (ap (number base nought) start ∙ number_push base nought (take i text)
          (get_or text i 0));
      below =
          next_below base n (get_or text i 0 - nought) i b
          (digit_below base nought (get_or text i 0) h) r.below;
    }

pub reads_next : (base nought : ℕ) (text : List ℕ) (i n : ℕ) → base ≤ 91 → i < length text →
    is_digit_of base nought (get_or text i 0) ≡ true → ReadTo base nought text i n →
    ReadTo base nought text (i + 1) (n * base + (get_or text i 0 - nought))
reads_next base nought text i n b lt h r =
    subst (λ (k : ℕ). ReadTo base nought text k (n * base + (get_or text i 0 - nought)))
    (sym (add-one i)) (reads_suc base nought text i n b lt h r)

pub reads_no_digit : (base nought : ℕ) (text : List ℕ) (i : ℕ) → i < length text →
    is_digit_of base nought (get_or text i 0) ≡ false → None ≡ numeral_of base nought text
unfolding numeral_of
reads_no_digit base nought text i lt h =
    rw (list_all_at (is_digit_of base nought) text i 0 lt h) refl

pub reads_all : (base nought : ℕ) (text : List ℕ) (i n : ℕ) → length text ≤ i →
    ReadTo base nought text i n → Some n ≡ numeral_of base nought text
unfolding numeral_of
reads_all base nought text i n le r =
    let whole = take_all i text le in
    let digits : list_all (is_digit_of base nought) text ≡ true =
    ap (list_all (is_digit_of base nought)) (sym whole) ∙ r.digits in
    let value : n ≡ number base nought text = r.value ∙ ap (number base nought) whole in
    rw (digits, ← value) refl

-- ---- the laws

pub numeral_found : (base nought : ℕ) (text : List ℕ) (n : ℕ) →
    numeral_of base nought text ≡ Some n → IsNumeral base nought n text
unfolding numeral_of
numeral_found base nought text n e =
    let g = guarded_some _ _ _ e in
    record { digits = g.0; value = sym g.1 }

pub numeral_takes : (base nought : ℕ) (text : List ℕ) (n : ℕ) → IsNumeral base nought n text →
    numeral_of base nought text ≡ Some n
unfolding numeral_of
numeral_takes base nought text n h = rw (← h.value, h.digits) refl
