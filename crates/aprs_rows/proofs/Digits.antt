-- Numbers of digits, base 256, are in order as the digits are.
use Rattle.aprs_rows.proofs.Common.{◌≡◌, ◌∙◌, ℕ, zero, suc, ◌+◌, ◌*◌, ◌<◌, List, [], ◌∷◌, length, get_or, refl, sym, ap, arith, w64, from_be_bytes, nat_cmp, ordering_then, Ordering, Less, Equal, Greater, nat_tests, tied_itself, bytes_cmp, bytes_total, ordering_then_assoc}

pub then_equal : (o : Ordering) → ordering_then o Equal ≡ o
then_equal Less = refl
then_equal Equal = refl
then_equal Greater = refl

-- ---- numbers of digits

-- the number of the digits after those of n, base 256
abbrev pub number : ℕ → List ℕ → ℕ
number n [] = n
number n (d ∷ digits) = number (256 * n + d) digits

-- each is a byte
abbrev pub Bytes : List ℕ → Type 0
Bytes xs = (i : ℕ) → get_or xs i 0 < 256

digit_cmp : (m n x y : ℕ) → x < 256 → y < 256
    → nat_cmp (256 * m + x) (256 * n + y) ≡ ordering_then (nat_cmp m n) (nat_cmp x y)
digit_cmp m n x y h k = grind (arith, nat_tests)

-- numbers of as many digits are in order as their digits are
number_cmp : (m n : ℕ) (xs ys : List ℕ) → length xs ≡ length ys → Bytes xs → Bytes ys
    → nat_cmp (number m xs) (number n ys) ≡ ordering_then (nat_cmp m n) (bytes_cmp xs ys)
number_cmp m n [] [] e h k = sym (then_equal (nat_cmp m n))
number_cmp m n [] (y ∷ ys) e h k = absurd (omega (arith, e))
number_cmp m n (x ∷ xs) [] e h k = absurd (omega (arith, e))
number_cmp m n (x ∷ xs) (y ∷ ys) e h k =
    number_cmp (256 * m + x) (256 * n + y) xs ys (omega (arith, e)) (λ i. h (suc i))
    (λ i. k (suc i))
    ∙ ap (λ o. ordering_then o (bytes_cmp xs ys)) (digit_cmp m n x y (h 0) (k 0))
    ∙ ordering_then_assoc (nat_cmp m n) (nat_cmp x y) (bytes_cmp xs ys)

-- ---- the first digits

-- n bytes: the first, and zeros where there are fewer
abbrev pub first : ℕ → List ℕ → List ℕ
first zero xs = []
first (suc n) [] = 0 ∷ first n []
first (suc n) (x ∷ xs) = x ∷ first n xs

length-first : (n : ℕ) (xs : List ℕ) → length (first n xs) ≡ n
length-first zero xs = refl
length-first (suc n) [] = ap suc (length-first n [])
length-first (suc n) (x ∷ xs) = ap suc (length-first n xs)

pub first_all : (n : ℕ) (xs : List ℕ) → length xs ≡ n → first n xs ≡ xs
first_all zero [] e = refl
first_all zero (x ∷ xs) e = absurd (omega (arith, e))
first_all (suc n) [] e = absurd (omega (arith, e))
first_all (suc n) (x ∷ xs) e = ap (λ t. x ∷ t) (first_all n xs (omega (arith, e)))

pub Bytes-first : (n : ℕ) (xs : List ℕ) → Bytes xs → Bytes (first n xs)
Bytes-first zero xs h i = omega arith
Bytes-first (suc n) [] h zero = omega arith
Bytes-first (suc n) [] h (suc i) = Bytes-first n [] h i
Bytes-first (suc n) (x ∷ xs) h zero = h 0
Bytes-first (suc n) (x ∷ xs) h (suc i) = Bytes-first n xs (λ j. h (suc j)) i

first_eight : (xs : List ℕ)
    → first 8 xs
    ≡ get_or xs 0 0 ∷ get_or xs 1 0 ∷ get_or xs 2 0 ∷ get_or xs 3 0 ∷ get_or xs 4 0
    ∷ get_or xs 5 0 ∷ get_or xs 6 0 ∷ get_or xs 7 0 ∷ []
first_eight [] = refl
first_eight (a ∷ []) = refl
first_eight (a ∷ b ∷ []) = refl
first_eight (a ∷ b ∷ c ∷ []) = refl
first_eight (a ∷ b ∷ c ∷ d ∷ []) = refl
first_eight (a ∷ b ∷ c ∷ d ∷ e ∷ []) = refl
first_eight (a ∷ b ∷ c ∷ d ∷ e ∷ f ∷ []) = refl
first_eight (a ∷ b ∷ c ∷ d ∷ e ∷ f ∷ g ∷ []) = refl
first_eight (a ∷ b ∷ c ∷ d ∷ e ∷ f ∷ g ∷ h ∷ xs) = refl

be_number : (xs : List ℕ) → from_be_bytes w64 xs ≡ number 0 (first 8 xs)
be_number xs = rw (first_eight xs) (omega arith)

-- `from_be_bytes` reads the first eight
pub be_cmp : (xs ys : List ℕ) → Bytes xs → Bytes ys
    → nat_cmp (from_be_bytes w64 xs) (from_be_bytes w64 ys) ≡ bytes_cmp (first 8 xs) (first 8 ys)
be_cmp xs ys h k =
    rw (be_number xs, be_number ys)
    (number_cmp 0 0 (first 8 xs) (first 8 ys) (length-first 8 xs ∙ sym (length-first 8 ys))
    (Bytes-first 8 xs h) (Bytes-first 8 ys k))

pub be_cmp_all : (xs ys : List ℕ) → length xs ≡ 8 → length ys ≡ 8 → Bytes xs → Bytes ys
    → nat_cmp (from_be_bytes w64 xs) (from_be_bytes w64 ys) ≡ bytes_cmp xs ys
be_cmp_all xs ys e f h k = be_cmp xs ys h k ∙ rw (first_all 8 xs e, first_all 8 ys f) refl

pub zero_less : (y : ℕ) → nat_cmp 0 (suc y) ≡ Less
zero_less y = grind (arith, nat_tests)

pub zero_greater : (x : ℕ) → nat_cmp (suc x) 0 ≡ Greater
zero_greater x = grind (arith, nat_tests)

-- zeros are not after what they stand for
zeros_less : (n : ℕ) (ys : List ℕ)
    → ordering_then (bytes_cmp (first n []) (first n ys)) Less ≡ Less
zeros_less zero ys = refl
zeros_less (suc n) [] = zeros_less n []
zeros_less (suc n) (zero ∷ ys) = zeros_less n ys
zeros_less (suc n) (suc y ∷ ys) = rw (zero_less y) refl

zeros_greater : (n : ℕ) (xs : List ℕ)
    → ordering_then (bytes_cmp (first n xs) (first n [])) Greater ≡ Greater
zeros_greater zero xs = refl
zeros_greater (suc n) [] = zeros_greater n []
zeros_greater (suc n) (zero ∷ xs) = zeros_greater n xs
zeros_greater (suc n) (suc x ∷ xs) = rw (zero_greater x) refl

-- where the first bytes differ, they decide
pub first_then_all : (n : ℕ) (xs ys : List ℕ)
    → ordering_then (bytes_cmp (first n xs) (first n ys)) (bytes_cmp xs ys) ≡ bytes_cmp xs ys
first_then_all zero xs ys = refl
first_then_all (suc n) [] [] = then_equal _ ∙ tied_itself bytes_total (first (suc n) [])
first_then_all (suc n) [] (y ∷ ys) = zeros_less (suc n) (y ∷ ys)
first_then_all (suc n) (x ∷ xs) [] = zeros_greater (suc n) (x ∷ xs)
first_then_all (suc n) (x ∷ xs) (y ∷ ys) = under (nat_cmp x y) _ _ (first_then_all n xs ys) where
  under : (o p q : Ordering) → ordering_then p q ≡ q
      → ordering_then (ordering_then o p) (ordering_then o q) ≡ ordering_then o q
  under Less p q e = refl
  under Equal p q e = e
  under Greater p q e = refl
