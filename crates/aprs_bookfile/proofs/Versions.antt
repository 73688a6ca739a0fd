-- Lemmas on versions of book files.
use Rattle.aprs_bookfile.proofs.Common.{◌≡◌, ℕ, ◌+◌, ◌%◌, ◌^◌, ◌<◌, ◌≤◌, Bool, true, false, List, [], ◌∷◌, length, Option, None, Some, get_or, refl, sym, ap, ◌∙◌, arith, ◌≢◌, decimal, bytes_eq, nat_tests, decimal_by_steps, decimal_injective, length-decimal-le, bytes_eq-Decides, IsGap, millis_of, standard_gap, is_byte}
use Rattle.aprs_io.specs.Cut.{Lacks}
use Rattle.aprs_bookfile.specs.Version.{gap_of, header_of, IsVersion}
use Rattle.aprs_bookfile.specs.declared.version.Version.{Version}
use Rattle.aprs_bookfile.specs.declared.version.Version.TheVariants.{One, Two, Three}
use Rattle.aprs_bookfile.proofs.Cuts.{lacks_append}

-- ---- no number has an LF

digit_lacks : (d : ℕ) → 48 ≤ d → is_byte 10 d ≡ false
digit_lacks d h = grind (arith, nat_tests)

pub decimal_lacks : (n : ℕ) → n < 2 ^ 64 → Lacks 10 (decimal n)
decimal_lacks n h = decimal_by_steps (λ m ds. Lacks 10 ds)
    (λ m low. (digit_lacks (48 + m) (omega arith), tt))
    (λ m ds low before. lacks_append 10 ds ((48 + m % 10) ∷ []) before
    (digit_lacks (48 + m % 10) (omega arith), tt)) n h

-- ---- headers

pub header_lacks : (v : Version) → IsVersion v → Lacks 10 (header_of v)
header_lacks One h =
    (refl, (refl, (refl, (refl, (refl, (refl, (refl, (refl, (refl, (refl, tt))))))))))
header_lacks Two h =
    (refl, (refl, (refl, (refl, (refl, (refl, (refl, (refl, (refl, (refl, tt))))))))))
header_lacks (Three g) h = (
  refl,
  (
    refl,
    (
      refl,
      (
        refl,
        (
          refl,
          (
            refl,
            (
              refl,
              (
                refl,
                (
                  refl,
                  (
                    refl,
                    (
                      refl,
                      decimal_lacks g (omega (arith, h.1)),
                    ),
                  ),
                ),
              ),
            ),
          ),
        ),
      ),
    ),
  ),
)

-- the tenth byte
mark : (v w : Version) → header_of v ≡ header_of w
    → get_or (header_of v) 9 0 ≡ get_or (header_of w) 9 0
mark v w e = ap (λ l. get_or l 9 0) e

-- says which version it is, and what follows it the gap
pub headers_differ : (v w : Version) → IsVersion v → IsVersion w → header_of v ≡ header_of w → v ≡ w
headers_differ One One h k e = refl
headers_differ One Two h k e = let n : 49 ≡ 50 = mark One Two e in absurd (omega (arith, n))
headers_differ One (Three g) h k e = let n : 49 ≡ 51 = mark One (Three g) e in
    absurd (omega (arith, n))
headers_differ Two One h k e = let n : 50 ≡ 49 = mark Two One e in absurd (omega (arith, n))
headers_differ Two Two h k e = refl
headers_differ Two (Three g) h k e = let n : 50 ≡ 51 = mark Two (Three g) e in
    absurd (omega (arith, n))
headers_differ (Three f) One h k e = let n : 51 ≡ 49 = mark (Three f) One e in
    absurd (omega (arith, n))
headers_differ (Three f) Two h k e = let n : 51 ≡ 50 = mark (Three f) Two e in
    absurd (omega (arith, n))
headers_differ (Three f) (Three g) h k e =
    let tails : decimal f ≡ decimal g = cc in
    ap (λ n. Three n) (decimal_injective f g (omega (arith, h.1)) (omega (arith, k.1)) tails)

-- a line that is the header of none
pub no_header : (line : List ℕ) → line ≢ header_of One → line ≢ header_of Two
    → ((g : ℕ) → IsGap g → line ≢ header_of (Three g))
    → (v : Version) → IsVersion v → line ≢ header_of v
no_header line a b c One h = a
no_header line a b c Two h = b
no_header line a b c (Three g) h = c g h

-- ---- gaps

pub standard_range : IsGap standard_gap
standard_range = (omega arith, omega arith)

pub some_millis : (v : Version) → IsVersion v → 0 < millis_of (gap_of v)
some_millis v h = omega (arith, h.0)

-- a gap has four digits at most
pub few_digits : (g : ℕ) (bytes text : List ℕ) → IsGap g → bytes ≡ text → text ≡ decimal g
    → length bytes ≤ 4
few_digits g bytes text h same is = let l = length-decimal-le 4 g (omega arith) (omega (arith, h.1))
    (omega (arith, h.1)) in omega (arith, l, ap length same, ap length is)

-- ---- reading a header

-- what was found of a number that is another
pub found_other : (x : Option ℕ) (g : ℕ) → x ≡ None → x ≡ Some g → ⊥
found_other x g n s = let f : None ≡ Some g = sym n ∙ s in cc

pub found_same : (x : Option ℕ) (f g : ℕ) → x ≡ Some f → x ≡ Some g → f ≡ g
found_same x f g a b = let e : Some f ≡ Some g = sym a ∙ b in cc

-- a test of two texts that fails
pub other_text : (b : Bool) (a t : List ℕ) → b ≡ false → b ≡ bytes_eq a t → a ≡ t → ⊥
other_text b a t f e same = let g : true ≡ false = sym ((bytes_eq-Decides a t).1 same) ∙ sym e
    ∙ f in cc
