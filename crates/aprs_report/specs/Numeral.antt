-- Numbers written in digits, the most significant first.
use Rattle.std.specs.Prelude.{◌≡◌, ℕ, ◌+◌, ◌*◌, ◌-◌, ◌^◌, Bool, true, ◌&&◌, nat_le, nat_lt, List}
use Rattle.std.specs.Prelude.{[], ◌∷◌, length}
use Rattle.std.specs.List.{list_all}

-- The byte is a digit of the base: one of as many bytes, from that of nought on.
abbrev pub is_digit_of : ℕ → ℕ → ℕ → Bool
is_digit_of base nought b = nat_le nought b && nat_lt (b - nought) base

-- The sum of each digit times the power of its place.
abbrev pub number : ℕ → ℕ → List ℕ → ℕ
number base nought [] = 0
number base nought (d ∷ ds) = (d - nought) * base ^ length ds + number base nought ds

-- The text is this number in digits of the base.
pub record IsNumeral (base nought n : ℕ) (text : List ℕ) : Type 0 where
  pub digits : list_all (is_digit_of base nought) text ≡ true
  pub value : n ≡ number base nought text
