-- Texts that are cut at a byte.
use Rattle.std.specs.Prelude.{◌≡◌, ℕ, ◌==◌, Bool, false, if◌then◌else◌, List, length, Option, None, Some, nat_lt}
use Rattle.std.specs.List.{AllByRecursion, position_or_len, before_first, after_first}
use Rattle.std.specs.Borrow.{Bor}

-- The byte is `stop`.
abbrev pub is_byte : ℕ → ℕ → Bool
is_byte stop byte = byte == stop

-- The text lacks the byte.
abbrev pub Lacks : ℕ → List ℕ → Type 0
Lacks stop text = AllByRecursion (λ b. is_byte stop b ≡ false) text

-- The part of a text before a byte, and the part after it.
pub record Cut : Type 0 where
  pub before : List ℕ
  pub after : List ℕ

-- The text has the byte.
abbrev pub has_byte : ℕ → List ℕ → Bool
has_byte stop text = nat_lt (position_or_len (is_byte stop) text) (length text)

-- The parts before and after the first such byte. Without one, all of the text and nothing.
abbrev pub first_cut : ℕ → List ℕ → Cut
first_cut stop text = record {
  before = before_first (is_byte stop) text;
  after = after_first (is_byte stop) text;
}

-- The text cut at the first such byte, if it has one.
unfoldable pub cut_at : ℕ → List ℕ → Option Cut
cut_at stop text = if has_byte stop text then Some (first_cut stop text) else None

-- The two parts that a function lends.
abbrev pub cut_of : Bor (List ℕ) × Bor (List ℕ) → Cut
cut_of parts = record { before = parts.0.now; after = parts.1.now }
