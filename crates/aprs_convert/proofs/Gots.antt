-- Lemmas on what is got of an input.
use Rattle.aprs_convert.proofs.Common.{ℕ, List, Option, None, Some, IfSome, Gets, InputEnd}

-- what follows of each text follows of what was got
pub got_so : (known after : Option (List ℕ)) (limit : ℕ) (whole : List ℕ → List ℕ) (P Q : List ℕ
    → InputEnd → Type 0) → ((t : List ℕ) (c : InputEnd) → P t c → Q t c)
    → IfSome known (λ input. (t : List ℕ) × (c : InputEnd) × Gets limit (whole input) after t c × P t c)
    → IfSome known (λ input. (t : List ℕ) × (c : InputEnd) × Gets limit (whole input) after t c × Q t c)
got_so None after limit whole P Q follows h = tt
got_so (Some input) after limit whole P Q follows h = (h.0, h.1, h.2, follows h.0 h.1 h.3)
