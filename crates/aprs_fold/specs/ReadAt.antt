-- What is answered of bytes that can be read at any place, where they are known.
use Rattle.std.specs.Prelude.{◌≡◌, ◌<◌, ℕ, List, [], ◌++◌, length, take, drop, Option, Result, IfSome, IfOk}

-- At `Ok` the answer is how many bytes there are.
abbrev pub HasSize : {E : Type 0} → Option (List ℕ) → Result ℕ E → Type 0
HasSize known r = IfSome known (λ bytes. IfOk r (λ n. n ≡ length bytes))

-- At `Ok` of n the bytes from this place on begin with the first n of the room; there are none, if
-- none came though there was room.
abbrev pub GivesAt : {E : Type 0} → Option (List ℕ) → ℕ → Result ℕ E → List ℕ → Type 0
GivesAt known at r room = IfSome known (λ bytes. IfOk r (λ n.
    (rest : List ℕ) × (drop at bytes ≡ take n room ++ rest)
    × (n ≡ 0 → 0 < length room → rest ≡ [])))
