-- Matches between the rows in front of several streams.
use Rattle.std.specs.Prelude.{◌≡◌, ℕ, ◌+◌, ◌*◌, ◌/◌, ◌<◌, ◌⊎◌, zero, suc, List, [], ◌∷◌, length, Option}
use Rattle.aprs_transmissions.specs.Row.{Row}
use Rattle.aprs_rows.specs.Fronts.{front_at, NotAfter}

-- The stream that won the match of this number. The numbers after those of all matches stand for
-- the streams, from stream 0 on.
abbrev pub winner_of : List ℕ → ℕ → ℕ
winner_of [] number = number
winner_of (w ∷ winners) zero = w
winner_of (w ∷ winners) (suc number) = winner_of winners number

-- A match was won by the winner of one of the two before it, whose row comes after neither's.
pub record IsWon {X : Type 0} (front : X → Option Row) (streams : List X) (winners : List ℕ)
    (number : ℕ) : Type 0 where
  pub either : (winner_of winners number ≡ winner_of winners (2 * number))
      ⊎ (winner_of winners number ≡ winner_of winners (2 * number + 1))
  pub one : NotAfter (front_at front streams (winner_of winners number))
      (front_at front streams (winner_of winners (2 * number)))
  pub other : NotAfter (front_at front streams (winner_of winners number))
      (front_at front streams (winner_of winners (2 * number + 1)))

-- The winners are among so many streams.
abbrev pub AreWithin : List ℕ → ℕ → Type 0
AreWithin winners count = (number : ℕ) → number < count + count → winner_of winners number < count

-- Each match was played, but for some.
pub record IsPlayedBut {X : Type 0} (front : X → Option Row) (streams : List X) (winners : List ℕ)
    (Open : ℕ → Type 0) : Type 0 where
  pub each : length winners ≡ length streams
  pub within : AreWithin winners (length streams)
  pub won : (number : ℕ) → 0 < number → number < length streams
      → IsWon front streams winners number ⊎ Open number

-- Each match was played.
abbrev pub IsPlayed : {X : Type 0} → (X → Option Row) → List X → List ℕ → Type 0
IsPlayed front streams winners = IsPlayedBut front streams winners (λ number. ⊥)

-- The match that comes so many times after this number.
abbrev pub halved : ℕ → ℕ → ℕ
halved zero number = number
halved (suc times) number = halved times (number / 2)

-- The matches that come after this number, from the next one to the last.
abbrev pub IsAbove : ℕ → ℕ → Type 0
IsAbove number above = (times : ℕ) × (above ≡ halved (suc times) number)
