-- Books with their gaps.
use Rattle.aprs_transmissions.proofs.Common.{◌≡◌, ℕ, ◌≤◌, List, ◌++◌, ◌↔◌, refl, subst, arith, Received}
use Rattle.aprs_transmissions.specs.Gap.{IsGap, millis_of}
use Rattle.aprs_transmissions.specs.Book.{BookOf}
use Rattle.aprs_transmissions.specs.Sound.{Sound}
use Rattle.aprs_transmissions.specs.BookValue.{BookValue, Holds, IsSoundBook, AreJoined, widened_to}
use Rattle.aprs_transmissions.proofs.Joins.{some_millis}
use Rattle.aprs_transmissions.proofs.RunRows.{union_is_joined}
use Rattle.aprs_transmissions.proofs.Widening.{widens_book, widens_joined}

-- what holds under a gap holds under an equal one
moved : (g h : ℕ) (S : List Received) (b : BookValue) → g ≡ h → BookOf (millis_of g) S b.rows
    → BookOf (millis_of h) S b.rows
moved g h S b e k = subst (λ (n : ℕ). BookOf (millis_of n) S b.rows) e k

sound_under : (g h : ℕ) (b : BookValue) → g ≡ h → Sound (millis_of g) b.rows
    → Sound (millis_of h) b.rows
sound_under g h b e k = subst (λ (n : ℕ). Sound (millis_of n) b.rows) e k

pub union_has_joined_book : (S T : List Received) (a b c : BookValue) → IsGap c.gap → a.gap ≡ c.gap
    → b.gap ≡ c.gap → Holds S a → Holds T b → Holds (S ++ T) c ↔ AreJoined a b c
union_has_joined_book S T a b c r d e h k =
    let u = union_is_joined (millis_of c.gap) (some_millis c.gap r) S T a.rows b.rows c.rows
    (moved a.gap c.gap S a d h) (moved b.gap c.gap T b e k) in (
      λ w. record { left = d; right = e; range = r; rows = u.0 w },
      λ j. u.1 j.rows,
    )

pub widened_holds : (gap : ℕ) (S : List Received) (b : BookValue) → b.gap ≤ gap → Holds S b
    → Holds S (widened_to gap b)
widened_holds gap S b l h =
    widens_book (millis_of b.gap) (millis_of gap) S b.rows (omega (arith, l)) h

pub widens_joined_books : (gap : ℕ) (a b c : BookValue) → IsGap gap → c.gap ≤ gap
    → IsSoundBook a → IsSoundBook b → AreJoined a b c
    → AreJoined (widened_to gap a) (widened_to gap b) (widened_to gap c)
widens_joined_books gap a b c r l v w j = record {
  left = refl;
  right = refl;
  range = r;
  rows = widens_joined (millis_of c.gap) (millis_of gap) a.rows b.rows c.rows
      (some_millis c.gap j.range) (omega (arith, l)) (sound_under a.gap c.gap a j.left v.sound)
      (sound_under b.gap c.gap b j.right w.sound) j.rows;
}
