-- One reception is near to at most two rows, which are neighbours.
use Rattle.aprs_transmissions.proofs.Common.{◌≡◌, ℕ, ◌+◌, ◌<◌, ◌≤◌, List, [], ◌∷◌, ◌⊎◌, inl, inr, sym, ◌∙◌, subst, arith, Less, Received}
use Rattle.aprs_transmissions.specs.Lists.{◌∈◌, Ordered}
use Rattle.aprs_transmissions.specs.Key.{Key, key_cmp}
use Rattle.aprs_transmissions.specs.Row.{Row, row_key, last_moment}
use Rattle.aprs_transmissions.specs.Sound.{Sound}
use Rattle.aprs_transmissions.specs.JoinRow.{single, IsNear}
use Rattle.aprs_transmissions.proofs.Orders.{not_both, key_total}
use Rattle.aprs_transmissions.proofs.Rows.{IsBefore}
use Rattle.aprs_transmissions.proofs.Pushes.{one_relation}

-- rows of one key, one before the other, are more than the gap apart
pub far_of_before : (gap : ℕ) (x y : Row) → row_key x ≡ row_key y → IsBefore gap x y
    → last_moment x + gap < y.first
far_of_before gap x y e (inl h) =
    let r =
    subst (λ (k : Key). key_cmp k (row_key y) ≡ Less) e h in
    absurd (not_both key_total (row_key y) (row_key y) r r)
far_of_before gap x y e (inr h) = h.1

-- no reception is near to three rows, each before the next
pub not_three : (gap : ℕ) (s : Received) (x y z : Row) → y.first ≤ last_moment y → IsBefore gap x y
    → IsBefore gap y z → IsNear gap x (single s) → IsNear gap y (single s) → IsNear gap z (single s)
    → ⊥
not_three gap s x y z l b c i j k =
    let f = far_of_before gap x y (i.key ∙ sym j.key) b in
    let g = far_of_before gap y z (j.key ∙ sym k.key) c in
    apart (last_moment x) y.first (last_moment y) z.first s.moment f g l i.after k.before where
      apart : (a b c d m : ℕ) → a + gap < b → c + gap < d → b ≤ c → m ≤ a + gap → d ≤ m + gap → ⊥
      apart a b c d m f g l i k = omega arith

-- two members of a list in order
pub one_or_ordered : {X : Type 0} (R : X → X → Type 0) (xs : List X) (x y : X) → Ordered R xs
    → x ∈ xs → y ∈ xs → (x ≡ y) ⊎ (R x y ⊎ R y x)
one_or_ordered R [] x y o h k = absurd h
one_or_ordered R (w ∷ ws) x y o (inl h) (inl k) = inl (sym h ∙ k)
one_or_ordered {X} R (w ∷ ws) x y o (inl h) (inr k) =
    inr (inl (subst (λ (v : X). R v y) h (o.0 y k)))
one_or_ordered {X} R (w ∷ ws) x y o (inr h) (inl k) =
    inr (inr (subst (λ (v : X). R v x) k (o.0 x h)))
one_or_ordered R (w ∷ ws) x y o (inr h) (inr k) = one_or_ordered R ws x y o.1 h k

pub two_of_three : (gap : ℕ) (p : List Row) (s : Received) (x y z : Row) → Sound gap p → x ∈ p
    → y ∈ p
    → z ∈ p → IsNear gap x (single s) → IsNear gap y (single s) → IsNear gap z (single s)
    → (x ≡ y) ⊎ (y ≡ z) ⊎ (x ≡ z)
two_of_three gap p s x y z w hx hy hz nx ny nz = elim (lie x y hx hy) [
  | inl e ↦ inl e
  | inr xy ↦ elim (lie y z hy hz) [
    | inl e ↦ inr (inl e)
    | inr yz ↦ elim (lie x z hx hz) [
      | inl e ↦ inr (inr e)
      | inr xz ↦ absurd (no xy yz xz)
    ]
  ]
] where
  lie : (v w : Row) → v ∈ p → w ∈ p → (v ≡ w) ⊎ (IsBefore gap v w ⊎ IsBefore gap w v)
  lie v u hv hu = one_or_ordered (IsBefore gap) p v u (one_relation gap p w).ordered hv hu

  span : (v : Row) → v ∈ p → v.first ≤ last_moment v
  span v h = (w.each v h).in_order

  no : IsBefore gap x y ⊎ IsBefore gap y x → IsBefore gap y z ⊎ IsBefore gap z y
      → IsBefore gap x z ⊎ IsBefore gap z x → ⊥
  no (inl a) (inl b) c = not_three gap s x y z (span y hy) a b nx ny nz
  no (inl a) (inr b) (inl c) = not_three gap s x z y (span z hz) c b nx nz ny
  no (inl a) (inr b) (inr c) = not_three gap s z x y (span x hx) c a nz nx ny
  no (inr a) (inl b) (inl c) = not_three gap s y x z (span x hx) a c ny nx nz
  no (inr a) (inl b) (inr c) = not_three gap s y z x (span z hz) b c ny nz nx
  no (inr a) (inr b) c = not_three gap s z y x (span y hy) b a nz ny nx
