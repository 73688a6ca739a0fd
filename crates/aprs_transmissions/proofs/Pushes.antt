-- One more row at the end of sound rows: only the last row has to be looked at.
use Rattle.aprs_transmissions.proofs.Common.{◌≡◌, ℕ, ◌≤◌, List, [], ◌∷◌, ◌++◌, ◌⊎◌, ◌↔◌, inl, inr, refl, sym, ap, ◌∙◌, subst, Option, None, Some, IfSome, Less}
use Rattle.std.specs.List.{last_or}
use Rattle.aprs_transmissions.specs.Lists.{◌∈◌, IfLast, Ordered}
use Rattle.aprs_transmissions.specs.Order.{IsBelow}
use Rattle.aprs_transmissions.specs.Key.{Key, key_cmp}
use Rattle.aprs_transmissions.specs.Row.{Row, row_key, last_moment, row_cmp}
use Rattle.aprs_transmissions.specs.Sound.{FollowsFar, IsSoundRow, IsFar, Sound, IsNext}
use Rattle.aprs_transmissions.proofs.Lists.{in_left, in_right, in_either, ordered_weaker}
use Rattle.aprs_transmissions.proofs.Places.{ordered_append}
use Rattle.aprs_transmissions.proofs.Orders.{not_both, key_total}
use Rattle.aprs_transmissions.proofs.Rows.{IsBefore, before_trans}
use Rattle.aprs_transmissions.proofs.Books.{below}
use Rattle.aprs_transmissions.proofs.Soundness.{before_of_sound, both}

-- soundness by the one relation
pub record IsSound (gap : ℕ) (rows : List Row) : Type 0 where
  pub ordered : Ordered (IsBefore gap) rows
  pub each : (x : Row) → x ∈ rows → IsSoundRow x

pub one_relation : (gap : ℕ) (rows : List Row) → Sound gap rows → IsSound gap rows
one_relation gap rows s = record {
  ordered =
      ordered_weaker (λ x y. IsBelow row_cmp x y × IsFar gap x y) (IsBefore gap) rows
      (λ x y hx hy h. before_of_sound gap x y h.0 h.1)
      (both (IsBelow row_cmp) (IsFar gap) rows s.ascending s.apart);
  each = s.each;
}

pub two_relations : (gap : ℕ) (rows : List Row) → IsSound gap rows → Sound gap rows
two_relations gap rows s = record {
  ascending =
      ordered_weaker (IsBefore gap) (IsBelow row_cmp) rows
      (λ x y hx hy b. below gap x y (s.each x hx).in_order b) s.ordered;
  apart = ordered_weaker (IsBefore gap) (IsFar gap) rows (λ x y hx hy b. far x y b) s.ordered;
  each = s.each;
} where
  far : (x y : Row) → IsBefore gap x y → IsFar gap x y
  far x y (inl h) e =
      let r =
      subst (λ (q : Key). key_cmp q (row_key y) ≡ Less) e h in
      absurd (not_both key_total (row_key y) (row_key y) r r)
  far x y (inr h) e = h.1

-- what is before all of some rows is known by the last of them
pub before_last : (gap : ℕ) (prefix : List Row) (l x : Row)
    → Ordered (IsBefore gap) (prefix ++ l ∷ []) → l.first ≤ last_moment l → IsBefore gap l x
    → (y : Row)
    → y ∈ (prefix ++ l ∷ []) → IsBefore gap y x
before_last gap [] l x o s b y h =
    elim h [ inl e ↦ subst (λ (z : Row). IsBefore gap z x) e b | inr k ↦ absurd k ]
before_last gap (w ∷ prefix) l x o s b y h = elim h [
  | inl e ↦ subst (λ (z : Row). IsBefore gap z x) e
      (before_trans gap w l x s (o.0 l (in_right l prefix (l ∷ []) (inl refl))) b)
  | inr k ↦ before_last gap prefix l x o.1 s b y k
]

pub push_first : (gap : ℕ) (x : Row) → IsSoundRow x → Sound gap (x ∷ [])
push_first gap x w =
    two_relations gap (x ∷ [])
    (record {
      ordered =
          (λ y h. absurd h, tt);
      each =
          λ y h. elim h [ inl e ↦ subst (λ (z : Row). IsSoundRow z) e w | inr k ↦ absurd k ];
    })

pub push_sound : (gap : ℕ) (prefix : List Row) (l x : Row) → Sound gap (prefix ++ l ∷ [])
    → IsBelow row_cmp l x → IsFar gap l x → IsSoundRow x → Sound gap ((prefix ++ l ∷ []) ++ x ∷ [])
push_sound gap prefix l x s b f w =
    let i = one_relation gap (prefix ++ l ∷ []) s in
    let span : l.first ≤ last_moment l = (s.each l (in_right l prefix (l ∷ [])
    (inl refl))).in_order in
    two_relations gap ((prefix ++ l ∷ []) ++ x ∷ []) (record {
      ordered =
          ordered_append (IsBefore gap) (prefix ++ l ∷ []) (x ∷ []) i.ordered (λ y h. absurd h, tt)
          (λ y z h k. elim k [
            | inl e ↦ subst (λ (q : Row). IsBefore gap y q) e
                (before_last gap prefix l x i.ordered span
                (before_of_sound gap l x b f) y h)
            | inr j ↦ absurd j
          ]);
      each =
          λ y h. elim
          (in_either y (prefix ++ l ∷ [])
          (x ∷ []) h) [
            | inl k ↦ s.each y k
            | inr k ↦ elim k [
              | inl e ↦ subst
                  (λ (z : Row). IsSoundRow z) e w
              | inr j ↦ absurd j
            ]
          ];
    })

-- ---- the other way round: what follows of a row after sound rows

prefix_ordered : {X : Type 0} (R : X → X → Type 0) (xs ys : List X) → Ordered R (xs ++ ys)
    → (x y : X) → x ∈ xs → y ∈ ys → R x y
prefix_ordered R [] ys o x y h k = absurd h
prefix_ordered {X} R (z ∷ xs) ys o x y (inl e) k =
    subst (λ (w : X). R w y) e (o.0 y (in_right y xs ys k))
prefix_ordered R (z ∷ xs) ys o x y (inr h) k = prefix_ordered R xs ys o.1 x y h k

-- rows are none, or have a last one
pub empty_or_last : {X : Type 0} (xs : List X)
    → (xs ≡ []) ⊎ ((prefix : List X) × (l : X) × (xs ≡ prefix ++ l ∷ []))
empty_or_last [] = inl refl
empty_or_last (x ∷ xs) = elim (empty_or_last xs) [
  | inl e ↦ inr ([], x, ap (λ ys. x ∷ ys) e)
  | inr t ↦ inr (x ∷ t.0, t.1, ap (λ ys. x ∷ ys) t.2)
]

-- the last of a list that is put after others
last_is : {X : Type 0} (o : Option X) (prefix : List X) (l : X)
    → last_or o (prefix ++ l ∷ []) ≡ Some l
last_is o [] l = refl
last_is o (x ∷ prefix) l = last_is (Some x) prefix l

-- `IfLast` by the ways to split a list before its last member
pub if_last : {X : Type 0} (xs : List X) (P : X → Type 0) → IfLast xs P → (prefix : List X) (l : X)
    → xs ≡ prefix ++ l ∷ [] → P l
if_last {X} xs P h prefix l e =
    subst (λ (o : Option X). IfSome o P) (ap (last_or None) e ∙ last_is None prefix l) h

pub last_if : {X : Type 0} (xs : List X) (P : X → Type 0)
    → ((prefix : List X) (l : X) → xs ≡ prefix ++ l ∷ [] → P l) → IfLast xs P
last_if {X} xs P h = elim (empty_or_last xs) [
  | inl e ↦ subst (λ (o : Option X). IfSome o P) (sym (ap (last_or None) e)) tt
  | inr t ↦ subst (λ (o : Option X). IfSome o P)
      (sym (ap (last_or None) t.2 ∙ last_is None t.0 t.1)) (h t.0 t.1 t.2)
]

pub next_of_sound : (gap : ℕ) (rows : List Row) (x : Row) → Sound gap (rows ++ x ∷ [])
    → IsNext gap rows x
next_of_sound gap rows x s = record {
  own = s.each x (in_right x rows (x ∷ []) (inl refl));
  after = last_if rows (FollowsFar gap x) (λ prefix l e.
      (lies (IsBelow row_cmp) s.ascending prefix l e, lies (IsFar gap) s.apart prefix l e));
} where
  lies : (R : Row → Row → Type 0) → Ordered R (rows ++ x ∷ []) → (prefix : List Row) (l : Row)
      → rows ≡ prefix ++ l ∷ [] → R l x
  lies R o prefix l e =
      prefix_ordered R rows (x ∷ []) o l x
      (subst (λ (xs : List Row). l ∈ xs) (sym e) (in_right l prefix (l ∷ []) (inl refl))) (inl refl)

pub sound_of_next : (gap : ℕ) (rows : List Row) (x : Row) → Sound gap rows → IsNext gap rows x
    → Sound gap (rows ++ x ∷ [])
sound_of_next gap rows x s n = elim (empty_or_last rows) [
  | inl e ↦ subst (λ (xs : List Row). Sound gap (xs ++ x ∷ [])) (sym e) (push_first gap x n.own)
  | inr t ↦ let a = if_last rows (FollowsFar gap x) n.after t.0 t.1 t.2 in
      subst (λ (xs : List Row). Sound gap (xs ++ x ∷ [])) (sym t.2)
      (push_sound gap t.0 t.1 x (subst (λ (xs : List Row). Sound gap xs) t.2 s) a.0 a.1 n.own)
]

pub push_exactly : (gap : ℕ) (rows : List Row) (x : Row) → Sound gap rows
    → Sound gap (rows ++ x ∷ []) ↔ IsNext gap rows x
push_exactly gap rows x s = (next_of_sound gap rows x, sound_of_next gap rows x s)

-- a prefix of sound rows is sound
pub sound_prefix : (gap : ℕ) (rows more : List Row) → Sound gap (rows ++ more) → Sound gap rows
sound_prefix gap rows more s = record {
  ascending = kept (IsBelow row_cmp) rows s.ascending;
  apart = kept (IsFar gap) rows s.apart;
  each = λ x h. s.each x (in_left x rows more h);
} where
  kept : (R : Row → Row → Type 0) (xs : List Row) → Ordered R (xs ++ more) → Ordered R xs
  kept R [] o = tt
  kept R (x ∷ xs) o = (λ y h. o.0 y (in_left y xs more h), kept R xs o.1)
