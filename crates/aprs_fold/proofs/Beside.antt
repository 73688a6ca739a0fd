-- The old book is folded with others: its last row that was taken says whether a row is new.
use Rattle.aprs_transmissions.proofs.Common.{◌≡◌, ◌∙◌, ◌⊎◌, not, ℕ, ◌<◌, List, [], ◌∷◌, ◌++◌, ◌↔◌, Bool, true, false, inl, inr, refl, sym, subst, arith}
use Rattle.std.specs.Prelude.{cond}
use Rattle.std.proofs.Common.{ap₂}
use Rattle.aprs_transmissions.specs.Book.{BookOf}
use Rattle.aprs_transmissions.specs.Lists.{◌∈◌, Ordered}
use Rattle.aprs_transmissions.specs.Order.{IsBelow}
use Rattle.aprs_transmissions.specs.Row.{Row, IsOf, row_cmp}
use Rattle.aprs_transmissions.specs.Sound.{AreSoundRows, IsFar, Sound}
use Rattle.aprs_transmissions.specs.Witnesses.{witness_by, witnesses}
use Rattle.aprs_transmissions.proofs.Books.{row_total}
use Rattle.aprs_transmissions.proofs.Lists.{in_either, in_left, in_right}
use Rattle.aprs_transmissions.proofs.Made.{away_after}
use Rattle.aprs_transmissions.proofs.Orders.{not_both}
use Rattle.aprs_transmissions.proofs.Rows.{IsBefore, before_trans}
use Rattle.aprs_transmissions.proofs.Soundness.{before_of_sound, has_witness_by, sound}
use Rattle.aprs_transmissions.proofs.Streams.{in_witnesses}
use Rattle.aprs_transmissions.proofs.Together.{together}
use Rattle.aprs_transmissions.proofs.Views.{a_row}
use Rattle.aprs_fold.specs.Folded.{IsFolded}
use Rattle.aprs_fold.specs.Folding.{IsFolding}
use Rattle.aprs_fold.specs.NewRows.{LastDecides, is_among, last_of, new_rows}
use Rattle.aprs_fold.proofs.NewRows.{among_in, in_among}
use Rattle.aprs_fold.proofs.Steps.{ends_as_book}

-- ---- the last row

pub last_in : (xs : List Row) (y : Row) → y ∈ last_of xs → y ∈ xs
last_in [] y h = absurd h
last_in (x ∷ []) y h = h
last_in (x ∷ z ∷ xs) y h = inr (last_in (z ∷ xs) y h)

pub last_more : (xs : List Row) (x : Row) → last_of (xs ++ x ∷ []) ≡ x ∷ []
last_more [] x = refl
last_more (y ∷ []) x = refl
last_more (y ∷ z ∷ xs) x = last_more (z ∷ xs) x

-- another row of a book comes after a row that isn't the last
last_or_before : (gap : ℕ) (xs : List Row) (x : Row) → Ordered (IsBelow row_cmp) xs
    → Ordered (IsFar gap) xs → x ∈ xs → (x ∈ last_of xs) ⊎ ((y : Row) × (y ∈ xs) × IsBefore gap x y)
last_or_before gap [] x o f h = absurd h
last_or_before gap (z ∷ []) x o f h = inl h
last_or_before gap (z ∷ w ∷ xs) x o f (inl e) = inr (
  w,
  inr (inl refl),
  subst (λ (r : Row). IsBefore gap r w) e
      (before_of_sound gap z w (o.0 w (inl refl)) (f.0 w (inl refl))),
)
last_or_before gap (z ∷ w ∷ xs) x o f (inr h) = elim (last_or_before gap (w ∷ xs) x o.1 f.1 h) [
  | inl k ↦ inl k
  | inr t ↦ inr (t.0, inr t.1, t.2)
]

front_ordered : (Q : Row → Row → Type 0) (xs ys : List Row) → Ordered Q (xs ++ ys) → Ordered Q xs
front_ordered Q [] ys h = tt
front_ordered Q (x ∷ xs) ys h =
    ((λ y k. h.0 y (in_left y xs ys k)), front_ordered Q xs ys h.1)

between : (Q : Row → Row → Type 0) (xs ys : List Row) (x y : Row) → Ordered Q (xs ++ ys)
    → x ∈ xs → y ∈ ys → Q x y
between Q [] ys x y o h k = absurd h
between Q (z ∷ xs) ys x y o (inl e) k =
    subst (λ (w : Row). Q w y) e (o.0 y (in_right y xs ys k))
between Q (z ∷ xs) ys x y o (inr h) k = between Q xs ys x y o.1 h k

lone : (xs : List Row) (l x z : Row) → xs ≡ l ∷ [] → x ∈ xs → z ∈ xs → z ≡ x
lone xs l x z e h k = sym (one z k) ∙ one x h where
  one : (y : Row) → y ∈ xs → l ≡ y
  one y j = elim (subst (λ (w : List Row). y ∈ w) e j) [
    | inl same ↦ same
    | inr never ↦ absurd never
  ]

one_open : (gap : ℕ) (taken written last : List Row) → IsFolded gap taken written last
    → (x z : Row) → x ∈ last → z ∈ last → z ≡ x
one_open gap [] written last f x z h k = absurd (subst (λ (w : List Row). x ∈ w) f.1 h)
one_open gap (l ∷ xs) written last f x z h k = lone last _ x z f.1 h k

-- ---- rows that were taken

module _ (gap : ℕ) (pos : 0 < gap) (read front written last : List Row)
    (f : IsFolding gap read front written last) where
  each_read : AreSoundRows read
  each_read x k = f.each x ((f.members x).0 k)

  of_read : BookOf gap (witnesses read) (written ++ last)
  of_read = subst (λ (w : List Row). BookOf gap (witnesses read) w)
      (sym (ends_as_book gap pos read front written last f)) (together gap read pos each_read)

  sound_read : Sound gap (written ++ last)
  sound_read = sound gap (witnesses read) (written ++ last) of_read

  up_to_open : (x z : Row) → x ∈ last → z ∈ (written ++ last) → (z ≡ x) ⊎ IsBefore gap z x
  up_to_open x z h k = elim (in_either z written last k) [
    | inl j ↦ inr (before_of_sound gap z x
        (between (IsBelow row_cmp) written last z x sound_read.ascending j h)
        (between (IsFar gap) written last z x sound_read.apart j h))
    | inr j ↦ inl (one_open gap f.taken written last f.folded x z h j)
  ]

  -- a row that was taken doesn't come far after the open one
  none_beyond : (x y : Row) → x ∈ last → y ∈ read → IsBefore gap x y → ⊥
  none_beyond x y h k b =
      let own = each_read y k in
      let s = witness_by y y.greatest.receiver in
      let heard = (in_witnesses read s).1 (
        y,
        k,
        has_witness_by gap y own pos y.greatest.receiver own.receiver,
      ) in
      let at = a_row gap (witnesses read) (written ++ last) of_read s heard in
      let is_own : IsOf y s = record {
        key = refl;
        from = omega arith;
        to = own.in_order;
      } in
      let before : IsBefore gap at.0 y = elim (up_to_open x at.0 h at.1) [
        | inl same ↦ subst (λ (z : Row). IsBefore gap z y) (sym same) b
        | inr earlier ↦ before_trans gap at.0 x y
            (sound_read.each x (in_right x written last h)).in_order earlier b
      ] in
      elim (away_after gap at.0 y s before is_own at.2.key) [
        | inl less ↦ absurd (omega (arith, less, at.2.from))
        | inr more ↦ absurd (omega (arith, more, at.2.to))
      ]

pub last_decides : (gap : ℕ) → 0 < gap → LastDecides gap
last_decides gap pos read front written last old rest x f within sound h ahead = (
  λ k. elim (in_either x old rest k) [
    | inl j ↦ elim (last_or_before gap old x
        (front_ordered (IsBelow row_cmp) old rest sound.ascending)
        (front_ordered (IsFar gap) old rest sound.apart) j) [
          | inl i ↦ i
          | inr t ↦ absurd (none_beyond gap pos read front written last f x t.0 h (within t.0 t.1) t.2)
        ]
    | inr j ↦ absurd (not_both row_total x x (ahead x j) (ahead x j))
  ],
  λ k. in_left x old rest (last_in old x k),
)

-- ---- new rows

same_bools : (a b : Bool) → (a ≡ true → b ≡ true) → (b ≡ true → a ≡ true) → a ≡ b
same_bools true b f g = sym (f refl)
same_bools false true f g = absurd (let e = g refl in cc)
same_bools false false f g = refl

among_same : (p q : List Row) (x : Row) → (x ∈ p) ↔ (x ∈ q) → is_among p x ≡ is_among q x
among_same p q x e = same_bools (is_among p x) (is_among q x)
    (λ h. in_among q x (e.0 (among_in p x h))) (λ h. in_among p x (e.1 (among_in q x h)))

-- what is new to two lists that have the same of these rows
pub new_same : (p q rows : List Row) → ((x : Row) → x ∈ rows → (x ∈ p) ↔ (x ∈ q))
    → new_rows p rows ≡ new_rows q rows
new_same p q [] e = refl
new_same p q (x ∷ rows) e = ap₂ (λ b l. cond (not b) (x ∷ l) l)
    (among_same p q x (e x (inl refl))) (new_same p q rows (λ y h. e y (inr h)))
