-- The row in front of a stream, and whether a row is new.
use Rattle.aprs_fold.proofs.Common.{◌≡◌, ◌∙◌, ℕ, Bool, true, false, cond, List, [], ◌∷◌, ◌++◌, append-nil, Option, None, Some, inl, inr, refl, sym, ap, subst, upto, last_or, in_right, Counted, Row, row_cmp, row_total, IsBelow, IsUpTo, Ordered, Sound, millis_of, ◌∈◌}
use Rattle.std.specs.Ordering.{is_gt, ordering_reverse}
use Rattle.std.specs.declared.cmp.Ordering.{Ordering}
use Rattle.std.specs.declared.cmp.Ordering.TheVariants.{Less, Equal, Greater}
use Rattle.std.specs.Prelude.{not}
use Rattle.aprs_bookfile.specs.Reader.{gap_in, is_done, HoldsIn}
use Rattle.aprs_bookfile.specs.RowReader.{list_of_row, row_at_stage}
use Rattle.aprs_bookfile.specs.RowStream.{front_of, is_ended}
use Rattle.aprs_bookfile.specs.declared.stage.Stage.{Stage}
use Rattle.aprs_bookfile.specs.declared.stage.Stage.TheVariants.{Header, Rows, Done}
use Rattle.aprs_bookfile.specs.declared.row_stream.RowStream.{RowStream}
use Rattle.aprs_bookfile.proofs.BookRows.{rows_sound}
use Rattle.aprs_fold.specs.NewRows.{is_among, new_rows}
use Rattle.aprs_fold.proofs.NewRows.{among_in, in_among}
use Rattle.aprs_fold.specs.Streams.{IsReading}

-- ---- the row in front

front_is : (stage : Stage) (rows : List Row) (x : Row)
    → last_or None (row_at_stage stage rows) ≡ Some x
    → (row_at_stage stage rows ≡ x ∷ []) × (is_done stage ≡ false)
front_is Header rows x e = absurd (cc)
front_is (Rows v) rows x e = by (last_or None rows) e where
  by : (o : Option Row) → last_or None (list_of_row o) ≡ Some x
      → (list_of_row o ≡ x ∷ []) × (is_done (Rows v) ≡ false)
  by None e = absurd (cc)
  by (Some y) e = (let same : y ∷ [] ≡ x ∷ [] = cc in same, refl)
front_is (Done v) rows x e = absurd (cc)

pub front_some : {A : Type 0} (s : RowStream A) (x : Row) → last_or None (front_of s) ≡ Some x
    → (front_of s ≡ x ∷ []) × (is_ended s ≡ false)
front_some s x e = front_is s.reader.stage s.reader.rows x e

pub lone_member : (x y : Row) (xs : List Row) → xs ≡ x ∷ [] → y ∈ xs → x ≡ y
lone_member x y xs e h = elim (subst (λ (l : List Row). y ∈ l) e h) [
  | inl same ↦ same
  | inr never ↦ absurd never
]

-- ---- orders

-- x isn't before itself, nor before one that it doesn't come before
not_below : (x y : Row) → IsUpTo row_cmp x y → IsBelow row_cmp y x → ⊥
not_below x y u b = by (row_cmp x y) (row_total.antisymm y x) u b where
  by : (o : Ordering) → row_cmp y x ≡ ordering_reverse o → is_gt o ≡ false
      → row_cmp y x ≡ Less → ⊥
  by Less e u b = absurd (cc)
  by Equal e u b = absurd (cc)
  by Greater e u b = absurd (cc)

-- what comes before a row comes before those after it
pub below_upto : (x y z : Row) → IsBelow row_cmp x y → IsUpTo row_cmp y z → IsBelow row_cmp x z
below_upto x y z b u = by (row_cmp x z) refl where
  turned : (o : Ordering) → row_cmp x z ≡ o → is_gt (ordering_reverse o) ≡ false → IsUpTo row_cmp z x
  turned o e h = ap is_gt (row_total.antisymm z x ∙ ap ordering_reverse e) ∙ h

  by : (o : Ordering) → row_cmp x z ≡ o → IsBelow row_cmp x z
  by Less e = e
  by Equal e = absurd (not_below y x (upto row_total y z x u (turned Equal e refl)) b)
  by Greater e = absurd (not_below y x (upto row_total y z x u (turned Greater e refl)) b)

pub across : {X : Type 0} (Q : X → X → Type 0) (xs ys : List X) (x y : X) → Ordered Q (xs ++ ys)
    → x ∈ xs → y ∈ ys → Q x y
across Q [] ys x y o h k = absurd h
across Q (z ∷ xs) ys x y o (inl e) k =
    subst (λ (w : _). Q w y) e (o.0 y (in_right y xs ys k))
across Q (z ∷ xs) ys x y o (inr h) k = across Q xs ys x y o.1 h k

-- ---- one stream

sound_rows : (stage : Stage) (rows : List Row) (line : List ℕ) (x : Row) (before : List Row)
    → rows ≡ before ++ x ∷ [] → HoldsIn stage rows line → Sound (millis_of (gap_in stage)) rows
sound_rows Header rows line x [] e h = absurd (let f = sym h ∙ e in cc)
sound_rows Header rows line x (y ∷ before) e h = absurd (let f = sym h ∙ e in cc)
sound_rows (Rows v) rows line x before e h = rows_sound v rows h
sound_rows (Done v) rows line x before e h = rows_sound v rows h.0

-- the rows that were taken of a stream are a book's with the one in front
pub sound_front : {R A : Type 0} (remaining : R → Option (List ℕ)) (limit gap : ℕ)
    (f n : Counted R) (s : RowStream A) (t : List Row) → Sound (millis_of gap) t
    → IsReading remaining limit gap f n s t → Sound (millis_of gap) (t ++ front_of s)
sound_front remaining limit gap f n s t known h = elim h.gets [
  | inl one ↦ subst (λ (l : List Row). Sound (millis_of gap) (t ++ l)) (sym one.1)
      (subst (λ (g : ℕ). Sound (millis_of g) (t ++ one.0 ∷ [])) h.gap_is
      (sound_rows s.reader.stage (t ++ one.0 ∷ []) one.3.got.stands.2.line one.0 t refl
      one.3.got.stands.2.lines.holds))
  | inr none ↦ subst (λ (l : List Row). Sound (millis_of gap) (t ++ l)) (sym none.0)
      (subst (Sound (millis_of gap)) (sym (append-nil t)) known)
]

-- ---- whether a row is new

pub new_one : (old : List Row) (x : Row) → (x ∈ old → ⊥) → new_rows old (x ∷ []) ≡ x ∷ []
new_one old x not_in = by (is_among old x) refl where
  by : (b : Bool) → is_among old x ≡ b → new_rows old (x ∷ []) ≡ x ∷ []
  by true e = absurd (not_in (among_in old x e))
  by false e = ap (λ b. cond (not b) (x ∷ []) []) e

pub new_none : (old : List Row) (x : Row) → x ∈ old → new_rows old (x ∷ []) ≡ []
new_none old x h = ap (λ b. cond (not b) (x ∷ []) []) (in_among old x h)
