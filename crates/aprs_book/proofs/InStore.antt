-- Rows of a book as a store takes them.
use Rattle.aprs_book.proofs.Common.{◌≡◌, ◌∙◌, inl, inr, ℕ, ◌<◌, ◌≤◌, List, [], ◌∷◌, ◌++◌, length, Result, Ok, Err, refl, sym, ap, subst, append_assoc, append-nil, arith, All, IfOk, join_with_byte, IsName, Received, ◌∈◌, millis_of, Row, IsSoundRow, Sound, merge, Joined, BookValue, IsSoundBook, HaveOneGap, AreJoined, widened_to, widened_rows, one_value, some_millis, one_book, together, witnesses, witnessed, widens_witnesses, joined_by_merge, AreSoundRows}
use Rattle.aprs_rows.specs.declared.memory.Memory.{Memory}
use Rattle.aprs_rows.specs.Names.{names_in}
use Rattle.aprs_rows.proofs.NameTexts.{names_joined}
use Rattle.aprs_book.specs.Changes.{MergesInto}
use Rattle.aprs_book.proofs.Taking.{merges_into, value}

-- ---- a row

some_of : {X : Type 0} (x : X) (xs : List X) → x ∈ xs → 0 < length xs
some_of x [] h = absurd h
some_of x (y ∷ ys) h = omega arith

module _ (x : Row) (text : List ℕ) (t : text ≡ join_with_byte 44 x.receivers)
    (n : All IsName x.receivers) (s : IsSoundRow x) where
  -- the names in the text are those of the row
  names_are : names_in text ≡ x.receivers
  names_are = ap names_in t
      ∙ names_joined x.receivers (some_of x.greatest.receiver x.receivers s.receiver) n

  pub names_have : All IsName (names_in text)
  names_have = subst (All IsName) (sym names_are) n

  pub row_is : (made : Row) (first : ℕ) (heard : Received)
      → made ≡ (record { first = first; receivers = names_in text; greatest = heard })
      → first ≡ x.first → heard ≡ x.greatest → made ≡ x
  row_is made first heard e a h =
      e ∙ (λ i. record { first = a i; receivers = names_are i; greatest = h i })

-- the text of the row is short where that of its names was
pub is_short : (x made : Row) (text : List ℕ) → text ≡ join_with_byte 44 x.receivers → made ≡ x
    → length text < 4294967296 → length (join_with_byte 44 made.receivers) < 4294967296
is_short x made text t e l =
    subst (λ (k : List ℕ). length k < 4294967296)
    (t ∙ ap (λ (y : Row). join_with_byte 44 y.receivers) (sym e)) l

-- ---- rows one after another

pub first_sound : (rows rest : List Row) (x : Row) → rows ≡ x ∷ rest → AreSoundRows rows
    → IsSoundRow x
first_sound rows rest x e s = s x (subst (λ (ys : List Row). x ∈ ys) (sym e) (inl refl))

pub rest_sound : (rows rest : List Row) (x : Row) → rows ≡ x ∷ rest → AreSoundRows rows
    → AreSoundRows rest
rest_sound rows rest x e s = λ y h. s y (subst (λ (ys : List Row). y ∈ ys) (sym e) (inr h))

pub one_put : (store new rest rows all : List Row) (x : Row) → rows ≡ x ∷ rest
    → new ≡ store ++ x ∷ [] → store ++ rows ≡ all → new ++ rest ≡ all
one_put store new rest rows all x e n w =
    ap (λ t. t ++ rest) n ∙ append_assoc store (x ∷ []) rest ∙ ap (λ t. store ++ t) (sym e) ∙ w

pub sound_walk : (b : BookValue) (rows : List Row) → rows ≡ b.rows → IsSoundBook b
    → AreSoundRows rows
sound_walk b rows e w = subst AreSoundRows (sym e) w.sound.each

-- rows that were all put
pub all_put : (put rest all : List Row) → rest ≡ [] → put ++ rest ≡ all → put ≡ all
all_put put rest all none split =
    sym (append-nil put) ∙ ap (λ rows. put ++ rows) (sym none) ∙ split

-- ---- the book in a store

-- the book with these rows, which join its own
abbrev pub joined_by : BookValue → List Row → BookValue
joined_by b rows = record { gap = b.gap; rows = merge (millis_of b.gap) b.rows rows }

-- the book of these rows under this gap
abbrev pub of_rows : ℕ → List Row → BookValue
of_rows gap rows = joined_by (value gap []) rows

-- what holds of the book in a store holds of what was made of it
pub made_has : (P : BookValue → Type 0) (r : Result BookValue Memory) {stored b : BookValue}
    → IfOk r (λ made. made ≡ stored) → stored ≡ b → P b → IfOk r P
made_has P (Ok made) e f h = subst P (sym (e ∙ f)) h
made_has P (Err m) e f h = tt

-- a sound book under a gap that is not less
module _ (b : BookValue) (w : IsSoundBook b) (gap : ℕ) (l : b.gap ≤ gap) where
  pub widened : of_rows gap b.rows ≡ widened_to gap b
  widened =
      let some = some_millis b.gap w.range in
      one_value (of_rows gap b.rows) (widened_to gap b) refl
      (one_book (millis_of gap) (witnesses b.rows) (merge (millis_of gap) [] b.rows)
      (widened_rows (millis_of gap) b.rows)
      (together (millis_of gap) b.rows (omega (arith, l, some)) w.sound.each)
      (widens_witnesses (millis_of b.gap) (millis_of gap) b.rows some (omega (arith, l)) w.sound))

-- the book of the rows of both
abbrev pub both : BookValue → BookValue → BookValue
both a b = joined_by (of_rows a.gap a.rows) b.rows

module _ (a b : BookValue) (one : HaveOneGap a b) (w : IsSoundBook a) (v : IsSoundBook b) where
  joined_rows : Joined (millis_of a.gap) a.rows b.rows (both a b).rows
  joined_rows =
      let some = some_millis a.gap w.range in
      subst (λ rows. Joined (millis_of a.gap) a.rows b.rows (merge (millis_of a.gap) rows b.rows))
      (sym (one_book (millis_of a.gap) (witnesses a.rows) (merge (millis_of a.gap) [] a.rows) a.rows
      (together (millis_of a.gap) a.rows some w.sound.each)
      (witnessed (millis_of a.gap) a.rows some w.sound)))
      (joined_by_merge (millis_of a.gap) some a.rows b.rows w.sound
      (subst (λ k. Sound (millis_of k) b.rows) (sym one) v.sound))

  pub are_joined : AreJoined a b (both a b)
  are_joined = record { left = refl; right = sym one; range = w.range; rows = joined_rows }

  pub is_merged : MergesInto (millis_of a.gap) a.rows b.rows (both a b).rows
  is_merged =
      merges_into (millis_of a.gap) (some_millis a.gap w.range) a.rows b.rows (both a b).rows joined_rows
