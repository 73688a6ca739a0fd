-- Rows packed in bytes, one after another.
use Rattle.aprs_rows.proofs.Common.{◌≡◌, ◌∙◌, ℕ, suc, ◌+◌, ◌-◌, ◌<◌, ◌≤◌, List, [], ◌∷◌, ◌++◌, inl, inr, None, Some, length, take, drop, sym, ap, subst, arith, take-append_seam, drop-append_seam, length-append, length-drop, length-take, take_all, drop_all, refl, drop-drop, last_or, slice_get, join_with_byte, join_with_byte-slice_split, field_len, Row, IsSoundRow, AllByRecursion}
use Rattle.std.proofs.lemmas.List.Sums.{sum_by_push, sum_by-cons}
use Rattle.aprs_transmissions.specs.Sound.{AreSoundRows}
use Rattle.aprs_rows.specs.Names.{row_of_text}
use Rattle.aprs_rows.specs.Packed.{AreMarks, AreShort, IsMarked, IsShort, Notes, mark_row, mark_size, row_bytes, row_room, room_of, rows_of_marks}
use Rattle.aprs_rows.specs.Told.{HasNamesAndFrame}
use Rattle.aprs_rows.specs.declared.store.mark.Mark.{Mark}
use Rattle.aprs_rows.proofs.NameTexts.{some_letters}
use Rattle.aprs_rows.proofs.Places.{as_many, drop_front, take_front}

-- ---- one row

-- the row of bytes whose parts have the lengths that the mark says
mark_row_of : (m : Mark) (a b c : List ℕ) → m.receivers ≡ length a → m.receiver ≡ length b
    → mark_row m (a ++ (b ++ c)) ≡ row_of_text m.first m.last a b c
mark_row_of m a b c k n =
    let first : take m.receivers (a ++ (b ++ c)) ≡ a =
    ap (λ k. take k (a ++ (b ++ c))) k ∙ take-append_seam a (b ++ c) in
    let rest : drop m.receivers (a ++ (b ++ c)) ≡ b ++ c =
    ap (λ k. drop k (a ++ (b ++ c))) k ∙ drop-append_seam a (b ++ c) in
    let second : take m.receiver (drop m.receivers (a ++ (b ++ c))) ≡ b =
    ap (take m.receiver) rest ∙ ap (λ k. take k (b ++ c)) n ∙ take-append_seam b c in
    let third : drop m.receiver (drop m.receivers (a ++ (b ++ c))) ≡ c =
    ap (drop m.receiver) rest ∙ ap (λ k. drop k (b ++ c)) n ∙ drop-append_seam b c in
    λ t. row_of_text m.first m.last (first t) (second t) (third t)

pub notes : (m : Mark) (x : Row) (a b c : List ℕ) → row_of_text m.first m.last a b c ≡ x
    → m.receivers ≡ length a → m.receiver ≡ length b → m.frame ≡ length c
    → m.receivers < 4294967296 → m.info_at ≡ field_len c + 2 → IsSoundRow x → HasNamesAndFrame (row_of_text m.first m.last a b c) → Notes m x
notes m x a b c v k n f short i s h =
    let text : row_bytes x ≡ a ++ (b ++ c) =
    ap row_bytes (sym v) ∙ ap (λ t. t ++ (b ++ c)) (join_with_byte-slice_split 44 a) in
    let is = mark_row_of m a b c k n in
    let frame = ap (λ (y : Row). y.greatest.frame) (sym is) in
    record {
      fits = subst (λ bytes. IsMarked m bytes) (sym text) (record {
        size = omega (arith, k, n, f, length-append a (b ++ c), length-append b c);
        short = short;
        sound = subst IsSoundRow (sym (is ∙ v)) s;
        told = subst HasNamesAndFrame (sym is) h;
        info = subst (λ fs. m.info_at ≡ field_len fs + 2) frame i;
      });
      is = ap (mark_row m) text ∙ is ∙ v;
    }

-- ---- one more row

within : (m : Mark) (ms : List Mark) (bytes : List ℕ) → AreMarks (m ∷ ms) bytes
    → mark_size m ≤ length bytes
within m ms bytes a = as_many (mark_size m) bytes a.0.size

rows_more : (ms : List Mark) (bytes : List ℕ) (m : Mark) (more : List ℕ) → AreMarks ms bytes
    → IsMarked m more
    → rows_of_marks (ms ++ m ∷ []) (bytes ++ more) ≡ rows_of_marks ms bytes ++ mark_row m more ∷ []
rows_more [] bytes m more a f =
    ap (λ bs. mark_row m (take (mark_size m) (bs ++ more)) ∷ []) a
    ∙ ap (λ bs. mark_row m bs ∷ []) (take_all (mark_size m) more (omega (arith, f.size)))
rows_more (d ∷ ms) bytes m more a f =
    let l = within d ms bytes a in
    (λ t. mark_row d (take_front (mark_size d) bytes more l t)
    ∷ rows_of_marks (ms ++ m ∷ []) (drop_front (mark_size d) bytes more l t))
    ∙ ap (λ rows. mark_row d (take (mark_size d) bytes) ∷ rows)
    (rows_more ms (drop (mark_size d) bytes) m more a.1 f)

are_more : (ms : List Mark) (bytes : List ℕ) (m : Mark) (more : List ℕ) → AreMarks ms bytes
    → IsMarked m more → AreMarks (ms ++ m ∷ []) (bytes ++ more)
are_more [] bytes m more a f =
    let all : take (mark_size m) (bytes ++ more) ≡ more =
    ap (λ bs. take (mark_size m) (bs ++ more)) a
    ∙ take_all (mark_size m) more (omega (arith, f.size)) in
    let none : drop (mark_size m) (bytes ++ more) ≡ [] =
    ap (λ bs. drop (mark_size m) (bs ++ more)) a
    ∙ drop_all (mark_size m) more (omega (arith, f.size)) in
    (subst (IsMarked m) (sym all) f, none)
are_more (d ∷ ms) bytes m more a f =
    let l = within d ms bytes a in (
      subst (IsMarked d) (sym (take_front (mark_size d) bytes more l)) a.0,
      subst (AreMarks (ms ++ m ∷ [])) (sym (drop_front (mark_size d) bytes more l))
          (are_more ms (drop (mark_size d) bytes) m more a.1 f),
    )

-- One more row lies after the others.
pub record LiesAfter (ms more : List Mark) (bytes longer : List ℕ) (x : Row) : Type 0 where
  pub lies : AreMarks more longer
  pub is : rows_of_marks more longer ≡ rows_of_marks ms bytes ++ x ∷ []
  pub room : room_of (rows_of_marks more longer) ≡ room_of (rows_of_marks ms bytes) + row_room x

pub lies_after : (ms more : List Mark) (bytes longer : List ℕ) (m : Mark) (x : Row)
    → AreMarks ms bytes → Notes m x → more ≡ ms ++ m ∷ [] → longer ≡ bytes ++ row_bytes x
    → LiesAfter ms more bytes longer x
lies_after ms more bytes longer m x a t e l =
    let is : rows_of_marks more longer ≡ rows_of_marks ms bytes ++ x ∷ [] =
    (λ i. rows_of_marks (e i) (l i))
    ∙ rows_more ms bytes m (row_bytes x) a t.fits
    ∙ ap (λ y. rows_of_marks ms bytes ++ y ∷ []) t.is in
    record {
      lies = subst (λ (z : List Mark × List ℕ). AreMarks z.0 z.1) (λ i. (sym e i, sym l i))
          (are_more ms bytes m (row_bytes x) a t.fits);
      is = is;
      room = ap room_of is ∙ sum_by_push row_room (rows_of_marks ms bytes) x;
    }

-- ---- each is sound, told and short

pub marks_sound : (ms : List Mark) (bytes : List ℕ) → AreMarks ms bytes
    → AreSoundRows (rows_of_marks ms bytes)
marks_sound [] bytes a x h = absurd h
marks_sound (m ∷ ms) bytes a x (inl e) = subst (λ (y : Row). IsSoundRow y) e a.0.sound
marks_sound (m ∷ ms) bytes a x (inr h) = marks_sound ms (drop (mark_size m) bytes) a.1 x h

pub marks_told : (ms : List Mark) (bytes : List ℕ) → AreMarks ms bytes
    → AllByRecursion HasNamesAndFrame (rows_of_marks ms bytes)
marks_told [] bytes a = tt
marks_told (m ∷ ms) bytes a = (a.0.told, marks_told ms (drop (mark_size m) bytes) a.1)

own_text : (m : Mark) (bytes : List ℕ)
    → length (join_with_byte 44 (mark_row m bytes).receivers) ≡ length (take m.receivers bytes)
own_text m bytes = ap length (join_with_byte-slice_split 44 (take m.receivers bytes))

pub marks_short : (ms : List Mark) (bytes : List ℕ) → AreMarks ms bytes
    → AreShort (rows_of_marks ms bytes)
marks_short [] bytes a x h = absurd h
marks_short (m ∷ ms) bytes a x (inl e) =
    let own = take (mark_size m) bytes in
    let text = own_text m own in
    let n = length-take m.receivers own in
    subst (λ (y : Row). IsShort y) e (omega (arith, text, n, a.0.short))
marks_short (m ∷ ms) bytes a x (inr h) = marks_short ms (drop (mark_size m) bytes) a.1 x h

-- ---- how many they are

pub marks_len : (ms : List Mark) (bytes : List ℕ) (rows : List Row)
    → rows_of_marks ms bytes ≡ rows → length ms ≡ length rows
marks_len ms bytes rows e = sym (as_long ms bytes) ∙ ap length e where
  as_long : (ms : List Mark) (bytes : List ℕ) → length (rows_of_marks ms bytes) ≡ length ms
  as_long [] bytes = refl
  as_long (m ∷ ms) bytes = ap (λ n. suc n) (as_long ms (drop (mark_size m) bytes))

-- their names have no more bytes than the rows, each of which has a receiver's name besides
pub room_fits : (ms : List Mark) (bytes : List ℕ) → AreMarks ms bytes
    → room_of (rows_of_marks ms bytes) ≤ length bytes
room_fits [] bytes a = omega arith
room_fits (m ∷ ms) bytes a =
    let own = take (mark_size m) bytes in
    let rest = drop (mark_size m) bytes in
    omega (
      arith,
      own_text m own,
      length-take m.receivers own,
      length-take m.receiver (drop m.receivers own),
      some_letters (take m.receiver (drop m.receivers own)) a.0.told.name_is,
      a.0.size,
      length-take (mark_size m) bytes,
      length-drop (mark_size m) bytes,
      room_fits ms rest a.1,
      sum_by-cons row_room (mark_row m own) (rows_of_marks ms rest),
    )

-- ---- the last of them

-- What is known of the last mark: its row's bytes are the last ones.
pub record IsLastMark (m : Mark) (bytes : List ℕ) (rows : List Row) : Type 0 where
  pub within : mark_size m ≤ length bytes
  pub fits : IsMarked m (drop (length bytes - mark_size m) bytes)
  pub last : last_or None rows ≡ Some (mark_row m (drop (length bytes - mark_size m) bytes))

pub last_mark : (ms : List Mark) (bytes : List ℕ) (m : Mark)
    → Some m ≡ slice_get ms (length ms - 1) → AreMarks ms bytes
    → IsLastMark m bytes (rows_of_marks ms bytes)
last_mark [] bytes m is a = absurd (cc)
last_mark (d ∷ []) bytes m is a =
    let same : d ≡ m = cc in
    let size = a.0.size in
    let l = length-take (mark_size d) bytes in
    let n = length-drop (mark_size d) bytes in
    let none = ap length a.1 in
    let own : take (mark_size d) bytes ≡ drop (length bytes - mark_size d) bytes =
    take_all (mark_size d) bytes (omega (arith, n, none))
    ∙ ap (λ k. drop k bytes) (zero_is (length bytes - mark_size d) (omega (arith, n, none))) in
    subst (λ (x : Mark). IsLastMark x bytes (rows_of_marks (d ∷ []) bytes)) same (record {
      within = omega (arith, size, l);
      fits = subst (IsMarked d) own a.0;
      last = ap (λ bs. Some (mark_row d bs)) own;
    }) where
      zero_is : (k : ℕ) → k ≡ 0 → 0 ≡ k
      zero_is k e = sym e
last_mark (d ∷ f ∷ ms) bytes m is a =
    let rest = drop (mark_size d) bytes in
    let ends = last_mark (f ∷ ms) rest m
    (is ∙ ap (slice_get (d ∷ f ∷ ms)) (less_more d f ms)) a.1 in
    let within = within d (f ∷ ms) bytes a in
    let n = length-drop (mark_size d) bytes in
    let place : mark_size d + (length rest - mark_size m) ≡ length bytes - mark_size m =
    omega (arith, within, n, ends.within) in
    let own : drop (length rest - mark_size m) rest ≡ drop (length bytes - mark_size m) bytes =
    drop-drop (length rest - mark_size m) (mark_size d) bytes ∙ ap (λ k. drop k bytes) place in
    record {
      within = omega (arith, n, ends.within);
      fits = subst (IsMarked m) own ends.fits;
      last = ends.last ∙ ap (λ bs. Some (mark_row m bs)) own;
    } where
      less_more : {X : Type 0} (x y : X) (ys : List X)
          → length (x ∷ y ∷ ys) - 1 ≡ suc (length (y ∷ ys) - 1)
      less_more x y ys = omega arith
