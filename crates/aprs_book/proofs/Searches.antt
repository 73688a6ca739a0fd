-- The place of a reception among the rows of its prefix, found by halves.
use Rattle.aprs_book.proofs.Common.{◌≡◌, ◌∙◌, ℕ, zero, suc, ◌+◌, ◌<◌, ◌≤◌, Bool, true, false, List, [], ◌∷◌, ◌++◌, Some, length, take, drop, get_or, refl, sym, ap, subst, inl, inr, arith, drop_all, IsPartitionedBy, IsPartitionPoint, lookup, is_lt, is_gt, MatchOrdering, Ordering, Less, Equal, Greater, Received, ◌∈◌, Ordered, IsBelow, Row, last_moment, row_cmp, single, IsNear, compare_near_to, grow_row, insert_heard, has_place_for, IsFar, Sound, in_right, IsBefore, before_trans, place_means, IsSound, one_relation, sound_prefix, by_order, head_cmp, KeyPrefix}
use Rattle.std.proofs.lemmas.List.Sorted.{IsPartitionPoint-from_clause}
use Rattle.std.specs.Fn.{Called, ComputesKey}
use denote.Ref.{Bor}
use denote.Param.Members.{Mut}
use Rattle.aprs_transmissions.proofs.Parts.{place_before}
use Rattle.aprs_book.proofs.Slots.{here, two_at, one_at, alone_end, alone_next}
use Rattle.aprs_book.proofs.Entries.{test}
use Rattle.aprs_book.specs.Slots.{IsNewAt, GrowsAt, BridgesAt}
use Rattle.aprs_book.specs.Keyed.{rows_by_key}

in_get : {X : Type 0} (xs : List X) (i : ℕ) (d : X) → i < length xs → get_or xs i d ∈ xs
in_get [] i d h = absurd (omega (arith, h))
in_get (x ∷ xs) zero d h = inl refl
in_get (x ∷ xs) (suc i) d h = inr (in_get xs i d (omega (arith, h)))

-- ---- sound rows lie one after another

sound_back : (gap : ℕ) (rows more : List Row) → Sound gap (rows ++ more) → Sound gap more
sound_back gap rows more s = record {
  ascending = back (IsBelow row_cmp) rows s.ascending;
  apart = back (IsFar gap) rows s.apart;
  each = λ x h. s.each x (in_right x rows more h);
} where
  back : (R : Row → Row → Type 0) (xs : List Row) → Ordered R (xs ++ more) → Ordered R more
  back R [] o = o
  back R (x ∷ xs) o = back R xs o.1

pub none_sound : (gap : ℕ) (rows : List Row) → rows ≡ [] → Sound gap rows
none_sound gap rows e =
    subst (Sound gap) (sym e) (record { ascending = tt; apart = tt; each = λ x h. absurd h })

less_is : (o : Ordering) → is_lt o ≡ true → o ≡ Less
less_is Less e = refl
less_is Equal e = absurd (cc)
less_is Greater e = absurd (cc)

greater_is : (o : Ordering) → is_gt o ≡ true → o ≡ Greater
greater_is Less e = absurd (cc)
greater_is Equal e = absurd (cc)
greater_is Greater e = refl

neither_is : (o : Ordering) → is_lt o ≡ false → is_gt o ≡ false → o ≡ Equal
neither_is Less e f = absurd (cc)
neither_is Equal e f = refl
neither_is Greater e f = absurd (cc)

module _ (gap : ℕ) (x : Received) where
  -- a row that lies before x
  abbrev pub is_before : Row → Bool
  is_before r = is_lt (compare_near_to gap r x)

  -- and one that lies after x
  abbrev pub is_after : Row → Bool
  is_after r = is_gt (compare_near_to gap r x)

  lies_before : (r : Row) → compare_near_to gap r x ≡ Less → IsBefore gap r (single x)
  lies_before r e =
      subst (λ (o : Ordering). MatchOrdering o (IsBefore gap r (single x)) (IsNear gap r (single x))
      (IsBefore gap (single x) r)) e (place_means gap r (single x))

  -- what lies before a row that lies before x lies before x
  passes : (q r : Row) → r.first ≤ last_moment r → IsBefore gap q r → is_before r ≡ true
      → is_before q ≡ true
  passes q r l b e =
      ap is_lt (place_before gap q (single x) (before_trans gap q r (single x) l b
      (lies_before r (less_is (compare_near_to gap r x) e))))

  parted : (rows : List Row) → IsSound gap rows → IsPartitionedBy is_before rows
  parted [] s i j d l w e = absurd (omega (arith, w))
  parted (r ∷ rows) s zero zero d l w e = e
  parted (r ∷ rows) s zero (suc j) d l w e =
      let y = get_or rows j d in
      let member = in_get rows j d (omega (arith, w)) in
      passes r y (s.each y (inr member)).in_order (s.ordered.0 y member) e
  parted (r ∷ rows) s (suc i) zero d l w e = absurd (omega (arith, l))
  parted (r ∷ rows) s (suc i) (suc j) d l w e =
      parted rows (record { ordered = s.ordered.1; each = λ y h. s.each y (inr h) }) i j d
      (omega (arith, l)) (omega (arith, w)) e

  -- of the rows those up to i lie before x, and no other does
  pub record IsFound (rows : List Row) (i : ℕ) : Type 0 where
    pub within : i ≤ length rows
    pub point : IsPartitionPoint (λ r. is_before r ≡ true) (λ r. is_before r ≡ false) rows i

  -- from the clause `partitioned` of `partition_point`
  pub found_here : {F : Type 0} {g : Mut F (Bor Row × Unit {0}) Bool} {f : F} (rows : List Row)
      (i : ℕ) → Sound gap rows → i ≤ length rows
      → ((q : Row → Bool) → ComputesKey g q f → IsPartitionedBy q rows
      → IsPartitionPoint (λ r. q r ≡ true) (λ r. q r ≡ false) rows i)
      → ((a : Bor Row × Unit {0}) (b : Bool) (f' : F) → Called g f a b f'
      → (b ≡ is_before a.0.now) × (f' ≡ f)) → IsFound rows i
  found_here rows i s w parts calls = record {
    within = w;
    point =
        IsPartitionPoint-from_clause is_before rows i parts
        (parted rows (one_relation gap rows s)) calls;
  }

  passed : (rows : List Row) (i : ℕ) → i ≤ length rows
      → ((k : ℕ) (d : Row) → k < i → is_before (get_or rows k d) ≡ true)
      → (insert_heard gap x rows ≡ take i rows ++ insert_heard gap x (drop i rows))
      × (has_place_for gap x rows ≡ has_place_for gap x (drop i rows))
  passed rows zero w b = (refl, refl)
  passed [] (suc i) w b = absurd (omega (arith, w))
  passed (r ∷ rows) (suc i) w b =
      let first : is_before r ≡ true = b 0 r (omega arith) in
      let rest = passed rows i (omega (arith, w)) (λ k d l. b (suc k) d (omega (arith, l))) in
      let at = less_is (compare_near_to gap r x) first in
      (rw at (ap (λ t. r ∷ t) rest.0), rw at rest.1)

  split : (rows : List Row) (i : ℕ) → IsFound rows i
      → (insert_heard gap x rows ≡ take i rows ++ insert_heard gap x (drop i rows))
      × (has_place_for gap x rows ≡ has_place_for gap x (drop i rows))
  split rows i f = passed rows i f.within (λ k d l. f.point.0 k d (omega arith) l)

  -- a row from there on is not before x
  not_before : (rows : List Row) (i j : ℕ) (r : Row) → IsFound rows i → i ≤ j → j < length rows
      → r ≡ get_or rows j r → is_before r ≡ false
  not_before rows i j r f l w e = ap is_before e ∙ f.point.1 j r l w

  is_near : (rows : List Row) (i j : ℕ) (r : Row) → IsFound rows i → i ≤ j → j < length rows
      → r ≡ get_or rows j r → is_after r ≡ false → compare_near_to gap r x ≡ Equal
  is_near rows i j r f l w e a = neither_is (compare_near_to gap r x) (not_before rows i j r f l w e) a

  -- ---- what the code does

  pub new_at_end : (rows : List Row) (i : ℕ) → IsFound rows i → i ≡ length rows
      → IsNewAt gap x rows i
  new_at_end rows i f e =
      let s = split rows i f in
      let none : drop i rows ≡ [] = drop_all i rows (omega (arith, e)) in record {
        within = f.within;
        inserts =
            s.0 ∙ ap (λ t. take i rows ++ insert_heard gap x t) none
            ∙ ap (λ t. take i rows ++ single x ∷ t) (sym none);
        in_place = s.1 ∙ ap (λ t. has_place_for gap x t) none;
      }

  pub new_before : (rows : List Row) (i : ℕ) (r : Row) → IsFound rows i → i < length rows
      → r ≡ get_or rows i r → is_after r ≡ true → IsNewAt gap x rows i
  new_before rows i r f w e a =
      let s = split rows i f in
      let at = here rows i r w e in
      let far = greater_is (compare_near_to gap r x) a in record {
        within = f.within;
        inserts =
            s.0 ∙ ap (λ t. take i rows ++ insert_heard gap x t) at
            ∙ rw far (ap (λ t. take i rows ++ single x ∷ t) (sym at));
        in_place = s.1 ∙ ap (λ t. has_place_for gap x t) at ∙ rw far refl;
      }

  pub grows_last : (rows : List Row) (i : ℕ) (r : Row) → IsFound rows i → i + 1 ≡ length rows
      → r ≡ get_or rows i r → is_after r ≡ false
      → GrowsAt gap x rows i r (drop (suc i) rows)
  grows_last rows i r f l e a =
      let s = split rows i f in
      let within : i < length rows = omega (arith, l) in
      let alone = alone_end gap x (grow_row r x) _ (drop_all (suc i) rows (omega (arith, l))) in
      one_at gap x rows i r _ s.0 s.1 (here rows i r within e)
      (is_near rows i i r f (omega arith) within e a) alone.0 alone.1

  pub grows_before : (rows : List Row) (i : ℕ) (r n : Row) → IsFound rows i → suc i < length rows
      → r ≡ get_or rows i r → is_after r ≡ false → n ≡ get_or rows (suc i) n → is_after n ≡ true
      → GrowsAt gap x rows i r (drop (suc i) rows)
  grows_before rows i r n f w e a e' a' =
      let s = split rows i f in
      let within : i < length rows = omega (arith, w) in
      let far = greater_is (compare_near_to gap n x) a' in
      let alone =
      alone_next gap x (grow_row r x) n _ _ (here rows (suc i) n w e')
      (λ o. absurd (let no : Greater ≡ Equal = sym far ∙ o in cc)) in
      one_at gap x rows i r _ s.0 s.1 (here rows i r within e)
      (is_near rows i i r f (omega arith) within e a) alone.0 alone.1

  pub bridges : (rows : List Row) (i : ℕ) (r n : Row) → IsFound rows i → suc i < length rows
      → r ≡ get_or rows i r → is_after r ≡ false → n ≡ get_or rows (suc i) n → is_after n ≡ false
      → BridgesAt gap x rows i r n (drop (suc (suc i)) rows)
  bridges rows i r n f w e a e' a' =
      let s = split rows i f in
      let within : i < length rows = omega (arith, w) in
      two_at gap x rows i r n _ s.0 s.1
      (here rows i r within e ∙ ap (λ t. r ∷ t) (here rows (suc i) n w e'))
      (is_near rows i i r f (omega arith) within e a)
      (is_near rows i (suc i) n f (omega arith) w e' a')

-- ---- a key's rows among those of all keys

module _ {V : Type 0} (rows : V → List Row) where
  pub found_sound : (gap : ℕ) (k : KeyPrefix) (es : List (KeyPrefix × V)) (old : V)
      → Sound gap (rows_by_key rows es) → lookup (test k) es ≡ Some old
      → Sound gap (rows old)
  found_sound gap k [] old s found = absurd (cc)
  found_sound gap k (e ∷ es) old s found =
      let others = sound_back gap (rows e.1) (rows_by_key rows es) s in
      by_order (head_cmp k e.0)
      (λ o. found_sound gap k es old others (rw o at found))
      (λ o.
      let f : Some e.1 ≡ Some old = rw o at found in
      let r : e.1 ≡ old = cc in
      subst (λ (v : V). Sound gap (rows v)) r (sound_prefix gap (rows e.1)
      (rows_by_key rows es) s))
      (λ o. found_sound gap k es old others (rw o at found))
