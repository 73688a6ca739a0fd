-- Rows of several lists in order, taken out in the order of all.
use Rattle.aprs_rows.proofs.Common.{◌≡◌, ◌∙◌, ◌<◌, ℕ, zero, suc, false, Option, None, Some, List, [], ◌∷◌, ◌++◌, inl, inr, refl, length, get_or, sym, ap, subst, arith, ◌∈◌, SameMembers, IsUpTo, Row, row_cmp, in_left, in_right, in_either, AllByRecursion, append_assoc, true, take, drop, take-append_seam}
use Rattle.std.proofs.lemmas.Cmp.{upto}
use Rattle.std.proofs.lemmas.List.{append-nil, length-set}
use Rattle.std.proofs.lemmas.List.Sums.{sum_by-append, sum_by-cons}
use Rattle.std.specs.Prelude.{◌≢◌, is_some, set, IfNone, IfSome}
use Rattle.aprs_transmissions.specs.Sound.{AreSoundRows}
use Rattle.aprs_transmissions.proofs.Books.{row_total}
use Rattle.aprs_rows.specs.Fronts.{front_at, ComesFirst, NotAfter}
use Rattle.aprs_rows.specs.Matches.{IsPlayed}
use Rattle.aprs_rows.specs.Merger.{first_in, rows_ahead, all_ahead, AreRuns, HaveRows, IsRun, IsTakenOut, TakesAt}
use Rattle.aprs_rows.specs.Packed.{row_room, room_of}
use Rattle.aprs_rows.specs.Told.{HasNamesAndFrame}

-- ---- one list's first row is taken out

-- What the rows are after x, the first of one list.
record IsLess (x : Row) (old new : List Row) : Type 0 where
  pub members : SameMembers old (x ∷ new)
  pub room : room_of old ≡ room_of (x ∷ new)

less : (lists : List (List Row)) (i : ℕ) (x : Row) (rest : List Row) → i < length lists
    → x ∷ rest ≡ get_or lists i (x ∷ rest)
    → IsLess x (all_ahead lists) (all_ahead (set lists i rest))
less [] i x rest lt is = absurd (omega (arith, lt))
less (r ∷ lists) zero x rest lt is =
    subst (λ (rows : List Row). IsLess x (rows ++ all_ahead lists) (rest ++ all_ahead lists)) is
    (record { members = λ z. (λ h. h, λ h. h); room = refl })
less (r ∷ lists) (suc i) x rest lt is =
    let own = less lists i x rest (omega (arith, lt)) is in
    let new = all_ahead (set lists i rest) in record {
      members = λ z. (
        λ h. elim (in_either z r (all_ahead lists) h) [
          | inl k ↦ inr (in_left z r new k)
          | inr k ↦ elim ((own.members z).0 k) [
            | inl e ↦ inl e
            | inr j ↦ inr (in_right z r new j)
          ]
        ],
        λ h. elim h [
          | inl e ↦ in_right z r (all_ahead lists) ((own.members z).1 (inl e))
          | inr k ↦ elim (in_either z r new k) [
            | inl j ↦ in_left z r (all_ahead lists) j
            | inr j ↦ in_right z r (all_ahead lists) ((own.members z).1 (inr j))
          ]
        ],
      );
      room = let a = sum_by-append row_room r (all_ahead lists) in
          let b = sum_by-append row_room r new in
          let c = sum_by-cons row_room x new in
          let d = sum_by-cons row_room x (r ++ new) in
          let e = own.room in
          omega (arith, a, b, c, d, e);
    }

-- ---- and it is the least

up_to_run : (x : Row) (rows : List Row) (y : Row) → IsRun rows → NotAfter (Some x) (first_in rows)
    → y ∈ rows → IsUpTo row_cmp x y
up_to_run x [] y r n h = absurd h
up_to_run x (z ∷ rows) y r n (inl e) = subst (λ (w : Row). IsUpTo row_cmp x w) e n
up_to_run x (z ∷ rows) y r n (inr h) = upto row_total x z y n (r.ordered.0 y h)

up_to_all : (x : Row) (lists : List (List Row)) (y : Row) → AreRuns lists
    → ((k : ℕ) → NotAfter (Some x) (front_at first_in lists k)) → y ∈ all_ahead lists
    → IsUpTo row_cmp x y
up_to_all x [] y r n h = absurd h
up_to_all x (rows ∷ lists) y r n h = elim (in_either y rows (all_ahead lists) h) [
  | inl k ↦ up_to_run x rows y r.0 (n zero) k
  | inr k ↦ up_to_all x lists y r.1 (λ i. n (suc i)) k
]

first_at : (lists : List (List Row)) (i : ℕ) (x : Row) (rest : List Row) → i < length lists
    → x ∷ rest ≡ get_or lists i (x ∷ rest) → front_at first_in lists i ≡ Some x
first_at [] i x rest lt is = absurd (omega (arith, lt))
first_at (r ∷ lists) zero x rest lt is = ap first_in (sym is)
first_at (r ∷ lists) (suc i) x rest lt is = first_at lists i x rest (omega (arith, lt)) is

pub taken_out : (lists new : List (List Row)) (i : ℕ) (x : Row) → AreRuns lists
    → ComesFirst first_in lists i → TakesAt lists i x new
    → IsTakenOut (all_ahead lists) x (all_ahead new)
taken_out lists new i x r f t =
    let own = less lists i x t.0 f.within t.1 in
    let at = first_at lists i x t.0 f.within t.1 in
    subst (λ (ls : List (List Row)). IsTakenOut (all_ahead lists) x (all_ahead ls)) (sym t.2)
    (record {
      members = own.members;
      room = own.room;
      least = λ y h. up_to_all x lists y r
          (λ k. subst (λ (o : Option Row). NotAfter o (front_at first_in lists k)) at (f.least k))
          ((own.members y).1 (inr h));
    })

-- ---- what a list has in front

pub first_ahead : (o : Option Row) (rest rows : List Row) (x : Row) → rows_ahead o rest ≡ rows
    → o ≡ Some x → first_in rows ≡ Some x
first_ahead o rest rows x e f =
    sym (ap first_in e) ∙ ap (λ (p : Option Row). first_in (rows_ahead p rest)) f

pub same_some : (x y : Row) → Some x ≡ Some y → x ≡ y
same_some x y e = ap (λ (o : Option Row). elim o [ Some z ↦ z | None ↦ x ]) e

-- the row that one list has in front could be taken out
pub first_out : (lists : List (List Row)) (i : ℕ) (s : List Row) (x : Row) (rows : List Row)
    → AreRuns lists → ComesFirst first_in lists i → s ≡ get_or lists i s → first_in s ≡ Some x
    → all_ahead lists ≡ rows → (rest : List Row) × IsTakenOut rows x rest
first_out lists i [] x rows r f is e at = absurd (let g : None ≡ Some x = e in cc)
first_out lists i (z ∷ rest) x rows r f is e at = (
  all_ahead (set lists i rest),
  subst (λ (y : Row). IsTakenOut rows y (all_ahead (set lists i rest))) (same_some z x e)
      (subst (λ (all : List Row). IsTakenOut all z (all_ahead (set lists i rest))) at
      (taken_out lists (set lists i rest) i z r f (rest, is, refl))),
)

-- where it has one, one is taken
pub is_taken : (r : Option Row) (old new : List Row) (x : Row)
    → IfNone r ((old ≡ []) × (new ≡ [])) → first_in old ≡ Some x → is_some r ≡ true
is_taken None old new x n e =
    absurd (let f : None ≡ Some x = sym (ap first_in n.0) ∙ e in cc)
is_taken (Some y) old new x n e = refl

pub if_none : (P : Type 0) (r : Option Row) → P → IfNone r P
if_none P None p = p
if_none P (Some x) p = tt

-- ---- they stay runs

rest_run : (x : Row) (rest : List Row) → IsRun (x ∷ rest) → IsRun rest
rest_run x rest r =
    record { ordered = r.ordered.1; each = λ y h. r.each y (inr h); told = r.told.1 }

runs_on : (lists : List (List Row)) (i : ℕ) (x : Row) (rest : List Row) → i < length lists
    → x ∷ rest ≡ get_or lists i (x ∷ rest) → AreRuns lists → AreRuns (set lists i rest)
runs_on [] i x rest lt is r = absurd (omega (arith, lt))
runs_on (rows ∷ lists) zero x rest lt is r = (rest_run x rest (subst IsRun (sym is) r.0), r.1)
runs_on (rows ∷ lists) (suc i) x rest lt is r =
    (r.0, runs_on lists i x rest (omega (arith, lt)) is r.1)

pub runs_after : (lists new : List (List Row)) (i : ℕ) (x : Row) → AreRuns lists
    → i < length lists → TakesAt lists i x new → AreRuns new
runs_after lists new i x r lt t = subst AreRuns (sym t.2) (runs_on lists i x t.0 lt t.1 r)

-- only the list that a row was taken out of has another in front
pub others_stay : (lists : List (List Row)) (i k : ℕ) (rest : List Row) → k ≢ i
    → front_at first_in (set lists i rest) k ≡ front_at first_in lists k
others_stay [] i k rest unlike = refl
others_stay (r ∷ lists) zero zero rest unlike = absurd (unlike refl)
others_stay (r ∷ lists) zero (suc k) rest unlike = refl
others_stay (r ∷ lists) (suc i) zero rest unlike = refl
others_stay (r ∷ lists) (suc i) (suc k) rest unlike =
    others_stay lists i k rest (λ e. unlike (ap suc e))

-- what was taken out of the lists as they are lent, and what is left of them
module _ (lists shown lent new : List (List Row)) (i n : ℕ) (won : List ℕ) (r : Option Row)
    (seen : shown ≡ lists) (same : lent ≡ lists) (len : length lent ≡ n) (runs : AreRuns lists)
    (first : ComesFirst first_in shown i) (some : is_some r ≡ true)
    (takes : IfSome r (λ x. TakesAt lent i x new)) (played : IsPlayed first_in new won) where
  is_first : ComesFirst first_in lists i
  is_first = subst (λ (ls : List (List Row)). ComesFirst first_in ls i) seen first

  left : (q : Option Row) → is_some q ≡ true → IfSome q (λ x. TakesAt lent i x new)
      → AreRuns new × (length new ≡ length lent)
  left None e t = absurd (let g : false ≡ true = e in cc)
  left (Some x) e t = (
    runs_after lent new i x (subst AreRuns (sym same) runs)
        (subst (λ (ls : List (List Row)). i < length ls) (sym same) is_first.within) t,
    ap (λ (ls : List (List Row)). length ls) t.2 ∙ length-set lent i t.0,
  )

  abbrev whole : List (List Row)
  whole = take n (new ++ drop (length new) lists)

  whole_is : whole ≡ new
  whole_is =
      ap (λ m. take m (new ++ drop (length new) lists)) (sym ((left r some takes).1 ∙ len))
      ∙ take-append_seam new (drop (length new) lists)

  pub still : AreRuns (take n (new ++ drop (length new) lists))
      × IsPlayed first_in (take n (new ++ drop (length new) lists)) won
  still =
      subst (λ (ls : List (List Row)). AreRuns ls × IsPlayed first_in ls won) (sym whole_is)
      ((left r some takes).0, played)

  module _ (rows : List Row) (is : all_ahead lists ≡ rows) where
    taken_by : (Q : Row → Type 0) (q : Option Row) → IfSome q (λ x. TakesAt lent i x new)
        → ((y : Row) → front_at first_in lists i ≡ Some y → Q y)
        → IfSome q (λ x. IsTakenOut rows x (all_ahead whole) × Q x)
    taken_by Q None t h = tt
    taken_by Q (Some x) t h =
        let own = subst (λ (ls : List (List Row)). TakesAt ls i x new) same t in (
          subst (λ (ls : List (List Row)). IsTakenOut rows x (all_ahead ls)) (sym whole_is)
              (subst (λ (all : List Row). IsTakenOut all x (all_ahead new)) is
              (taken_out lists new i x runs is_first own)),
          h x (first_at lists i x own.0 is_first.within own.1),
        )

    alone : (q : Option Row) → IfSome q (λ x. TakesAt lent i x new)
        → IfSome q (λ x. IsTakenOut rows x (all_ahead (take n (new ++ drop (length new) lists))))
    alone None t = tt
    alone (Some x) t = (taken_by (λ y. Unit {0}) (Some x) t (λ y h. tt)).0

    pub taken : (Q : Row → Type 0) → ((y : Row) → front_at first_in lists i ≡ Some y → Q y)
        → IfSome r (λ x. IsTakenOut rows x (all_ahead (take n (new ++ drop (length new) lists)))
        × Q x)
    taken Q h = taken_by Q r takes h

    pub taken_alone :
        IfSome r (λ x. IsTakenOut rows x (all_ahead (take n (new ++ drop (length new) lists))))
    taken_alone = alone r takes

pub sound_ahead : (lists : List (List Row)) → AreRuns lists → AreSoundRows (all_ahead lists)
sound_ahead [] r x h = absurd h
sound_ahead (rows ∷ lists) r x h = elim (in_either x rows (all_ahead lists) h) [
  | inl k ↦ r.0.each x k
  | inr k ↦ sound_ahead lists r.1 x k
]

pub told_ahead : (lists : List (List Row)) → AreRuns lists
    → AllByRecursion HasNamesAndFrame (all_ahead lists)
told_ahead [] r = tt
told_ahead (rows ∷ lists) r = both rows r.0.told (told_ahead lists r.1)
  where
    both : (rows : List Row) → AllByRecursion HasNamesAndFrame rows
        → AllByRecursion HasNamesAndFrame (all_ahead lists)
        → AllByRecursion HasNamesAndFrame (rows ++ all_ahead lists)
    both [] h k = k
    both (x ∷ rows) h k = (h.0, both rows h.1 k)

-- ---- none are left

pub none_ahead : (lists : List (List Row)) → ((k : ℕ) → front_at first_in lists k ≡ None)
    → all_ahead lists ≡ []
none_ahead [] n = refl
none_ahead ([] ∷ lists) n = none_ahead lists (λ k. n (suc k))
none_ahead ((x ∷ rows) ∷ lists) n = absurd (let e : Some x ≡ None = n zero in cc)

-- ---- lists are put to the others

pub ahead_more : (lists : List (List Row)) (rows : List Row)
    → all_ahead (lists ++ rows ∷ []) ≡ all_ahead lists ++ rows
ahead_more [] rows = append-nil rows
ahead_more (r ∷ lists) rows =
    ap (λ xs. r ++ xs) (ahead_more lists rows) ∙ sym (append_assoc r (all_ahead lists) rows)

pub each_more : (P : List Row → Type 0) (lists : List (List Row)) (rows : List Row)
    → AllByRecursion P lists → P rows → AllByRecursion P (lists ++ rows ∷ [])
each_more P [] rows a p = (p, tt)
each_more P (r ∷ lists) rows a p = (a.0, each_more P lists rows a.1 p)

pub some_ahead : (lists : List (List Row)) → HaveRows lists → lists ≢ [] → all_ahead lists ≢ []
some_ahead [] h s e = s refl
some_ahead ([] ∷ lists) h s e = h.0 refl
some_ahead ((x ∷ rows) ∷ lists) h s e = absurd (cc)
