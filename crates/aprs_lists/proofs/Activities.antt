-- What is kept of stations says how active they were in the rows so far.
use Rattle.aprs_lists.proofs.Common.{◌≡◌, ◌∙◌, ◌++◌, ◌∷◌, [], ℕ, Bool, List, None, Option, Some, ap, append-nil, arith, length, map, refl, subst, sym, call_total, Row}
use Rattle.std.proofs.Common.{◌+◌, ◌<◌, ◌≤◌, cond, false, true, if◌then◌else◌, length-append}
use Rattle.std.proofs.lemmas.Cmp.{tied_itself}
use Rattle.std.proofs.lemmas.List.{map-append}
use Rattle.std.proofs.lemmas.List.Elements.{filter-append}
use Rattle.std.proofs.lemmas.List.Sums.{count_by-le-length, sum_by-append}
use Rattle.std.specs.BTreeMap.{insert_entry}
use Rattle.std.specs.List.{count_by, filter}
use Rattle.std.specs.Ordering.{is_eq, ordering_reverse}
use Rattle.std.specs.declared.cmp.Ordering.{Ordering}
use Rattle.std.specs.declared.cmp.Ordering.TheVariants.{Equal, Greater, Less}
use Rattle.aprs_ax25.specs.Callsign.{Call, call_cmp}
use Rattle.aprs_transmissions.proofs.Orders.{call_exact}
use Rattle.aprs_transmissions.specs.Row.{last_moment, row_key}
use Rattle.aprs_rows.proofs.Cases.{by_order}
use Rattle.aprs_summary.proofs.Collected.{SoFar}
use Rattle.aprs_summary.specs.Reports.{has_source}
use Rattle.aprs_summary.specs.StationRows.{source_of}
use Rattle.aprs_lists.specs.Activity.{AreActivities, frames_passed, heard_kept, heard_last, kept_of, later, latest, passed_kept, passes_on, rows_from, with_last, with_one_more, with_row}
use Rattle.aprs_lists.specs.declared.activity.Active.{Active}
use Rattle.aprs_lists.specs.declared.activity.Activity.{Activity}

-- ---- one moment more

latest_more : (ms : List ℕ) (m : ℕ) → latest (ms ++ m ∷ []) ≡ Some (later m (latest ms))
latest_more [] m = refl
latest_more (x ∷ ms) m =
    ap (λ o. Some (later x o)) (latest_more ms m) ∙ ap Some (turned x m (latest ms)) where
      turned : (x m : ℕ) (o : Option ℕ) → later x (Some (later m o)) ≡ later m (Some (later x o))
      turned x m None = omega (arith)
      turned x m (Some n) = omega (arith)

-- ---- one row more

is_from : Call → Row → Bool
is_from call r = has_source call (row_key r)

module _ (rows : List Row) (x : Row) (call : Call) where
  rows_more : (b : Bool) → has_source call (row_key x) ≡ b
      → rows_from call (rows ++ x ∷ []) ≡ rows_from call rows ++ cond b (x ∷ []) []
  rows_more b h = filter-append (λ (r : Row). has_source call (row_key r)) rows (x ∷ [])
      ∙ ap (λ (c : Bool). rows_from call rows ++ cond c (x ∷ []) []) h

  heard_more : has_source call (row_key x) ≡ true → (known : Option Activity)
      → heard_kept known ≡ heard_last call rows
      → heard_last call (rows ++ x ∷ []) ≡ heard_kept (Some (with_row known (last_moment x) (passes_on x)))
  heard_more h known e =
      ap (λ (l : List Row). latest (map last_moment l)) (rows_more true h)
      ∙ ap latest (map-append last_moment (rows_from call rows) (x ∷ []))
      ∙ latest_more (map last_moment (rows_from call rows)) (last_moment x)
      ∙ ap (λ o. Some (later (last_moment x) o)) (sym e)

  passed_more : has_source call (row_key x) ≡ true → (known : Option Activity)
      → passed_kept known ≡ frames_passed call rows
      → frames_passed call (rows ++ x ∷ [])
      ≡ passed_kept (Some (with_row known (last_moment x) (passes_on x)))
  passed_more h known e =
      ap (count_by passes_on) (rows_more true h)
      ∙ sum_by-append (λ (r : Row). cond (passes_on r) 1 0) (rows_from call rows) (x ∷ [])
      ∙ one (passes_on x) where
        one : (b : Bool) → frames_passed call rows + (0 + cond b 1 0)
            ≡ passed_kept known + (if b then 1 else 0)
        one true = omega (arith, e)
        one false = omega (arith, e)

  heard_same : has_source call (row_key x) ≡ false
      → heard_last call (rows ++ x ∷ []) ≡ heard_last call rows
  heard_same h = ap (λ (l : List Row). latest (map last_moment l)) (rows_more false h)
      ∙ ap (λ (l : List Row). latest (map last_moment l)) (append-nil (rows_from call rows))

  passed_same : has_source call (row_key x) ≡ false
      → frames_passed call (rows ++ x ∷ []) ≡ frames_passed call rows
  passed_same h = ap (count_by passes_on) (rows_more false h)
      ∙ ap (count_by passes_on) (append-nil (rows_from call rows))

-- ---- one entry more

put_own : (call : Call) (es : List (Call × Activity)) (a : Activity)
    → kept_of call (insert_entry call_cmp es call a) ≡ Some a
put_own call [] a = rw (tied_itself call_total call) refl
put_own call (e ∷ es) a = by_order (call_cmp call e.0)
    (λ o. rw (o, tied_itself call_total call) refl)
    (λ o. rw (o, o) refl)
    (λ o. rw (o, o) (put_own call es a))

either_way : (o : Ordering) → is_eq (ordering_reverse o) ≡ is_eq o
either_way Less = refl
either_way Equal = refl
either_way Greater = refl

turned_call : (a b : Call) → is_eq (call_cmp b a) ≡ is_eq (call_cmp a b)
turned_call a b = ap is_eq (call_total.antisymm b a) ∙ either_way (call_cmp a b)

pub same_call : (a b : Call) → is_eq (call_cmp a b) ≡ true → a ≡ b
same_call a b e = by_order (call_cmp a b)
    (λ o. absurd (let f : false ≡ true = sym (ap is_eq o) ∙ e in cc))
    (λ o. call_exact a b o)
    (λ o. absurd (let f : false ≡ true = sym (ap is_eq o) ∙ e in cc))

by_test : {G : Type 0} (b : Bool) → (b ≡ true → G) → (b ≡ false → G) → G
by_test true x y = x refl
by_test false x y = y refl

put_other : (call other : Call) (es : List (Call × Activity)) (a : Activity)
    → is_eq (call_cmp call other) ≡ false
    → kept_of other (insert_entry call_cmp es call a) ≡ kept_of other es
put_other call other [] a n = rw (turned_call call other ∙ n) refl
put_other call other (e ∷ es) a n = by_order (call_cmp call e.0)
    (λ o. rw (o, turned_call call other ∙ n) refl)
    (λ o. (let far : is_eq (call_cmp other e.0) ≡ false =
    turned_call e.0 other ∙ (ap (λ (c : Call). is_eq (call_cmp c other)) (sym (call_exact call e.0 o)) ∙ n) in
    rw (o, far) refl))
    (λ o. by_test (is_eq (call_cmp other e.0))
    (λ t. rw (o, t) refl)
    (λ t. rw (o, t) (put_other call other es a n)))

put_twice : (call : Call) (es : List (Call × Activity)) (a b : Activity)
    → insert_entry call_cmp (insert_entry call_cmp es call a) call b ≡ insert_entry call_cmp es call b
put_twice call [] a b = rw (tied_itself call_total call) refl
put_twice call (e ∷ es) a b = by_order (call_cmp call e.0)
    (λ o. rw (o, tied_itself call_total call) refl)
    (λ o. rw (o, o) refl)
    (λ o. rw (o, o) (ap (λ l. e ∷ l) (put_twice call es a b)))

-- ---- the station that was counted last

module _ (es : List (Call × Activity)) (call : Call) (t : Active) (last : Option Active)
    (now : List (Call × Activity)) (is : with_last last es ≡ now) (some : last ≡ Some t)
    (own : t.station ≡ call) where
  entries_now : now ≡ insert_entry call_cmp es call t.activity
  entries_now = sym is ∙ (λ i. with_last (some i) es)
      ∙ ap (λ c. insert_entry call_cmp es c t.activity) own

  pub kept_of_last : kept_of call now ≡ Some t.activity
  kept_of_last = ap (kept_of call) entries_now ∙ put_own call es t.activity

  pub more_of_last : (moment : ℕ) (passes : Bool)
      → insert_entry call_cmp es call (with_row (Some t.activity) moment passes)
      ≡ with_one_more call moment passes now
  more_of_last moment passes =
      sym (put_twice call es t.activity (with_row (Some t.activity) moment passes))
      ∙ sym (λ i. insert_entry call_cmp (entries_now i) call
      (with_row (kept_of_last i) moment passes))

-- ---- the entries so far

pub no_activities : (es : List (Call × Activity)) → es ≡ [] → AreActivities [] es
no_activities es e = subst (AreActivities []) (sym e) (record {
  heard = λ call. refl;
  passed = λ call. refl;
})

module _ (rows : List Row) (es : List (Call × Activity)) (all : AreActivities rows es) (x : Row) where
  own_row : has_source (source_of x) (row_key x) ≡ true
  own_row = ap is_eq (tied_itself call_total (source_of x))

  abbrev after : Activity
  after = with_row (kept_of (source_of x) es) (last_moment x) (passes_on x)

  abbrev entries : List (Call × Activity)
  entries = insert_entry call_cmp es (source_of x) after

  heard_after : (call : Call) → heard_kept (kept_of call entries) ≡ heard_last call (rows ++ x ∷ [])
  heard_after call = by_test (is_eq (call_cmp (source_of x) call))
      (λ t. subst (λ (c : Call). heard_kept (kept_of c entries) ≡ heard_last c (rows ++ x ∷ []))
      (same_call (source_of x) call t)
      (ap heard_kept (put_own (source_of x) es after)
      ∙ sym (heard_more rows x (source_of x) own_row (kept_of (source_of x) es)
      (all.heard (source_of x)))))
      (λ t. ap heard_kept (put_other (source_of x) call es after t) ∙ all.heard call
      ∙ sym (heard_same rows x call t))

  passed_after : (call : Call)
      → passed_kept (kept_of call entries) ≡ frames_passed call (rows ++ x ∷ [])
  passed_after call = by_test (is_eq (call_cmp (source_of x) call))
      (λ t. subst (λ (c : Call). passed_kept (kept_of c entries) ≡ frames_passed c (rows ++ x ∷ []))
      (same_call (source_of x) call t)
      (ap passed_kept (put_own (source_of x) es after)
      ∙ sym (passed_more rows x (source_of x) own_row (kept_of (source_of x) es)
      (all.passed (source_of x)))))
      (λ t. ap passed_kept (put_other (source_of x) call es after t) ∙ all.passed call
      ∙ sym (passed_same rows x call t))

  pub one_row_more : (new : List (Call × Activity)) → new ≡ entries
      → AreActivities (rows ++ x ∷ []) new
  one_row_more new e = subst (AreActivities (rows ++ x ∷ [])) (sym e)
      (record { heard = heard_after; passed = passed_after })

-- a station passed on fewer frames than there are rows before the last is taken
length_filter : (p : Row → Bool) (xs : List Row) → length (filter p xs) ≤ length xs
length_filter p [] = omega (arith)
length_filter p (x ∷ xs) = by_test (p x)
    (λ t. let r = length_filter p xs in rw t (omega (arith, r)))
    (λ t. let r = length_filter p xs in rw t (omega (arith, r)))

pub room_for_one : (all rest later : List Row) (x : Row) (es : List (Call × Activity)) (call : Call)
    → SoFar (λ (done : List Row). AreActivities done es) all rest → rest ≡ x ∷ later
    → passed_kept (kept_of call es) < length all
room_for_one all rest later x es call s e =
    let same = s.holds.passed call in
    let few = count_by-le-length passes_on (rows_from call s.done) in
    let fewer = length_filter (λ (r : Row). has_source call (row_key r)) s.done in
    let sum = ap length s.split ∙ length-append s.done rest in
    let some = ap length e in
    omega (arith, same, few, fewer, sum, some)
