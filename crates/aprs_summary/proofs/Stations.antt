-- What rows report of each station.
use Rattle.aprs_summary.proofs.Common.{◌≡◌, ◌∙◌, ℕ, if◌then◌else◌, ◌+◌, ◌<◌, Bool, true, false, List, [], ◌∷◌, ◌++◌, Option, Some, None, Result, Ok, Err, IfOk, length, sym, ap, refl, subst, inl, inr, arith, map, in_map, from_map, count_by, lookup, keys_of, is_at, insert_entry, tied_itself, is_eq, Ordering, Less, Equal, Greater, Call, call_cmp, Received, ◌∈◌, Ordered, Key, Row, row_key, BookOf, a_row, call_total, call_exact}
use Rattle.std.specs.List.Sorted.{IsStrictlySortedBy}
use Rattle.std.proofs.Common.{length-append}
use Rattle.std.proofs.lemmas.List.Sums.{sum_by-append, count_by-le-length}
use Rattle.aprs_summary.specs.declared.lists.station.Station.{Station}
use Rattle.aprs_summary.specs.declared.lists.tally.Tally.{Tally}
use Rattle.aprs_summary.specs.Reports.{has_source, reports_position, reports_status}
use Rattle.aprs_summary.specs.Stations.{IsSource, ComesBefore, IsStation, ReportsStations}
use Rattle.aprs_summary.specs.StationRows.{source_of, IsFrom, count_in, tally_of, with_one_more, with_last, IsTally, IsTallyEntry, itself, AreTallies, IsStationBefore, station_in}
use Rattle.aprs_summary.proofs.Collected.{in_order, found, absent, Adds, put_by, SoFar}
use Rattle.aprs_summary.specs.Known.{FourIndexes, AreIndexesOf, positions, statuses, call_bytes}
use Rattle.aprs_summary.proofs.IndexSteps.{by_bytes, reports_of_position, reports_of_status}
use Rattle.aprs_summary.proofs.Inserts.{inserted_found, inserted_twice, inserted_sorted}

-- whether a row is of the station
pub is_source : (c b : Call) → is_eq (call_cmp b c) ≡ true → b ≡ c
is_source c b e = reported (call_cmp b c) refl where
  reported : (o : Ordering) → call_cmp b c ≡ o → b ≡ c
  reported Less f = let t : false ≡ true = sym (ap is_eq f) ∙ e in absurd (cc)
  reported Equal f = call_exact b c f
  reported Greater f = let t : false ≡ true = sym (ap is_eq f) ∙ e in absurd (cc)

own_row : (c : Call) (k : Key) → IsFrom c k → has_source c k ≡ true
own_row c k e = ap (λ (b : Call). is_eq (call_cmp b c)) e ∙ ap is_eq (tied_itself call_total c)

other_row : (c : Call) (k : Key) → (IsFrom c k → ⊥) → has_source c k ≡ false
other_row c k n = reported (has_source c k) refl where
  reported : (b : Bool) → has_source c k ≡ b → has_source c k ≡ false
  reported true e = absurd (n (is_source c k.source e))
  reported false e = e

-- ---- rows of other stations

pub record AreOthers (c : Call) (xs : List Row) : Type 0 where
  pub other : (r : Row) → r ∈ xs → has_source c (row_key r) ≡ false

others_next : (c : Call) (x : Row) (xs : List Row) → AreOthers c (x ∷ xs) → AreOthers c xs
others_next c x xs o = record { other = λ r m. o.other r (inr m) }

count_append : (p : Row → Bool) (xs ys : List Row)
    → count_by p (xs ++ ys) ≡ count_by p xs + count_by p ys
count_append p xs ys = sum_by-append (λ (r : Row). if p r then 1 else 0) xs ys

count_others : (c : Call) (xs : List Row) → AreOthers c xs
    → count_by (λ (r : Row). has_source c (row_key r)) xs ≡ 0
count_others c [] o = refl
count_others c (x ∷ xs) o =
    rw (o.other x (inl refl)) (count_others c xs (others_next c x xs o))

-- ---- one row more

others_of : (c : Call) (rows : List Row) → ((r : Row) → r ∈ rows → IsFrom c (row_key r) → ⊥)
    → AreOthers c rows
others_of c rows n = record { other = λ r m. other_row c (row_key r) (n r m) }

-- a row of another station
tally_stays : (rows : List Row) (x : Row) (c : Call) (n : ℕ) → (IsFrom c (row_key x) → ⊥)
    → IsTally rows c n → IsTally (rows ++ x ∷ []) c n
tally_stays rows x c n other h =
    let o : AreOthers c (x ∷ []) = others_of c (x ∷ []) (λ r m. elim m [
      | inl e ↦ subst (λ (y : Row). IsFrom c (row_key y) → ⊥) e other
      | inr j ↦ absurd j
    ]) in
    let all = count_append (λ (r : Row). has_source c (row_key r)) rows (x ∷ []) in
    let none = count_others c (x ∷ []) o in
    omega (arith, h, all, none)

-- a row of its own
tally_grows : (rows : List Row) (x : Row) (c : Call) (n m : ℕ) → IsFrom c (row_key x) → m ≡ n + 1
    → IsTally rows c n → IsTally (rows ++ x ∷ []) c m
tally_grows rows x c n m own g h =
    let all = count_append (λ (r : Row). has_source c (row_key r)) rows (x ∷ []) in
    let one : count_by (λ (r : Row). has_source c (row_key r)) (x ∷ []) ≡ 1 =
    rw (own_row c (row_key x) own) in
    omega (arith, g, h, all, one)

module _ (rows : List Row) (es : List (Call × ℕ)) (c : AreTallies rows es) where
  -- how many rows a station has before one is added
  pub reported_before : (call : Call) (known : Option ℕ) → lookup (is_at (call_cmp call)) es ≡ known
      → IsTally rows call (count_in known)
  reported_before call None h =
      sym (count_others call rows (others_of call rows (λ r m p.
      let t = c.every r m call p in
      absent itself call_cmp call_total call_exact call es h t.0 t.1 (sym t.2))))
  reported_before call (Some s) h =
      let f = found itself call_cmp call_total call_exact call s es h in
      subst (λ (v : ℕ). IsTally rows call v) f.3
      (subst (λ (t : Call). IsTally rows t f.0.1) (sym f.2) (c.each f.0 f.1).1)

  pub tallies_put : (more : List Row) (x : Row) → Adds rows x more → (call : Call) (n : ℕ)
      (new : List (Call × ℕ)) → call ≡ source_of x
      → n ≡ count_in (lookup (is_at (call_cmp call)) es) + 1 → new ≡ insert_entry call_cmp es call n
      → IsStrictlySortedBy call_cmp (keys_of new) → AreTallies more new
  tallies_put more x adds call n new own g put sorted =
      put_by itself call_cmp call_total call_exact IsFrom IsTallyEntry rows more x adds
      (λ a v other h. (
        (h.0.0, adds.old h.0.0 h.0.1, h.0.2),
        subst (λ (r : List Row). IsTally r a v) (sym adds.last) (tally_stays rows x a v other h.1),
      )) es c call_cmp (λ a b. refl) call n new put sorted (λ m p. own ∙ p) (
        (x, adds.new, sym own),
        subst (λ (r : List Row). IsTally r call n) (sym adds.last)
            (tally_grows rows x call (count_in (lookup (is_at (call_cmp call)) es)) n (sym own) g
            (reported_before call (lookup (is_at (call_cmp call)) es) refl)),
      )

-- the station that was count_in last
module _ (es : List (Call × ℕ)) (call : Call) (t : Tally) (last : Option Tally)
    (now : List (Call × ℕ)) (is : with_last last es ≡ now) (some : last ≡ Some t)
    (own : t.station ≡ call) where
  entries_now : now ≡ insert_entry call_cmp es call (tally_of call es + t.rows)
  entries_now = sym is ∙ (λ i. with_last (some i) es)
      ∙ ap (λ c. insert_entry call_cmp es c (tally_of c es + t.rows)) own

  pub tally_of_last : tally_of call now ≡ tally_of call es + t.rows
  tally_of_last = ap (tally_of call) entries_now
      ∙ ap count_in (inserted_found call_cmp call_total call (tally_of call es + t.rows) es)

  pub one_more_of_last : insert_entry call_cmp es call (tally_of call es + (t.rows + 1))
      ≡ with_one_more call now
  one_more_of_last =
      let grown : tally_of call es + (t.rows + 1) ≡ tally_of call es + t.rows + 1 = omega arith in
      ap (insert_entry call_cmp es call) grown
      ∙ sym (inserted_twice call_cmp call_total call (tally_of call es + t.rows)
      (tally_of call es + t.rows + 1) es)
      ∙ sym (λ i. insert_entry call_cmp (entries_now i) call (tally_of_last i + 1))

-- the rows of a station that was counted before, put after their number was
pub put_again : (es put new : List (Call × ℕ)) (call again : Call) (before rows : ℕ)
    → again ≡ call → Some before ≡ lookup (is_at (call_cmp call)) es
    → put ≡ insert_entry call_cmp es call rows → new ≡ insert_entry call_cmp put again (before + rows)
    → new ≡ insert_entry call_cmp es call (tally_of call es + rows)
put_again es put new call again before rows same known e f =
    f ∙ (λ i. insert_entry call_cmp (e i) (same i) (before + rows))
    ∙ inserted_twice call_cmp call_total call rows (before + rows) es
    ∙ ap (λ o. insert_entry call_cmp es call (count_in o + rows)) known

-- nothing is in order
pub no_keys : (es : List (Call × ℕ)) → es ≡ [] → IsStrictlySortedBy call_cmp (keys_of es)
unfolding IsStrictlySortedBy
no_keys es e = subst (λ t. IsStrictlySortedBy call_cmp (keys_of t)) (sym e) tt

pub stays_in_order : (call : Call) (es new : List (Call × ℕ)) → new ≡ with_one_more call es
    → IsStrictlySortedBy call_cmp (keys_of es) → IsStrictlySortedBy call_cmp (keys_of new)
stays_in_order call es new e s =
    subst (λ t. IsStrictlySortedBy call_cmp (keys_of t)) (sym e)
    (inserted_sorted call_cmp call_total call (tally_of call es + 1) es s)

-- what all rows are count_in to
pub all_counted : {E : Type 0} (A : Type 0) (entries : A → List (Call × ℕ)) (r : Result A E)
    (rows : List Row) (es : List (Call × ℕ)) → AreTallies rows es
    → IfOk r (λ m. entries m ≡ es) → IfOk r (λ m. AreTallies rows (entries m))
all_counted A entries (Ok m) rows es c e = subst (AreTallies rows) (sym e) c
all_counted A entries (Err q) rows es c e = tt

-- a station has fewer rows than there are before the last is count_in
pub room_for_one : (all rest later : List Row) (x : Row) (es : List (Call × ℕ)) (call : Call)
    (known : Option ℕ) → SoFar (λ (done : List Row). AreTallies done es) all rest → rest ≡ x ∷ later
    → known ≡ lookup (is_at (call_cmp call)) es → count_in known < length all
room_for_one all rest later x es call known s e k =
    let t = reported_before s.done es s.holds call known (sym k) in
    let few = count_by-le-length (λ (r : Row). has_source call (row_key r)) s.done in
    let sum = ap length s.split ∙ length-append s.done rest in
    let some = ap length e in
    omega (arith, t, few, sum, some)

-- ---- the stations of a set

rows_ascend : (i : FourIndexes) (es : List (Call × ℕ)) → Ordered IsStationBefore es
    → Ordered ComesBefore (map (station_in i) es)
rows_ascend i [] o = tt
rows_ascend i (e ∷ es) o = (
  λ y m. (let f = from_map (station_in i) y es m in
      subst (λ (x : Station). call_cmp e.0 x.call ≡ Less) f.2 (o.0 f.0 f.1)),
  rows_ascend i es o.1,
)

module _ (gap : ℕ) (S : List Received) (rows : List Row) (b : BookOf gap S rows)
    (i : FourIndexes) (h : AreIndexesOf rows i) (es : List (Call × ℕ))
    (c : AreTallies rows es) where
  station_reported : (x : Station) → x ∈ map (station_in i) es → IsStation S rows x
  station_reported x m =
      let f = from_map (station_in i) x es m in
      let call = f.0.0 in
      subst (IsStation S rows) f.2 (record {
        transmissions = (c.each f.0 f.1).1;
        position =
            by_bytes gap rows (reports_position call) positions (call_bytes call) i _ h
            (reports_of_position call) refl S b;
        status =
            by_bytes gap rows (reports_status call) statuses (call_bytes call) i _ h
            (reports_of_status call) refl S b;
      })

  source_reported : (call : Call)
      → ((x : Station) × (x ∈ map (station_in i) es) × (x.call ≡ call)) → IsSource S call
  source_reported call l =
      let f = from_map (station_in i) l.0 es l.1 in
      let r = (c.each f.0 f.1).0 in (
        r.0.greatest,
        ((b.exactly r.0).0 r.1).member,
        r.2 ∙ ap (λ (x : Station). x.call) f.2 ∙ l.2,
      )

  reported_source : (call : Call) → IsSource S call
      → (x : Station) × (x ∈ map (station_in i) es) × (x.call ≡ call)
  reported_source call l =
      let r = a_row gap S rows b l.0 l.1 in
      let e = c.every r.0 r.1 call (sym (ap (λ (k : Key). k.source) r.2.key) ∙ l.2) in
      (station_in i e.0, in_map (station_in i) e.0 es e.1, e.2)

pub stations_of_book : (gap : ℕ) (rows : List Row) (i : FourIndexes) (es : List (Call × ℕ))
    → AreTallies rows es → AreIndexesOf rows i → Ordered IsStationBefore es
    → ReportsStations gap rows (map (station_in i) es)
stations_of_book gap rows i es c h o = λ S b. record {
  ascending = rows_ascend i es o;
  sources = λ call.
      (source_reported gap S rows b i h es c call, reported_source gap S rows b i h es c call);
  each = station_reported gap S rows b i h es c;
}

pub stations_ascend : (es : List (Call × ℕ)) → IsStrictlySortedBy call_cmp (keys_of es)
    → Ordered IsStationBefore es
stations_ascend es s = in_order itself call_cmp es s
