-- The objects and items that the indexes know.
use Rattle.aprs_summary.proofs.Common.{◌≡◌, ◌∙◌, ℕ, Bool, true, false, List, [], ◌∷◌, ◌++◌, map, Option, Some, None, sym, ap, refl, subst, inl, inr, IsTrue, IsTotalOrder, bool_cmp_total, is_eq, ordering_then, bool_cmp, tied_itself, on_total, then_total, CmpEqualImpliesEq, exact_pairs, Call, Received, bytes_cmp, Value, position, object, item, message, ack, rej, status, raw, ◌∈◌, Ordered, IsBelow, Key, Row, BookOf, IsBest, LastKnown, Passes, in_left, in_right, in_either, in_map, from_map, bytes_total, bytes_exact, by_order}
use Rattle.aprs_transmissions.specs.Key.{key_of}
use Rattle.aprs_summary.specs.declared.lists.named.Named.{Named}
use Rattle.aprs_summary.specs.Reports.{report_of}
use Rattle.aprs_summary.specs.Names.{Thing, reported_thing, thing_cmp, ReportsOf, shown_report, shown_thing, IsNamedBefore, AreNamed, ReportsNamed}
use Rattle.aprs_summary.specs.NamedRows.{report_in, reports_in}
use Rattle.aprs_summary.specs.Known.{Entries, FourIndexes, Topic, objects, items, index_of, entry_at, entry_known, known_at, has_bytes, is_report_on, report_bytes, topic_bytes, IsEntryBefore, AreIndexesOf}
use Rattle.aprs_summary.proofs.Collected.{found, absent, one_entry}
use Rattle.aprs_summary.proofs.IndexSteps.{entry_reports}

thing_total : IsTotalOrder thing_cmp
thing_total =
    then_total (on_total (λ (t : Thing). t.is_item) bool_cmp_total)
    (on_total (λ (t : Thing). t.name) bytes_total)

bool_exact : CmpEqualImpliesEq bool_cmp
bool_exact true true h = refl
bool_exact false false h = refl
bool_exact true false h = absurd (cc)
bool_exact false true h = absurd (cc)

thing_exact : CmpEqualImpliesEq thing_cmp
thing_exact a b h =
    ap (λ (p : Bool × List ℕ). record { is_item = p.0; name = p.1 })
    (exact_pairs bool_cmp bytes_cmp bool_exact bytes_exact (a.is_item, a.name)
    (b.is_item, b.name) h)

-- ---- what reports on a thing

abbrev topic_of : Bool → Topic
topic_of false = objects
topic_of true = items

abbrev thing : Bool → List ℕ → Thing
thing is_item name = record { is_item = is_item; name = name }

abbrev is_that : Thing → Option Thing → Bool
is_that t None = false
is_that t (Some u) = is_eq (thing_cmp u t)

that_one : (t : Thing) (o : Option Thing) → is_that t o ≡ true → o ≡ Some t
that_one t None h = absurd (cc)
that_one t (Some u) h =
    by_order (thing_cmp u t)
    (λ o. absurd (let f : false ≡ true = sym (ap is_eq o) ∙ h in cc))
    (λ o. ap Some (thing_exact u t o))
    (λ o. absurd (let f : false ≡ true = sym (ap is_eq o) ∙ h in cc))

is_itself : (t : Thing) (o : Option Thing) → o ≡ Some t → is_that t o ≡ true
is_itself t o e = ap (is_that t) e ∙ ap is_eq (tied_itself thing_total t)

reported_alike : (is_item : Bool) (name : List ℕ) (call : Call) (v : Value)
    → has_bytes name (report_bytes (topic_of is_item) call v) ≡ is_that (thing is_item name)
    (reported_thing v)
reported_alike false name call (position messaging stamp place symbol comment) = refl
reported_alike false name call (object other live stamp place symbol comment) = refl
reported_alike false name call (item other live place symbol comment) = refl
reported_alike false name call (message addressee text id) = refl
reported_alike false name call (ack addressee id) = refl
reported_alike false name call (rej addressee id) = refl
reported_alike false name call (status stamp text) = refl
reported_alike false name call raw = refl
reported_alike true name call (position messaging stamp place symbol comment) = refl
reported_alike true name call (object other live stamp place symbol comment) = refl
reported_alike true name call (item other live place symbol comment) = refl
reported_alike true name call (message addressee text id) = refl
reported_alike true name call (ack addressee id) = refl
reported_alike true name call (rej addressee id) = refl
reported_alike true name call (status stamp text) = refl
reported_alike true name call raw = refl

-- what the index of objects or of items goes by
abbrev reports_thing : Thing → Key → Bool
reports_thing t = is_report_on (topic_bytes (topic_of t.is_item)) t.name

reports_of : (t : Thing) (k : Key) → IsTrue (reports_thing t k) → ReportsOf t k
reports_of t k h =
    that_one t (reported_thing (report_of k))
    (sym (reported_alike t.is_item t.name k.source (report_of k)) ∙ h)

reports_by : (t : Thing) (k : Key) → ReportsOf t k → IsTrue (reports_thing t k)
reports_by t k e =
    reported_alike t.is_item t.name k.source (report_of k)
    ∙ is_itself t (reported_thing (report_of k)) e

-- ---- entries

abbrev itself : List ℕ → List ℕ
itself bytes = bytes

known_entry : (es : Entries) (name : List ℕ) (g : Received) → known_at name es ≡ Some g
    → (name, Some g) ∈ es
known_entry es name g h = case (entry_at name es) refl where
  case : (o : Option (Option Received)) → entry_at name es ≡ o → (name, Some g) ∈ es
  case None e = absurd (let n : None ≡ Some g = sym (ap entry_known e) ∙ h in cc)
  case (Some known) e =
      let f = found itself bytes_cmp bytes_total bytes_exact name known es e in
      let same : known ≡ Some g = sym (ap entry_known e) ∙ h in
      subst (λ (n : List ℕ). (n, Some g) ∈ es) (sym f.2)
      (subst (λ (k : Option Received). (f.0.0, k) ∈ es) (f.3 ∙ same) f.1)

entry_is_known : (es : Entries) (name : List ℕ) (g : Received) → Ordered IsEntryBefore es
    → (name, Some g) ∈ es → known_at name es ≡ Some g
entry_is_known es name g o m = case (entry_at name es) refl where
  case : (o : Option (Option Received)) → entry_at name es ≡ o → known_at name es ≡ Some g
  case None e =
      absurd (absent itself bytes_cmp bytes_total bytes_exact name es e (name, Some g) m refl)
  case (Some known) e =
      let f = found itself bytes_cmp bytes_total bytes_exact name known es e in
      let one =
      one_entry itself bytes_cmp bytes_total bytes_exact es o f.0 (name, Some g) f.1 m (sym f.2) in
      ap entry_known e ∙ sym f.3 ∙ ap (λ (p : List ℕ × Option Received). p.1) one

-- ---- the reports of one index

first_report : (is_item : Bool) (name : List ℕ) (known : Option Received) (t : Thing) (g : Received)
    → (t, g) ∈ report_in is_item name known
    → (t.is_item ≡ is_item) × (name ≡ t.name) × (known ≡ Some g)
first_report is_item name None t g h = absurd h
first_report is_item name (Some x) t g (inl e) = (
  sym (ap (λ (p : Thing × Received). p.0.is_item) e),
  ap (λ (p : Thing × Received). p.0.name) e,
  ap (λ (p : Thing × Received). Some p.1) e,
)
first_report is_item name (Some x) t g (inr j) = absurd j

report_entry : (is_item : Bool) (es : Entries) (t : Thing) (g : Received)
    → (t, g) ∈ reports_in is_item es → (t.is_item ≡ is_item) × ((t.name, Some g) ∈ es)
report_entry is_item [] t g h = absurd h
report_entry is_item (e ∷ es) t g h =
    elim (in_either (t, g) (report_in is_item e.0 e.1) (reports_in is_item es) h) [
      | inl j ↦
          let f = first_report is_item e.0 e.1 t g j in (
            f.0,
            subst (λ (n : List ℕ). (n, Some g) ∈ (e ∷ es)) f.1
                (subst (λ (k : Option Received). (e.0, k) ∈ (e ∷ es)) f.2 (inl refl)),
          )
      | inr j ↦ let r = report_entry is_item es t g j in (r.0, inr r.1)
    ]

entry_report : (is_item : Bool) (es : Entries) (name : List ℕ) (g : Received) → (name, Some g) ∈ es
    → (thing is_item name, g) ∈ reports_in is_item es
entry_report is_item [] name g h = absurd h
entry_report is_item (e ∷ es) name g (inl s) =
    in_left (thing is_item name, g) (report_in is_item e.0 e.1) (reports_in is_item es)
    (subst (λ (p : List ℕ × Option Received). (thing is_item name, g) ∈ report_in is_item p.0 p.1)
    (sym s) (inl refl))
entry_report is_item (e ∷ es) name g (inr j) =
    in_right (thing is_item name, g) (report_in is_item e.0 e.1) (reports_in is_item es)
    (entry_report is_item es name g j)

-- ---- in order

abbrev IsReportBefore : Thing × Received → Thing × Received → Type 0
IsReportBefore a b = IsBelow thing_cmp a.0 b.0

by_name : (is_item : Bool) (a b : List ℕ) → IsBelow bytes_cmp a b
    → IsBelow thing_cmp (thing is_item a) (thing is_item b)
by_name false a b h = h
by_name true a b h = h

items_later : (a b : Thing) → a.is_item ≡ false → b.is_item ≡ true → IsBelow thing_cmp a b
items_later a b e f =
    ap (λ o. ordering_then o (bytes_cmp a.name b.name))
    (ap (λ t. bool_cmp t b.is_item) e ∙ ap (bool_cmp false) f)

report_first : (is_item : Bool) (name : List ℕ) (known : Option Received)
    (later : List (Thing × Received))
    → ((x : Thing × Received) → x ∈ later → IsBelow thing_cmp (thing is_item name) x.0)
    → Ordered IsReportBefore later → Ordered IsReportBefore (report_in is_item name known ++ later)
report_first is_item name None later f o = o
report_first is_item name (Some g) later f o = (f, o)

reports_ascend : (is_item : Bool) (es : Entries) → Ordered IsEntryBefore es
    → Ordered IsReportBefore (reports_in is_item es)
reports_ascend is_item [] o = tt
reports_ascend is_item (e ∷ es) o =
    report_first is_item e.0 e.1 (reports_in is_item es)
    (λ x m. let r = report_entry is_item es x.0 x.1 m in
    subst (λ (b : Bool). IsBelow thing_cmp (thing is_item e.0) (thing b x.0.name)) (sym r.0)
    (by_name is_item e.0 x.0.name (o.0 (x.0.name, Some x.1) r.1)))
    (reports_ascend is_item es o.1)

both_ordered : {X : Type 0} (R : X → X → Type 0) (xs ys : List X) → Ordered R xs → Ordered R ys
    → ((x y : X) → x ∈ xs → y ∈ ys → R x y) → Ordered R (xs ++ ys)
both_ordered R [] ys o p f = p
both_ordered R (x ∷ xs) ys o p f = (
  λ y h. elim (in_either y xs ys h) [ inl j ↦ o.0 y j | inr j ↦ f x y (inl refl) j ],
  both_ordered R xs ys o.1 p (λ a b m n. f a b (inr m) n),
)

named_ascend : (xs : List Named) → Ordered IsReportBefore (map shown_report xs)
    → Ordered IsNamedBefore xs
named_ascend [] o = tt
named_ascend (x ∷ xs) o = (
  λ y m. o.0 (shown_report y) (in_map shown_report y xs m),
  named_ascend xs o.1,
)

-- ---- the reports of both indexes

abbrev all_reports : FourIndexes → List (Thing × Received)
all_reports i = reports_in false i.objects ++ reports_in true i.items

abbrev known_of : FourIndexes → Thing → Option Received
known_of i t = known_at t.name (index_of (topic_of t.is_item) i)

known_report : (i : FourIndexes) (is_item : Bool) (name : List ℕ) (g : Received)
    → known_of i (thing is_item name) ≡ Some g → (thing is_item name, g) ∈ all_reports i
known_report i false name g h =
    in_left (thing false name, g) (reports_in false i.objects) (reports_in true i.items)
    (entry_report false i.objects name g (known_entry i.objects name g h))
known_report i true name g h =
    in_right (thing true name, g) (reports_in false i.objects) (reports_in true i.items)
    (entry_report true i.items name g (known_entry i.items name g h))

module _ (i : FourIndexes) (o : Ordered IsEntryBefore i.objects)
    (p : Ordered IsEntryBefore i.items) where
  report_known : (t : Thing) (g : Received) → (t, g) ∈ all_reports i → known_of i t ≡ Some g
  report_known t g h =
      elim (in_either (t, g) (reports_in false i.objects) (reports_in true i.items) h) [
        | inl j ↦
            let r = report_entry false i.objects t g j in
            ap (λ b. known_at t.name (index_of (topic_of b) i)) r.0
            ∙ entry_is_known i.objects t.name g o r.1
        | inr j ↦
            let r = report_entry true i.items t g j in
            ap (λ b. known_at t.name (index_of (topic_of b) i)) r.0
            ∙ entry_is_known i.items t.name g p r.1
      ]

  all_ascend : Ordered IsReportBefore (all_reports i)
  all_ascend =
      both_ordered IsReportBefore (reports_in false i.objects) (reports_in true i.items)
      (reports_ascend false i.objects o) (reports_ascend true i.items p)
      (λ x y m n. items_later x.0 y.0 (report_entry false i.objects x.0 x.1 m).0
      (report_entry true i.items y.0 y.1 n).0)

  -- ---- of a set

  module _ (gap : ℕ) (S : List Received) (rows : List Row) (b : BookOf gap S rows)
      (h : AreIndexesOf rows i) (xs : List Named) (e : map shown_report xs ≡ all_reports i) where
    last_known : (t : Thing) → LastKnown S (Passes (reports_thing t)) (known_of i t)
    last_known t =
        entry_reports gap rows (reports_thing t) (known_of i t) (h (topic_of t.is_item) t.name) S b

    best : (x : Named) → x ∈ xs → IsBest S (ReportsOf (shown_thing x)) x.heard
    best x m =
        let t = shown_thing x in
        let known =
        report_known t x.heard
        (subst (λ (l : List (Thing × Received)). shown_report x ∈ l) e (in_map shown_report x xs m)) in
        let g : IsBest S (Passes (reports_thing t)) x.heard =
        subst (LastKnown S (Passes (reports_thing t))) known (last_known t) in
        record {
          member = g.member;
          property = reports_of t (key_of x.heard.frame) g.property;
          greatest = λ s n q. g.greatest s n (reports_by t (key_of s.frame) q);
        }

    reported_of : (t : Thing) → (x : Named) × (x ∈ xs) × (shown_thing x ≡ t)
        → (s : Received) × (s ∈ S) × ReportsOf t (key_of s.frame)
    reported_of t n =
        let k = best n.0 n.1 in
        let reported = subst (λ (u : Thing). ReportsOf u (key_of n.0.heard.frame)) n.2 k.property in
        (n.0.heard, k.member, reported)

    listed_of : (t : Thing) → (s : Received) × (s ∈ S) × ReportsOf t (key_of s.frame)
        → (x : Named) × (x ∈ xs) × (shown_thing x ≡ t)
    listed_of t n = there (known_of i t) refl (last_known t) where
      there : (known : Option Received) → known_of i t ≡ known
          → LastKnown S (Passes (reports_thing t)) known
          → (x : Named) × (x ∈ xs) × (shown_thing x ≡ t)
      there None k none = absurd (none n.0 n.1 (reports_by t (key_of n.0.frame) n.2))
      there (Some g) k h =
          let m =
          subst (λ (l : List (Thing × Received)). (t, g) ∈ l) (sym e)
          (known_report i t.is_item t.name g k) in
          let f = from_map shown_report (t, g) xs m in
          (f.0, f.1, ap (λ (r : Thing × Received). r.0) f.2)

    named_of_set : AreNamed S xs
    named_of_set = record {
      ascending = named_ascend xs (subst (Ordered IsReportBefore) (sym e) all_ascend);
      things = λ t. (reported_of t, listed_of t);
      each = best;
    }

-- whichever list shows what the indexes know
pub named_of_indexes : (gap : ℕ) (rows : List Row) (i : FourIndexes) → AreIndexesOf rows i
    → Ordered IsEntryBefore (index_of objects i) → Ordered IsEntryBefore (index_of items i)
    → (xs : List Named) → map shown_report xs ≡ reports_in false (index_of objects i)
    ++ reports_in true (index_of items i) → ReportsNamed gap rows xs
named_of_indexes gap rows i h o p xs e = λ S b. named_of_set i o p gap S rows b h xs e
