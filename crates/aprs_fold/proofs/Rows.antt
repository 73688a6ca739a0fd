-- Rows that stand in a text are cut at a source.
use Rattle.std.proofs.Common.{◌≡◌, ◌≤◌, ◌<◌, ◌^◌, ◌+◌, ◌∙◌, ◌⊎◌, ℕ, Bool, true, false, List, [], ◌∷◌, ◌++◌, length, map, drop, Option, None, Some, inl, inr, refl, sym, ap, subst, append_assoc, append-nil, length-append, arith}
use Rattle.std.proofs.lemmas.Cmp.{upto}
use Rattle.std.proofs.lemmas.List.Concat.{flat_map-append}
use Rattle.std.proofs.lemmas.List.Elements.{All-head, All-tail}
use Rattle.std.specs.Prelude.{All}
use Rattle.std.specs.Ordering.{is_gt, is_lt, ordering_reverse}
use Rattle.std.specs.declared.cmp.Ordering.{Ordering}
use Rattle.std.specs.declared.cmp.Ordering.TheVariants.{Less, Equal, Greater}
use Rattle.aprs_ax25.specs.Callsign.{Call, call_cmp}
use Rattle.aprs_log.specs.LogText.{text_of_lines}
use Rattle.aprs_log.specs.declared.moment_form.MomentForm.{MomentForm}
use Rattle.aprs_transmissions.proofs.Lists.{in_right}
use Rattle.aprs_transmissions.proofs.Orders.{call_total}
use Rattle.aprs_transmissions.specs.Lists.{Ordered, ◌∈◌}
use Rattle.aprs_transmissions.specs.Order.{IsBelow}
use Rattle.aprs_transmissions.specs.Row.{Row, row_cmp, row_key}
use Rattle.aprs_bookfile.proofs.OneText.{All-middle, end_lacks, row_lacks}
use Rattle.aprs_bookfile.specs.Text.{IsBookRow, end_line, row_line}
use Rattle.aprs_fold.proofs.Parts.{row_sources}
use Rattle.aprs_fold.specs.Range.{is_until}
use Rattle.aprs_fold.specs.Cuts.{BeginsLine, CutsRows, EndsBefore, IsCutAt, IsLow, RowsStand}
use Rattle.aprs_fold.specs.Lines.{IsJudged, IsLineAt, ReadsLine}
use Rattle.aprs_fold.proofs.Lines.{after_part}
use Rattle.aprs_fold.proofs.Places.{AllLack, BeginsWith, IsPlace, line_there, place_after, place_start}

-- ---- the order of sources

reversed_lt : (o : Ordering) → is_lt (ordering_reverse o) ≡ is_gt o
reversed_lt Less = refl
reversed_lt Equal = refl
reversed_lt Greater = refl

-- a source that comes before another has it after itself
pub before_other : (source end : Call) → is_lt (call_cmp source end) ≡ is_gt (call_cmp end source)
before_other source end = ap is_lt (call_total.antisymm source end)
    ∙ reversed_lt (call_cmp end source)

-- what is before a row whose source comes before the end does so too
until_below : (end : Option Call) (x y : Row) → IsBelow row_cmp x y
    → is_until end (row_key y).source ≡ true → is_until end (row_key x).source ≡ true
until_below None x y h k = refl
until_below (Some end) x y h k =
    before_other (row_key x).source end ∙ by (is_gt (call_cmp end (row_key x).source)) refl where
      by : (b : Bool) → is_gt (call_cmp end (row_key x).source) ≡ b → b ≡ true
      by true e = refl
      by false e = absurd (let f = sym k ∙ before_other (row_key y).source end
          ∙ upto call_total end (row_key x).source (row_key y).source e (row_sources x y h) in cc)

not_true : (b : Bool) → (b ≡ true → ⊥) → b ≡ false
not_true true h = absurd (h refl)
not_true false h = refl

-- ---- rows in order

all_before : (end : Option Call) (xs : List Row) (z : Row) (ys : List Row)
    → Ordered (IsBelow row_cmp) (xs ++ z ∷ ys) → is_until end (row_key z).source ≡ true
    → (x : Row) → x ∈ (xs ++ z ∷ []) → is_until end (row_key x).source ≡ true
all_before end [] z ys h k x m = elim m [
  | inl same ↦ ap (λ (r : Row). is_until end (row_key r).source) (sym same) ∙ k
  | inr none ↦ absurd none
]
all_before end (w ∷ xs) z ys h k x m = elim m [
  | inl same ↦ ap (λ (r : Row). is_until end (row_key r).source) (sym same)
      ∙ until_below end w z (h.0 z (in_right z xs (z ∷ ys) (inl refl))) k
  | inr more ↦ all_before end xs z ys h.1 k x more
]

none_after : (end : Option Call) (y : Row) (ys : List Row) → Ordered (IsBelow row_cmp) (y ∷ ys)
    → is_until end (row_key y).source ≡ false → (x : Row) → x ∈ (y ∷ ys)
    → is_until end (row_key x).source ≡ false
none_after end y ys h k x m = elim m [
  | inl same ↦ ap (λ (r : Row). is_until end (row_key r).source) (sym same) ∙ k
  | inr more ↦ not_true (is_until end (row_key x).source) (λ t.
      let f = sym k ∙ until_below end y x (h.0 x more) t in absurd (cc))
]

pub ordered_right : (a b : List Row) → Ordered (IsBelow row_cmp) (a ++ b)
    → Ordered (IsBelow row_cmp) b
ordered_right [] b h = h
ordered_right (x ∷ a) b h = ordered_right a b h.1

pub all_right : (P : Row → Type 0) (a b : List Row) → All P (a ++ b) → All P b
all_right P [] b h = h
all_right P (x ∷ a) b h = all_right P a b (All-tail P x (a ++ b) h)

-- ---- lines of rows

pub rows_lack : (form : MomentForm) (rows : List Row) (n : ℕ) → n < 2 ^ 64
    → All (IsBookRow form) rows → AllLack (map (row_line form) rows ++ end_line n ∷ [])
rows_lack form [] n small h = (end_lacks n small, tt)
rows_lack form (x ∷ rows) n small h = (
  row_lacks form x (All-head (IsBookRow form) x rows h).spelled,
  rows_lack form rows n small (All-tail (IsBookRow form) x rows h),
)

no_lines : (a b : List (List ℕ)) (r : List ℕ) → [] ≡ a ++ r ∷ b → ⊥
no_lines [] b r e = cc
no_lines (l ∷ a) b r e = cc

-- rows are split where their lines are
record SplitsAt (form : MomentForm) (last : List ℕ) (rows : List Row) (a : List (List ℕ))
    (r : List ℕ) (b : List (List ℕ)) : Type 0 where
  pub first : List Row
  pub rest : List Row
  pub whole : rows ≡ first ++ rest
  pub first_is : map (row_line form) first ≡ a
  pub rest_is : map (row_line form) rest ++ last ∷ [] ≡ r ∷ b

split_at : (form : MomentForm) (last : List ℕ) (rows : List Row) (a : List (List ℕ)) (r : List ℕ)
    (b : List (List ℕ)) → map (row_line form) rows ++ last ∷ [] ≡ a ++ r ∷ b
    → SplitsAt form last rows a r b
split_at form last rows [] r b h =
    record { first = []; rest = rows; whole = refl; first_is = refl; rest_is = h }
split_at form last [] (l ∷ a) r b h =
    let none : [] ≡ a ++ r ∷ b = cc in
    absurd (no_lines a b r none)
split_at form last (x ∷ rows) (l ∷ a) r b h =
    let head : row_line form x ≡ l = cc in
    let tail : map (row_line form) rows ++ last ∷ [] ≡ a ++ r ∷ b = cc in
    let s = split_at form last rows a r b tail in
    record {
      first = x ∷ s.first;
      rest = s.rest;
      whole = ap (λ l. x ∷ l) s.whole;
      first_is = ap (λ t. t ∷ map (row_line form) s.first) head ∙ ap (λ t. l ∷ t) s.first_is;
      rest_is = s.rest_is;
    }

none_of : (form : MomentForm) (rows : List Row) → map (row_line form) rows ≡ [] → rows ≡ []
none_of form [] e = refl
none_of form (x ∷ rows) e = absurd (cc)

-- the last row of lines that end with this one
record EndsWith (form : MomentForm) (rows : List Row) (line : List ℕ) : Type 0 where
  pub before : List Row
  pub last : Row
  pub whole : rows ≡ before ++ last ∷ []
  pub line_is : line ≡ row_line form last

ends_with : (form : MomentForm) (rows : List Row) (a : List (List ℕ)) (line : List ℕ)
    → map (row_line form) rows ≡ a ++ line ∷ [] → EndsWith form rows line
ends_with form [] a line h = absurd (no_lines a [] line h)
ends_with form (x ∷ rows) [] line h =
    let head : line ≡ row_line form x = cc in
    let none : map (row_line form) rows ≡ [] = cc in
    record {
      before = [];
      last = x;
      whole = ap (λ l. x ∷ l) (none_of form rows none);
      line_is = head;
    }
ends_with form (x ∷ rows) (l ∷ a) line h =
    let tail : map (row_line form) rows ≡ a ++ line ∷ [] = cc in
    let e = ends_with form rows a line tail in
    record {
      before = x ∷ e.before;
      last = e.last;
      whole = ap (λ l. x ∷ l) e.whole;
      line_is = e.line_is;
    }

-- ---- a line that was judged, and the place after it

-- the place where a bisection ends, and the line before it
record IsLowPlace (end : Option Call) (lines : List (List ℕ)) (bytes : List ℕ) (start low : ℕ)
    : Type 0 where
  pub place : IsPlace lines bytes start low
  pub last : (place.first ≡ [])
      ⊎ ((a : List (List ℕ)) × (line : List ℕ) × (place.first ≡ a ++ line ∷ [])
      × IsJudged end line true)

module _ (end : Option Call) (lines : List (List ℕ)) (bytes : List ℕ) (start : ℕ)
    (stand : drop start bytes ≡ text_of_lines lines) (lack : AllLack lines) where
  begins_place : (at : ℕ) → BeginsLine bytes start at → IsPlace lines bytes start at
  begins_place at b = elim b [
    | inl same ↦ subst (IsPlace lines bytes start) (sym same)
        (place_start lines bytes start stand lack)
    | inr far ↦ place_after lines bytes start stand lack far.0 far.1 at far.2 far.3
  ]

  after_judged : (low : ℕ) (b : EndsBefore end bytes start low)
      (p : IsPlace lines bytes start b.at) → BeginsWith p.rest b.line b.reads.0.after
      → IsLowPlace end lines bytes start low
  after_judged low b p w = record {
    place = record {
      first = p.first ++ b.line ∷ [];
      rest = w.more;
      is = p.is ∙ ap (λ l. p.first ++ l) w.is ∙ sym (append_assoc p.first (b.line ∷ []) w.more);
      place = b.reads.1 ∙ omega (arith, p.place, sizes);
      stand = ap (λ n. drop n bytes) (b.reads.1 ∙ far) ∙ past ∙ sym w.text;
    };
    last = inr (p.first, b.line, refl, b.judged);
  } where
    sizes : length (text_of_lines (p.first ++ b.line ∷ []))
        ≡ length (text_of_lines p.first) + (length b.line + 1)
    sizes = ap length (flat_map-append (λ l. l ++ 10 ∷ []) p.first (b.line ∷ []))
        ∙ length-append (text_of_lines p.first) (text_of_lines (b.line ∷ []))
        ∙ ap (λ n. length (text_of_lines p.first) + n)
        (ap length (append-nil (b.line ++ 10 ∷ [])) ∙ length-append b.line (10 ∷ []))

    far : b.at + length b.line + 1 ≡ b.at + length (b.line ++ 10 ∷ [])
    far = omega (arith, length-append b.line (10 ∷ []))

    past : drop (b.at + length (b.line ++ 10 ∷ [])) bytes ≡ b.reads.0.after
    past = after_part bytes b.at (b.line ++ 10 ∷ []) b.reads.0.after
        (b.reads.0.is ∙ sym (append_assoc b.line (10 ∷ []) b.reads.0.after))

  low_place : (low : ℕ) → IsLow end bytes start low → IsLowPlace end lines bytes start low
  unfolding place_start
  low_place low is_low = elim is_low [
    | inl same ↦ subst (IsLowPlace end lines bytes start) (sym same)
        (record { place = place_start lines bytes start stand lack; last = inl refl })
    | inr b ↦
        let p = begins_place b.at b.begins in
        after_judged low b p (line_there lines bytes start b.at b.line p lack b.reads.0)
  ]

-- ---- cuts

module _ (end : Option Call) (bytes : List ℕ) (start low : ℕ) (line : List ℕ)
    (there : IsLineAt bytes low line) (judged : IsJudged end line false) (form : MomentForm)
    (rows : List Row) (n : ℕ) (h : RowsStand form rows n bytes start) where
  abbrev lines : List (List ℕ)
  lines = map (row_line form) rows ++ end_line n ∷ []

  before_low : (first rest : List Row) → rows ≡ first ++ rest → (a : List (List ℕ))
      → map (row_line form) first ≡ a
      → (a ≡ []) ⊎ ((b : List (List ℕ)) × (line : List ℕ) × (a ≡ b ++ line ∷ [])
      × IsJudged end line true)
      → (x : Row) → x ∈ first → is_until end (row_key x).source ≡ true
  before_low first rest whole a is last x m = elim last [
    | inl none ↦ absurd (subst (λ l. x ∈ l) (none_of form first (is ∙ none)) m)
    | inr some ↦
        let e = ends_with form first some.0 some.1 (is ∙ some.2) in
        let cut : rows ≡ e.before ++ e.last ∷ rest = whole ∙ ap (λ l. l ++ rest) e.whole
        ∙ append_assoc e.before (e.last ∷ []) rest in
        let own = All-middle (IsBookRow form) e.before e.last rest
        (subst (All (IsBookRow form)) cut h.each) in
        all_before end e.before e.last rest (subst (Ordered (IsBelow row_cmp)) cut h.ascending)
        (sym (some.3.row form e.last own e.line_is)) x (subst (λ l. x ∈ l) e.whole m)
  ]

  after_low : (rest : List Row) (more : List (List ℕ)) → All (IsBookRow form) rest
      → Ordered (IsBelow row_cmp) rest
      → map (row_line form) rest ++ end_line n ∷ [] ≡ line ∷ more
      → (x : Row) → x ∈ rest → is_until end (row_key x).source ≡ false
  after_low [] more each asc e x m = absurd m
  after_low (y ∷ rest) more each asc e x m =
      let is : line ≡ row_line form y = cc in
      none_after end y rest asc
      (sym (judged.row form y (All-head (IsBookRow form) y rest each) is)) x m

  cut_here : (p : IsLowPlace end lines bytes start low)
      → BeginsWith p.place.rest line there.after
      → IsCutAt (is_until end) form rows n bytes start low
  cut_here p w = build (split_at form (end_line n) rows p.place.first line w.more
      (p.place.is ∙ ap (λ l. p.place.first ++ l) w.is)) where
        build : SplitsAt form (end_line n) rows p.place.first line w.more
            → IsCutAt (is_until end) form rows n bytes start low
        build s = record {
          first = s.first;
          rest = s.rest;
          whole = s.whole;
          place = p.place.place
              ∙ ap (λ l. start + length (text_of_lines l)) (sym s.first_is);
          before = before_low s.first s.rest s.whole p.place.first s.first_is p.last;
          after = after_low s.rest w.more
              (all_right (IsBookRow form) s.first s.rest (subst (All (IsBookRow form)) s.whole h.each))
              (ordered_right s.first s.rest
              (subst (Ordered (IsBelow row_cmp)) s.whole h.ascending)) s.rest_is;
          stand = record {
            stand = p.place.stand ∙ ap text_of_lines (w.is ∙ sym s.rest_is);
            each = all_right (IsBookRow form) s.first s.rest
                (subst (All (IsBookRow form)) s.whole h.each);
            ascending = ordered_right s.first s.rest
                (subst (Ordered (IsBelow row_cmp)) s.whole h.ascending);
            small = h.small;
          };
        }

  cut_low : IsLow end bytes start low → IsCutAt (is_until end) form rows n bytes start low
  cut_low is_low =
      let lack = rows_lack form rows n h.small h.each in
      let p = low_place end lines bytes start h.stand lack low is_low in
      cut_here p (line_there lines bytes start low line p.place lack there)

pub cuts : (end : Option Call) (bytes : List ℕ) (start low : ℕ) (line : List ℕ)
    → IsLow end bytes start low → IsLineAt bytes low line → IsJudged end line false
    → CutsRows (is_until end) bytes start low
cuts end bytes start low line is_low there judged form rows n h =
    cut_low end bytes start low line there judged form rows n h is_low

-- ---- steps of a bisection

pub low_le : (end : Option Call) (bytes : List ℕ) (start low : ℕ) → IsLow end bytes start low
    → start ≤ low
low_le end bytes start low h = elim h [
  | inl same ↦ omega (arith, same)
  | inr b ↦ elim b.begins [
    | inl same ↦ omega (arith, same, b.reads.1)
    | inr far ↦ omega (arith, far.2, far.3.1, b.reads.1)
  ]
]

begins_low : (end : Option Call) (bytes : List ℕ) (start low at : ℕ)
    → IsLow end bytes start low → BeginsLine bytes low at → BeginsLine bytes start at
begins_low end bytes start low at is_low b = elim b [
  | inl same ↦ elim is_low [
    | inl first ↦ inl (same ∙ first)
    | inr e ↦ inr (
      e.at,
      e.line,
      (elim e.begins [
        | inl there ↦ omega (arith, there)
        | inr far ↦ omega (arith, far.2, far.3.1)
      ]),
      (e.reads.0, same ∙ e.reads.1),
    )
  ]
  | inr far ↦ inr (
    far.0,
    far.1,
    (let le = low_le end bytes start low is_low in omega (arith, le, far.2)),
    far.3,
  )
]

pub low_next : (end : Option Call) (bytes : List ℕ) (start low at next : ℕ) (line : List ℕ)
    → IsLow end bytes start low → BeginsLine bytes low at → ReadsLine bytes at line next
    → IsJudged end line true → IsLow end bytes start next
low_next end bytes start low at next line is_low b r judged = inr (record {
  at = at;
  line = line;
  begins = begins_low end bytes start low at is_low b;
  reads = r;
  judged = judged;
})
