-- The rows of a range that is cut at a source are those of its parts, one after another.
use Rattle.aprs_fold.proofs.Common.{◌≡◌, ◌∙◌, Bool, true, false, cond, List, [], ◌∷◌, ◌++◌, Option, None, Some, inl, inr, refl, sym, ap, Row, row_cmp, IsBelow, Ordered, upto, ◌∈◌}
use Rattle.std.proofs.Common.{ap₂}
use Rattle.std.proofs.Math.Bool.{and-false}
use Rattle.std.specs.Prelude.{not, ◌&&◌}
use Rattle.std.specs.List.{filter}
use Rattle.std.specs.Ordering.{is_gt, is_le, is_lt, nat_cmp, ordering_reverse, ordering_then}
use Rattle.std.specs.declared.cmp.Ordering.{Ordering}
use Rattle.std.specs.declared.cmp.Ordering.TheVariants.{Less, Equal, Greater}
use Rattle.aprs_ax25.specs.Callsign.{Call, call_cmp}
use Rattle.aprs_log.specs.Reception.{bytes_cmp}
use Rattle.aprs_transmissions.specs.Key.{Key, key_cmp}
use Rattle.aprs_transmissions.specs.Row.{row_key}
use Rattle.aprs_transmissions.proofs.Orders.{call_total}
use Rattle.aprs_fold.specs.Range.{is_from, is_until, is_within, rows_of_sources, PartsAreWhole}
use Rattle.aprs_fold.specs.declared.range.SourceRange.{SourceRange}
use Rattle.aprs_fold.proofs.Kept.{is_row_within}

-- ---- filters

module _ {X : Type 0} (p q : X → Bool) where
  filters_agree : (xs : List X) → ((x : X) → x ∈ xs → p x ≡ q x) → filter p xs ≡ filter q xs
  filters_agree [] h = refl
  filters_agree (x ∷ xs) h = ap₂ (λ b l. cond b (x ∷ l) l) (h x (inl refl))
      (filters_agree xs (λ y k. h y (inr k)))

filters_none : {X : Type 0} (p : X → Bool) (xs : List X) → ((x : X) → x ∈ xs → p x ≡ false)
    → filter p xs ≡ []
filters_none p [] h = refl
filters_none p (x ∷ xs) h = ap₂ (λ b l. cond b (x ∷ l) l) (h x (inl refl))
    (filters_none p xs (λ y k. h y (inr k)))

cond_append : {X : Type 0} (b : Bool) (x : X) (xs ys : List X)
    → cond b (x ∷ xs) xs ++ ys ≡ cond b (x ∷ (xs ++ ys)) (xs ++ ys)
cond_append true x xs ys = refl
cond_append false x xs ys = refl

-- ---- the order of sources

reversed_lt : (o : Ordering) → is_lt (ordering_reverse o) ≡ is_gt o
reversed_lt Less = refl
reversed_lt Equal = refl
reversed_lt Greater = refl

reversed_gt : (o : Ordering) → is_gt o ≡ true → is_gt (ordering_reverse o) ≡ false
reversed_gt Less h = absurd (cc)
reversed_gt Equal h = absurd (cc)
reversed_gt Greater h = refl

le_not_gt : (o : Ordering) → is_le o ≡ not (is_gt o)
le_not_gt Less = refl
le_not_gt Equal = refl
le_not_gt Greater = refl

-- a source that doesn't come before the end comes after it
before_end : (source end : Call) → is_lt (call_cmp source end) ≡ is_gt (call_cmp end source)
before_end source end = ap is_lt (call_total.antisymm source end)
    ∙ reversed_lt (call_cmp end source)

not_true : (b : Bool) → not b ≡ true → b ≡ false
not_true true h = absurd (cc)
not_true false h = refl

-- the range goes on to the cut, and so has what is from its first up to there
until_there : (end : Option Call) (cut source : Call) → is_until end cut ≡ true
    → is_gt (call_cmp cut source) ≡ true → is_until end source ≡ true
until_there None cut source h k = refl
until_there (Some end) cut source h k =
    before_end source end ∙ by (is_gt (call_cmp end source)) refl where
      back : is_gt (call_cmp source cut) ≡ false
      back = ap is_gt (call_total.antisymm source cut) ∙ reversed_gt (call_cmp cut source) k

      by : (b : Bool) → is_gt (call_cmp end source) ≡ b → b ≡ true
      by true e = refl
      by false e = absurd (let f = sym (sym (before_end cut end) ∙ h)
          ∙ upto call_total end source cut e back in cc)

from_there : (first : Option Call) (cut source : Call) → is_from first cut ≡ true
    → is_gt (call_cmp cut source) ≡ false → is_from first source ≡ true
from_there None cut source h k = refl
from_there (Some first) cut source h k =
    le_not_gt (call_cmp first source)
    ∙ ap not (upto call_total first cut source
    (not_true (is_gt (call_cmp first cut)) (sym (le_not_gt (call_cmp first cut)) ∙ h)) k)

-- ---- rows in order have sources in order

first_order : (a b : Ordering) → ordering_then a b ≡ Less
    → is_gt a ≡ false
first_order Less b h = refl
first_order Equal b h = refl
first_order Greater b h = absurd (cc)

first_not_gt : (a b : Ordering) → is_gt (ordering_then a b) ≡ false → is_gt a ≡ false
first_not_gt Less b h = refl
first_not_gt Equal b h = refl
first_not_gt Greater b h = h

key_sources : (k l : Key) → is_gt (key_cmp k l) ≡ false
    → is_gt (call_cmp k.source l.source) ≡ false
unfolding key_cmp
key_sources k l h = first_not_gt (call_cmp k.source l.source)
    (ordering_then (call_cmp k.destination l.destination) (bytes_cmp k.info l.info)) h

pub row_sources : (x y : Row) → IsBelow row_cmp x y
    → is_gt (call_cmp (row_key x).source (row_key y).source) ≡ false
row_sources x y h = key_sources (row_key x) (row_key y)
    (first_order (key_cmp (row_key x) (row_key y)) (nat_cmp x.first y.first) h)

-- ---- the law

and_both : (a b : Bool) → (a && b) ≡ true → (a ≡ true) × (b ≡ true)
and_both true b h = (refl, h)
and_both false b h = absurd (cc)

module _ (range : SourceRange) (cut : Call) (there : is_within range cut ≡ true) where
  abbrev before : SourceRange
  before = record range { until = Some cut }

  abbrev after : SourceRange
  after = record range { from = Some cut }

  lower : (x : Row) → is_gt (call_cmp cut (row_key x).source) ≡ true
      → (is_row_within before x ≡ is_row_within range x) × (is_row_within after x ≡ false)
  lower x g =
      let source = (row_key x).source in
      let goes_on = (and_both (is_from range.from cut) (is_until range.until cut) there).1 in (
        ap (λ b. is_from range.from source && b) (before_end source cut ∙ g
            ∙ sym (until_there range.until cut source goes_on g)),
        ap (λ b. b && is_until range.until source) (le_not_gt (call_cmp cut source) ∙ ap not g),
      )

  upper : (x : Row) → is_gt (call_cmp cut (row_key x).source) ≡ false
      → (is_row_within before x ≡ false) × (is_row_within after x ≡ is_row_within range x)
  upper x g =
      let source = (row_key x).source in
      let begins = (and_both (is_from range.from cut) (is_until range.until cut) there).0 in (
        ap (λ b. is_from range.from source && b) (before_end source cut ∙ g)
            ∙ and-false (is_from range.from source),
        ap (λ b. b && is_until range.until source) (le_not_gt (call_cmp cut source) ∙ ap not g
            ∙ sym (from_there range.from cut source begins g)),
      )

  later : (x y : Row) (rows : List Row) → Ordered (IsBelow row_cmp) (x ∷ rows)
      → is_gt (call_cmp cut (row_key x).source) ≡ false → y ∈ (x ∷ rows)
      → is_gt (call_cmp cut (row_key y).source) ≡ false
  later x y rows h g k = elim k [
    | inl same ↦ ap (λ (z : Row). is_gt (call_cmp cut (row_key z).source)) (sym same) ∙ g
    | inr more ↦ upto call_total cut (row_key x).source (row_key y).source g
        (row_sources x y (h.0 y more))
  ]

  parts_are : (rows : List Row) → Ordered (IsBelow row_cmp) rows
      → rows_of_sources before rows ++ rows_of_sources after rows ≡ rows_of_sources range rows
  parts_are [] h = refl
  parts_are (x ∷ rows) h =
      by (is_gt (call_cmp cut (row_key x).source)) refl (parts_are rows h.1) where
        low : List Row
        low = rows_of_sources before rows

        high : List Row
        high = rows_of_sources after rows

        by : (b : Bool) → is_gt (call_cmp cut (row_key x).source) ≡ b
            → low ++ high ≡ rows_of_sources range rows
            → rows_of_sources before (x ∷ rows) ++ rows_of_sources after (x ∷ rows)
            ≡ rows_of_sources range (x ∷ rows)
        by true g more =
            let own = lower x g in
            ap₂ (λ b c. cond b (x ∷ low) low ++ cond c (x ∷ high) high) own.0 own.1
            ∙ cond_append (is_row_within range x) x low high
            ∙ ap (λ l. cond (is_row_within range x) (x ∷ l) l) more
        by false g more = ap₂ (λ l m. l ++ m)
            (filters_none (is_row_within before) (x ∷ rows)
            (λ y k. (upper y (later x y rows h g k)).0))
            (filters_agree (is_row_within after) (is_row_within range) (x ∷ rows)
            (λ y k. (upper y (later x y rows h g k)).1))

pub parts_are_whole : PartsAreWhole
parts_are_whole range cut rows there h = parts_are range cut there rows h
