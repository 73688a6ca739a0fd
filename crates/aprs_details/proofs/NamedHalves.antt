-- The halves that the letters of a position name are those of its numbers.
use Rattle.aprs_details.proofs.Common.{Bool, true, false, ◌≡◌, ℕ, ℤ, List, [], ◌∷◌, ◌++◌, ◌+◌, ◌-◌, ◌*◌, length, get_or, refl, sym, ap, subst, ◌∙◌, arith}
use Rattle.std.specs.Prelude.{slice_index, ◌==◌}
use Rattle.std.proofs.lemmas.List.{get_or-append-add, length-append}
use Rattle.aprs_report.specs.declared.symbol.Symbol.{Symbol}
use Rattle.aprs_report.specs.declared.place.coordinate.Axis.TheVariants.{Latitude, Longitude}
use Rattle.aprs_report.specs.Coordinate.{letter, minutes_text, with_sign, per_degree}
use Rattle.aprs_report.specs.Place.{IsPlainPlace}
use Rattle.aprs_details.specs.Halves.{before_comment, halves_of, HasSign}

-- The byte that stands n before the comment is the k-th of a text of n + k bytes right before it.
byte_of_text : (before text comment : List ℕ) (n k : ℕ) → length text ≡ n + k →
    before_comment (before ++ (text ++ comment)) comment n ≡ slice_index (text ++ comment) k
byte_of_text before text comment n k e =
    let i : length (before ++ (text ++ comment)) - length comment - n ≡ length before + k =
    omega (arith, length-append before (text ++ comment), length-append text comment, e) in
    ap (λ (j : ℕ). get_or (before ++ (text ++ comment)) j 0) i
    ∙ get_or-append-add before (text ++ comment) k 0

-- The text has 19 bytes, and these letters at their places.
record Letters (north east : ℕ) (text comment : List ℕ) : Type 0 where
  all : length text ≡ 19
  north_there : slice_index (text ++ comment) 7 ≡ north
  east_there : slice_index (text ++ comment) 17 ≡ east

letters : (first second : List ℕ) (a b c d north table e f g h east code : ℕ) (comment : List ℕ) →
    length first ≡ 2 → length second ≡ 3 → Letters north east
    ((first ++ minutes_text a b c d north)
    ++ (table ∷ ((second ++ minutes_text e f g h east) ++ code ∷ []))) comment
letters [] second a b c d north table e f g h east code comment two three = absurd cc
letters (u ∷ []) second a b c d north table e f g h east code comment two three = absurd cc
letters (u ∷ v ∷ w ∷ more) second a b c d north table e f g h east code comment two three =
    absurd (omega (arith, two))
letters (u ∷ v ∷ []) [] a b c d north table e f g h east code comment two three = absurd cc
letters (u ∷ v ∷ []) (x ∷ []) a b c d north table e f g h east code comment two three = absurd cc
letters (u ∷ v ∷ []) (x ∷ y ∷ []) a b c d north table e f g h east code comment two three = absurd cc
letters (u ∷ v ∷ []) (x ∷ y ∷ z ∷ w ∷ more) a b c d north table e f g h east code comment two three =
    absurd (omega (arith, three))
letters (u ∷ v ∷ []) (x ∷ y ∷ z ∷ []) a b c d north table e f g h east code comment two three = record {
  all = refl;
  north_there = refl;
  east_there = refl;
}

is_south : (b : Bool) → (letter Latitude b == 83) ≡ b
is_south true = refl
is_south false = refl

is_west : (b : Bool) → (letter Longitude b == 87) ≡ b
is_west true = refl
is_west false = refl

pub halves_told : (before text comment : List ℕ) (lat lon : ℤ) (ambiguity : ℕ) (symbol : Symbol) →
    IsPlainPlace lat lon ambiguity symbol text →
    HasSign (halves_of (before ++ (text ++ comment)) comment).is_south lat
    × HasSign (halves_of (before ++ (text ++ comment)) comment).is_west lon
halves_told before text comment lat lon ambiguity symbol place =
    let n = place.at_lat in
    let e = place.at_lon in
    let whole = place.whole
    ∙ ap (λ (x : List ℕ). x ++ (symbol.table ∷ (place.lon_text ++ symbol.code ∷ []))) n.whole
    ∙ ap (λ (x : List ℕ). (n.degree_text ++ minutes_text n.tens n.units n.tenths n.hundredths (letter Latitude n.is_negative))
    ++ (symbol.table ∷ (x ++ symbol.code ∷ []))) e.whole in
    let l : Letters (letter Latitude n.is_negative) (letter Longitude e.is_negative) text comment =
    subst (λ (x : List ℕ). Letters (letter Latitude n.is_negative) (letter Longitude e.is_negative) x comment)
    (sym whole) (letters n.degree_text e.degree_text n.tens n.units n.tenths n.hundredths
    (letter Latitude n.is_negative) symbol.table e.tens e.units e.tenths e.hundredths
    (letter Longitude e.is_negative) symbol.code comment n.width e.width) in (
      record {
        parts = n.degrees * per_degree + n.minutes;
        value = n.value ∙ ap (λ (b : Bool). with_sign b (n.degrees * per_degree + n.minutes))
            (sym (ap (λ (b : ℕ). b == 83) (byte_of_text before text comment 12 7 l.all ∙ l.north_there)
            ∙ is_south n.is_negative));
      },
      record {
        parts = e.degrees * per_degree + e.minutes;
        value = e.value ∙ ap (λ (b : Bool). with_sign b (e.degrees * per_degree + e.minutes))
            (sym (ap (λ (b : ℕ). b == 87) (byte_of_text before text comment 2 17 l.all ∙ l.east_there)
            ∙ is_west e.is_negative));
      },
    )
