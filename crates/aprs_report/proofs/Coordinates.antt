-- A latitude or longitude that is read is spelled so, and what is spelled so is read.
use Rattle.aprs_report.proofs.Common.{◌≡◌, ℕ, ℤ, ◌+◌, ◌*◌, ◌-◌, ◌≤◌, Bool, true, false, List, [], ◌∷◌, ◌++◌, length, take, drop, Some, refl, sym, ap, ◌∙◌, arith, leb, eqb, slice_index, list_all, and_parts, ltb-true, lt-ltb, leb-true, le-leb, eqb-true, nat_tests, take_at, drop_at, take-append-drop, length-append, length-drop}
use Rattle.aprs_report.specs.declared.place.coordinate.Axis.{Axis}
use Rattle.aprs_report.specs.declared.place.coordinate.Axis.TheVariants.{Latitude, Longitude}
use Rattle.aprs_report.specs.Bytes.{is_space}
use Rattle.aprs_report.specs.Numeral.{is_digit_of}
use Rattle.aprs_report.specs.Trailing.{ends_in, IsTrimmed}
use Rattle.aprs_report.specs.Coordinate.{minutes_text}
use Rattle.aprs_report.specs.Coordinate.{degree_digits, limit, letter, IsMinutes, IsCoordinate}
use Rattle.aprs_report.specs.Reader.{places_of, ambiguity_of, minutes_of, half_of, angle_of}
use Rattle.aprs_report.proofs.Steps.{after_some, guarded_some, guarded_takes, if_some, if_either}
use Rattle.aprs_report.proofs.Cuts.{cut_takes}
use Rattle.aprs_report.proofs.Numerals.{numeral_found, numeral_takes}

pub minutes_found : (axis : Axis) (a : ℕ) (places : List ℕ) (n : ℕ) → length places ≡ 4 → a ≤ 4 →
    minutes_of axis a places ≡ Some n → IsMinutes axis a n places
unfolding minutes_of
minutes_found axis a places n four le e =
    let g = if_some _ _ _ e in
    after_some _ _ _ _ g.1 (λ known e1 r1.
    let w = guarded_some _ _ _ r1 in
    record {
      known = take (4 - a) places;
      blank = drop (4 - a) places;
      number = known;
      whole = sym (take-append-drop (4 - a) places);
      at_known = numeral_found 10 48 (take (4 - a) places) known e1;
      blanks = g.0;
      count = length-drop (4 - a) places ∙ omega arith;
      value = sym w.1;
      below = omega (arith, w.1, ltb-true _ _ w.0);
    })

pub minutes_takes : (axis : Axis) (a : ℕ) (places : List ℕ) (n : ℕ) → length places ≡ 4 →
    IsMinutes axis a n places → minutes_of axis a places ≡ Some n
unfolding minutes_of
minutes_takes axis a places n four h =
    let len : length h.known ≡ 4 - a =
    omega (arith, ap length h.whole, length-append h.known h.blank, h.count, four) in
    ap (minutes_of axis a) h.whole
    ∙ rw (
      take_at h.known h.blank (4 - a) len,
      drop_at h.known h.blank (4 - a) len,
      h.blanks,
      numeral_takes 10 48 h.known h.number h.at_known,
      ← h.value,
    )
    (guarded_takes _ n (lt-ltb n 6000 h.below))

half_found : (axis : Axis) (b : ℕ) (half : Bool) → half_of axis b ≡ Some half →
    b ≡ letter axis half
half_found axis b half e = if_either (eqb b (letter axis true)) _ _ _ _ e
    (λ t h. eqb-true _ _ t ∙ ap (letter axis) (cc))
    (λ _ h. let g = guarded_some _ _ _ h in eqb-true _ _ g.0 ∙ ap (letter axis) g.1)

half_takes : (axis : Axis) (half : Bool) → half_of axis (letter axis half) ≡ Some half
half_takes Latitude true = refl
half_takes Latitude false = refl
half_takes Longitude true = refl
half_takes Longitude false = refl

six_apart : (text : List ℕ) → length text ≡ 6 →
    text ≡ slice_index text 0 ∷ slice_index text 1 ∷ slice_index text 2 ∷ slice_index text 3 ∷
    slice_index text 4 ∷ slice_index text 5 ∷ []
six_apart (a ∷ b ∷ c ∷ d ∷ e ∷ f ∷ []) h = refl
six_apart [] h = absurd (omega arith)
six_apart (a ∷ []) h = absurd (omega arith)
six_apart (a ∷ b ∷ []) h = absurd (omega arith)
six_apart (a ∷ b ∷ c ∷ []) h = absurd (omega arith)
six_apart (a ∷ b ∷ c ∷ d ∷ []) h = absurd (omega arith)
six_apart (a ∷ b ∷ c ∷ d ∷ e ∷ []) h = absurd (omega arith)
six_apart (a ∷ b ∷ c ∷ d ∷ e ∷ f ∷ g ∷ l) h = absurd (omega arith)

pub angle_found : (axis : Axis) (a : ℕ) (degree_text text : List ℕ) (angle : ℤ) →
    length degree_text ≡ degree_digits axis → length text ≡ 6 → a ≤ 4 →
    angle_of axis a degree_text text ≡ Some angle
    → IsCoordinate axis a angle (degree_text ++ text)
unfolding angle_of
angle_found axis a degree_text text angle width six le e =
    after_some _ _ _ _ e (λ degrees e1 r1. after_some _ _ _ _ r1
    (λ minutes e2 r2. after_some _ _ _ _ r2 (λ half e3 r3.
    let w = guarded_some _ _ _ r3 in
    let d =
    and_parts (eqb (slice_index text 2) 46) (leb (degrees * 6000 + minutes) (limit axis)) w.0
    in
    let point : slice_index text 2 ≡ 46 = eqb-true _ _ d.0 in
    let side : slice_index text 5 ≡ letter axis half =
    half_found axis (slice_index text 5) half e3 in
    let whole : text ≡ minutes_text (slice_index text 0) (slice_index text 1) (slice_index text 3)
    (slice_index text 4) (letter axis half) = six_apart text six ∙ rw (point, side) refl in
    record {
      degree_text = degree_text;
      tens = slice_index text 0;
      units = slice_index text 1;
      tenths = slice_index text 3;
      hundredths = slice_index text 4;
      degrees = degrees;
      minutes = minutes;
      is_negative = half;
      width = width;
      at_degrees = numeral_found 10 48 degree_text degrees e1;
      at_minutes = minutes_found axis a (places_of text) minutes refl le e2;
      within = leb-true _ _ d.1;
      value = sym w.1;
      whole = ap (λ (t : List ℕ). degree_text ++ t) whole;
    })))

-- the six bytes after the degrees
abbrev pub minute_text : (axis : Axis) (a : ℕ) (angle : ℤ) (text : List ℕ) →
    IsCoordinate axis a angle text → List ℕ
minute_text axis a angle text h =
    minutes_text h.tens h.units h.tenths h.hundredths (letter axis h.is_negative)

pub angle_takes : (axis : Axis) (a : ℕ) (angle : ℤ) (text : List ℕ)
    (h : IsCoordinate axis a angle text) → angle_of axis a h.degree_text
    (minute_text axis a angle text h) ≡ Some angle
unfolding angle_of
angle_takes axis a angle text h =
    rw (
      numeral_takes 10 48 h.degree_text h.degrees h.at_degrees,
      minutes_takes axis a _ h.minutes refl h.at_minutes,
      half_takes axis h.is_negative,
      le-leb _ _ h.within,
    ) (ap (λ (z : ℤ). Some z) (sym h.value))

-- a digit is no space
no_space : (b : ℕ) → is_digit_of 10 48 b ≡ true → is_space b ≡ false
no_space b h = grind (arith, nat_tests)

digits_stop : (known : List ℕ) → list_all (is_digit_of 10 48) known ≡ true →
    ends_in is_space known ≡ false
digits_stop [] h = refl
digits_stop (b ∷ []) h = no_space b (and_parts (is_digit_of 10 48 b) true h).0
digits_stop (b ∷ x ∷ known) h = digits_stop (x ∷ known) (and_parts (is_digit_of 10 48 b) _ h).1

-- a latitude's ambiguity is that of its bytes
pub ambiguity_is : (a : ℕ) (angle : ℤ) (text : List ℕ) (h : IsCoordinate Latitude a angle text) →
    ambiguity_of (minute_text Latitude a angle text h) ≡ a
ambiguity_is a angle text h =
    let m = h.at_minutes in
    let cut : IsTrimmed is_space m.known (h.tens ∷ h.units ∷ h.tenths ∷ h.hundredths ∷ []) =
    record {
      ending = m.blank;
      whole = m.whole;
      cut = m.blanks;
      stops = digits_stop m.known
          m.at_known.digits;
    } in
    let four : 4 ≡ length m.known + length m.blank =
    ap length m.whole ∙ length-append m.known m.blank in
    ap (λ (l : List ℕ). 4 - length l) (cut_takes is_space m.known _ cut)
    ∙ omega (arith, four, m.count)

pub ambiguity_small : (text : List ℕ) → ambiguity_of text ≤ 4
ambiguity_small text = omega arith
