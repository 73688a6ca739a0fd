-- A row's line has a place after each beginning of it.
use Rattle.aprs_bookfile.proofs.Common.{◌≡◌, ℕ, zero, suc, ◌*◌, ◌+◌, ◌/◌, ◌%◌, ◌<◌, ◌≤◌, true, false, List, [], ◌∷◌, ◌++◌, length, drop, take, get_or, Option, None, Some, refl, sym, ap, ◌∙◌, append_assoc, arith, rules, AllByRecursion, list_all, join_with_byte, and_parts, nat_tests, nat_lt, recursion_from_All, length-encode_with, encode_lower, lower_digits, IsBytes, IsName, is_name_byte, MomentForm, Millis, Seconds, Row, last_moment}
use Rattle.std.specs.Prelude.{nat_le}
use Rattle.std.proofs.Math.Seq.{take-add}
use Rattle.std.proofs.lemmas.List.{take_more}
use Rattle.hex.specs.Hex.{encode_with}
use Rattle.aprs_log.specs.Clock.{form_size}
use Rattle.aprs_log.specs.Moment.{moment_text_in}
use Rattle.aprs_bookfile.specs.RowPlace.{field_after, first_place, is_byte_of, is_digit_byte, last_after, least_of, most_of, next_after, place_after, place_further, place_in}
use Rattle.aprs_bookfile.specs.Text.{row_line, IsSpelled}
use Rattle.aprs_bookfile.specs.declared.row_place.Field.{Field}
use Rattle.aprs_bookfile.specs.declared.row_place.Field.TheVariants.{Tag, First, Last, Receivers, Receiver, Frame}
use Rattle.aprs_bookfile.specs.declared.row_place.Place.{Place}
use Rattle.aprs_bookfile.proofs.RowReading.{moment_len}
use Rattle.aprs_bookfile.proofs.Spellings.{high_moment, name_len, High}

-- ---- bytes after others

pub last_after-append : (o : Option Place) (a b : List ℕ)
    → last_after o (a ++ b) ≡ last_after (last_after o a) b
last_after-append o [] b = refl
last_after-append o (x ∷ a) b = last_after-append (next_after o x) a b

last_after-none : (bytes : List ℕ) → last_after None bytes ≡ None
last_after-none [] = refl
last_after-none (b ∷ bytes) = last_after-none bytes

-- after what no row begins with, nothing makes it a row
pub place_in-none : (held more : List ℕ) → place_in held ≡ None → place_in (held ++ more) ≡ None
place_in-none held more none = last_after-append (Some first_place) held more
    ∙ ap (λ (o : Option Place). last_after o more) none ∙ last_after-none more

-- one byte more
pub place_in-next : (held bytes : List ℕ) (n : ℕ) → n < length bytes
    → next_after (place_in (held ++ take n bytes)) (get_or bytes n 0)
    ≡ place_in (held ++ take (n + 1) bytes)
place_in-next held bytes n h = sym (ap (λ l. place_in (held ++ l)) (take_more bytes n 0 h)
    ∙ ap place_in (sym (append_assoc held (take n bytes) (get_or bytes n 0 ∷ [])))
    ∙ last_after-append (Some first_place) (held ++ take n bytes) (get_or bytes n 0 ∷ []))

-- some bytes more
pub place_in-further : (held bytes : List ℕ) (i n : ℕ) (place : Option Place)
    → place ≡ place_in (held ++ take i bytes)
    → last_after place (take n (drop i bytes)) ≡ place_in (held ++ take (i + n) bytes)
place_in-further held bytes i n place is =
    ap (λ (o : Option Place). last_after o (take n (drop i bytes))) is
    ∙ sym (last_after-append (Some first_place) (held ++ take i bytes) (take n (drop i bytes)))
    ∙ ap place_in (append_assoc held (take i bytes) (take n (drop i bytes)))
    ∙ ap (λ l. place_in (held ++ l)) (sym (take-add i n bytes))

-- ---- a field

abbrev at : Field → ℕ → Place
at field size = record { field = field; size = size }

-- The field may hold each byte of the text.
abbrev pub Fits : Field → List ℕ → Type 0
Fits field text = AllByRecursion (λ b. is_byte_of field b ≡ true) text

within : (field : Field) (size b : ℕ) → is_byte_of field b ≡ true → size < most_of field
    → place_after (at field size) b ≡ Some (at field (size + 1))
within field size b own few =
    let lt : nat_lt size (most_of field) ≡ true = grind (arith, nat_tests) in rw (own, lt) refl

beyond : (field next : Field) (size b : ℕ) → is_byte_of field b ≡ false → least_of field ≤ size
    → field_after field b ≡ Some next
    → place_after (at field size) b ≡ Some (at next 0)
beyond field next size b ends some is =
    let ge : nat_lt size (least_of field) ≡ false = grind (arith, nat_tests) in
    rw (ends, ge, is) refl

bytes_in : (field : Field) (size : ℕ) (text : List ℕ) → Fits field text
    → size + length text ≤ most_of field
    → last_after (Some (at field size)) text ≡ Some (at field (size + length text))
bytes_in field size [] own few = ap (λ n. Some (at field n)) (omega arith)
bytes_in field size (b ∷ text) own few =
    ap (λ (o : Option Place). last_after o text) (within field size b own.0 (omega arith))
    ∙ bytes_in field (size + 1) text own.1 (omega arith) ∙ ap
    (λ n. Some (at field n)) (omega arith)

pub most_few : (field : Field) → most_of field ≤ 656
most_few Tag = omega arith
most_few First = omega arith
most_few Last = omega arith
most_few Receivers = omega arith
most_few Receiver = omega arith
most_few Frame = omega arith

-- no byte more, and one byte more of the same field
pub further_none : (p : Place) (bytes : List ℕ)
    → last_after (Some p) (take 0 bytes) ≡ Some (place_further p 0)
further_none p bytes = ap (λ n. Some (at p.field n)) (omega arith)

pub further_by : (p : Place) (bytes : List ℕ) (i : ℕ) → i < length bytes
    → p.size + i < most_of p.field → is_byte_of p.field (get_or bytes i 0) ≡ true
    → last_after (Some p) (take i bytes) ≡ Some (place_further p i)
    → last_after (Some p) (take (i + 1) bytes) ≡ Some (place_further p (i + 1))
further_by p bytes i h few own is =
    ap (last_after (Some p)) (take_more bytes i 0 h)
    ∙ last_after-append (Some p) (take i bytes) (get_or bytes i 0 ∷ [])
    ∙ ap (λ (o : Option Place). next_after o (get_or bytes i 0)) is
    ∙ within p.field (p.size + i) (get_or bytes i 0) own few
    ∙ ap (λ n. Some (at p.field n)) (omega arith)

-- a field, or a name of one, and the byte that ends it
ended_at : (field next : Field) (text : List ℕ) (stop : ℕ) (rest : List ℕ) → Fits field text
    → least_of field ≤ length text → length text ≤ most_of field → is_byte_of field stop ≡ false
    → field_after field stop ≡ Some next
    → last_after (Some (at field 0)) (text ++ stop ∷ rest) ≡ last_after (Some (at next 0)) rest
ended_at field next text stop rest own some few ends is =
    last_after-append (Some (at field 0)) text (stop ∷ rest)
    ∙ ap (λ (o : Option Place). last_after o (stop ∷ rest))
    (bytes_in field 0 text own (omega arith))
    ∙ ap (λ (o : Option Place). last_after o rest)
    (beyond field next (0 + length text) stop ends (omega arith) is)

-- ---- the fields of a row

fits_high : (text : List ℕ) → High text → AllByRecursion (λ b. nat_le 45 b ≡ true) text
fits_high [] h = tt
fits_high (b ∷ text) h = let low = h.0 in (grind (arith, nat_tests), fits_high text h.1)

few_of : (form : MomentForm) → (20 ≤ form_size form) × (form_size form ≤ 24)
few_of Seconds = (omega arith, omega arith)
few_of Millis = (omega arith, omega arith)

fits_name : (r : List ℕ) → list_all is_name_byte r ≡ true
    → AllByRecursion (λ b. is_name_byte b ≡ true) r
fits_name [] h = tt
fits_name (b ∷ r) h = let p = and_parts _ _ h in (p.0, fits_name r p.1)

name_bytes : (r : List ℕ) → IsName r → AllByRecursion (λ b. is_name_byte b ≡ true) r
name_bytes r h = fits_name r (and_parts _ _ h).1

name_some : (r : List ℕ) → IsName r → 1 ≤ length r
name_some r h = grind (arith, nat_tests)

digit_at : (table : List ℕ) (n : ℕ) → n < length table
    → AllByRecursion (λ b. is_digit_byte b ≡ true) table → is_digit_byte (get_or table n 0) ≡ true
digit_at [] n h all = absurd (omega arith)
digit_at (b ∷ table) zero h all = all.0
digit_at (b ∷ table) (suc n) h all = digit_at table n (omega arith) all.1

digits_table : AllByRecursion (λ b. is_digit_byte b ≡ true) lower_digits
digits_table = search rules

fits_digits : (bytes : List ℕ) → IsBytes bytes
    → AllByRecursion (λ b. is_digit_byte b ≡ true) (encode_lower bytes)
unfolding encode_with
fits_digits [] h = tt
fits_digits (b ∷ bytes) h =
    let low : b < 256 = h 0 in (
      digit_at lower_digits (b / 16) (omega arith) digits_table,
      (
        digit_at lower_digits (b % 16) (omega arith) digits_table,
        fits_digits bytes (λ i. h (suc i)),
      ),
    )

names_end : (names : List (List ℕ)) (rest : List ℕ) → 0 < length names
    → AllByRecursion IsName names
    → last_after (Some (at Receivers 0)) (join_with_byte 44 names ++ 32 ∷ rest)
    ≡ last_after (Some (at Receiver 0)) rest
names_end [] rest some h = absurd (omega arith)
names_end (r ∷ []) rest some h =
    ended_at Receivers Receiver r 32 rest (name_bytes r h.0) (name_some r h.0) (name_len r h.0) refl
    refl
names_end (r ∷ s ∷ names) rest some h =
    ap (last_after (Some (at Receivers 0)))
    (append_assoc r (44 ∷ join_with_byte 44 (s ∷ names)) (32 ∷ rest))
    ∙ ended_at Receivers Receivers r 44 (join_with_byte 44 (s ∷ names) ++ 32 ∷ rest)
    (name_bytes r h.0) (name_some r h.0) (name_len r h.0) refl refl
    ∙ names_end (s ∷ names) rest (omega arith) h.1

-- ---- a row's line

row_place : (form : MomentForm) (x : Row) → IsSpelled form x
    → place_in (row_line form x) ≡ Some (at Frame (0 + length (encode_lower x.greatest.frame)))
row_place form x h =
    let digits = encode_lower x.greatest.frame in
    let last = moment_text_in form (last_moment x) in
    let first_len : length (moment_text_in form x.first) ≡ form_size form =
    moment_len form x.first in
    let last_len : length last ≡ form_size form = moment_len form (last_moment x) in
    let digits_len : length digits ≡ 2 * length x.greatest.frame =
    length-encode_with lower_digits x.greatest.frame in
    let few = few_of form in
    let fourth = x.greatest.receiver ++ 32 ∷ digits in
    let third = join_with_byte 44 x.receivers ++ 32 ∷ fourth in
    let second = last ++ 32 ∷ third in
    ended_at Tag First (84 ∷ []) 32 (moment_text_in form x.first ++ 32 ∷ second) (refl, tt)
    (omega arith) (omega arith) refl refl
    ∙ ended_at First Last (moment_text_in form x.first) 32 second
    (fits_high _ (high_moment form x.first)) (omega arith) (omega arith) refl refl
    ∙ ended_at Last Receivers last 32 third (fits_high _ (high_moment form (last_moment x)))
    (omega arith) (omega arith) refl refl
    ∙ names_end x.receivers fourth h.some (recursion_from_All IsName x.receivers h.receivers)
    ∙ ended_at Receiver Frame x.greatest.receiver 32 digits
    (name_bytes x.greatest.receiver h.receiver) (name_some x.greatest.receiver h.receiver)
    (name_len x.greatest.receiver h.receiver) refl refl
    ∙ bytes_in Frame 0 digits (fits_digits x.greatest.frame h.bytes)
    (omega (arith, digits_len, h.few))

-- no row's line begins as this line
pub no_row : (form : MomentForm) (x : Row) (line : List ℕ) → place_in line ≡ None
    → IsSpelled form x → line ≡ row_line form x → ⊥
no_row form x line none h e =
    let f : None ≡ Some (at Frame (0 + length (encode_lower x.greatest.frame))) = sym none
    ∙ ap place_in e ∙ row_place form x h in
    cc
