-- Lemmas on digits that are read in blocks.
use Rattle.aprs_io.proofs.Common.{◌≡◌, ℕ, zero, suc, ◌+◌, ◌-◌, ◌*◌, ◌/◌, ◌%◌, ◌<◌, ◌≤◌, ◌≢◌, ◌==◌, ◌&&◌, ◌⊎◌, Bool, true, nat_lt, cond, List, [], ◌∷◌, ◌++◌, length, take, drop, slice_index, slice_set, Option, Some, None, Ok, if◌then◌else◌, unwrap_or, inl, inr, refl, sym, ap, ◌∙◌, arith, subst, bit_or, and_parts, cases_lt, lt-ltb, get_or-append_right, get_or-drop, get_or-set_other, get_or-set_same, get_or-take, get_or_append_left, length-set, length-take-le, set-get_or, take_more, IsBytes, decode_of, decode_pairs, encode_lower, hex_digit_value, lower_digits, digit_or_error, value_at, pair_value, cons_byte, decode_done, decode_pairs-ok_pair, decode_start, drop-pair, encode_done, encode_step, prepend, prepend-cons_byte}
use Rattle.hex.specs.Hex.{encode_with}
use Rattle.std.proofs.lemmas.Bool.{eqb-true}
use borrow.Rule.Slice.PartMut.{post_of, put_mid}
use Rattle.hex.proofs.HexLemmas.{decode_of-even, length-encode_with}
use Rattle.aprs_io.specs.Hexadecimal.{HoldsByte, HoldsDigit, HoldsDigits, HoldsTwice, HoldsValue, byte_of}

-- ---- the value of a letter, by a test of each byte

-- the place of a letter in the alphabet
abbrev place : ℕ → ℕ
place b = (bit_or b 32 + 159) % 256

-- the test of one byte, which computes
abbrev reads_letter : ℕ → Bool
reads_letter b =
    if nat_lt (place b) 6 then unwrap_or (hex_digit_value b) 99 == place b + 10
    else true

-- the test of the first n numbers
abbrev all_pass : (ℕ → Bool) → ℕ → Bool
all_pass test zero = true
all_pass test (suc n) = test n && all_pass test n

all_pass-at : (test : ℕ → Bool) (n b : ℕ) → all_pass test n ≡ true → b < n → test b ≡ true
all_pass-at test zero b h lt = absurd (omega arith)
all_pass-at test (suc n) b h lt =
    let parts = and_parts (test n) (all_pass test n) h in
    elim (cases_lt b n) [
      | inl below ↦ all_pass-at test n b parts.1 below
      | inr top ↦
          let e : b ≡ n = omega arith in
          rw e parts.0
    ]

some_from_unwrap : (o : Option ℕ) (d : ℕ) → d < 16 → unwrap_or o 99 ≡ d → o ≡ Some d
some_from_unwrap (Some v) d lt e = ap Some e
some_from_unwrap None d lt e = absurd (omega arith)

letter_value : (b : ℕ) → b < 256 → place b < 6 → hex_digit_value b ≡ Some (place b + 10)
letter_value b lt few =
    let t : nat_lt (place b) 6 ≡ true = lt-ltb _ _ few in
    let test : (unwrap_or (hex_digit_value b) 99 == place b + 10) ≡ true
    = ap (λ t. cond t (unwrap_or (hex_digit_value b) 99 == place b + 10) true) (sym t)
    ∙ all_pass-at reads_letter 256 b refl lt in
    some_from_unwrap (hex_digit_value b) (place b + 10) (omega arith) (eqb-true _ _ test)

-- ---- lower case digits

-- the place of a byte among the small letters
abbrev small_place : ℕ → ℕ
small_place b = (b + 159) % 256

abbrev is_small : ℕ → Bool
is_small b =
    if nat_lt (small_place b) 6 then slice_index lower_digits (small_place b + 10) == b else true

abbrev reads_small : ℕ → Bool
reads_small b =
    if nat_lt (small_place b) 6 then unwrap_or (hex_digit_value b) 99 == small_place b + 10
    else true

pub lower_letter : (b : ℕ) → b < 256 → small_place b < 6
    → b ≡ slice_index lower_digits (small_place b + 10)
lower_letter b lt few =
    let t : nat_lt (small_place b) 6 ≡ true = lt-ltb _ _ few in
    sym (eqb-true _ _ (ap (λ t. cond t (slice_index lower_digits (small_place b + 10) == b) true)
    (sym t) ∙ all_pass-at is_small 256 b refl lt))

-- the value of a letter, which may be taken as it is
pub value_of_letter : (b small : ℕ) → b < 256 → (small ≡ b) ⊎ (small ≡ bit_or b 32)
    → (small + 159) % 256 < 6 → hex_digit_value b ≡ Some ((small + 159) % 256 + 10)
value_of_letter b small lt (inl e) few =
    let same : small_place b ≡ (small + 159) % 256 = ap (λ n. (n + 159) % 256) (sym e) in
    let here : small_place b < 6 = omega arith in
    let t : nat_lt (small_place b) 6 ≡ true = lt-ltb _ _ here in
    let test = ap (λ t. cond t (unwrap_or (hex_digit_value b) 99 == small_place b + 10) true)
    (sym t) ∙ all_pass-at reads_small 256 b refl lt in
    some_from_unwrap (hex_digit_value b) (small_place b + 10) (omega arith) (eqb-true _ _ test)
    ∙ ap (λ n. Some (n + 10)) same
value_of_letter b small lt (inr e) few =
    let same : place b ≡ (small + 159) % 256 = ap (λ n. (n + 159) % 256) (sym e) in
    letter_value b lt (omega arith) ∙ ap (λ n. Some (n + 10)) same

-- ---- pairs of digits

-- two digits make a byte
pub HoldsByte-of : (text out : List ℕ) (k h l : ℕ) → h < 16 → l < 16
    → hex_digit_value (slice_index text (2 * k)) ≡ Some h
    → hex_digit_value (slice_index text (2 * k + 1)) ≡ Some l
    → slice_index out k ≡ byte_of h l → HoldsByte text out k
unfolding HoldsByte
HoldsByte-of text out k h l hs ls eh el is =
    let a = slice_index text (2 * k) in
    let b = slice_index text (2 * k + 1) in
    let ha : value_at a (2 * k) ≡ Ok h = ap (digit_or_error a (2 * k)) eh in
    let hb : value_at b (2 * k + 1) ≡ Ok l = ap (digit_or_error b (2 * k + 1)) el in
    let pair : pair_value a b (2 * k) ≡ Ok (h * 16 + l) = rw (ha, hb) refl in
    let whole : h * 16 + l ≡ byte_of h l = omega arith in
    pair ∙ ap Ok (whole ∙ sym is)

-- the same byte in another list
pub HoldsByte-kept : (text before after : List ℕ) (k : ℕ) → slice_index after k
    ≡ slice_index before k
    → HoldsByte text before k → HoldsByte text after k
unfolding HoldsByte
HoldsByte-kept text before after k same h = h ∙ ap Ok (sym same)

-- the digits of the same byte in another list
pub HoldsDigits-kept : (text before after : List ℕ) (k : ℕ)
    → slice_index after k ≡ slice_index before k
    → HoldsDigits before text k → HoldsDigits after text k
HoldsDigits-kept text before after k same h = (
  h.0 ∙ ap (λ b. slice_index lower_digits (b / 16)) (sym same),
  h.1 ∙ ap (λ b. slice_index lower_digits (b % 16)) (sym same),
)

-- one byte more
next_byte : (text out : List ℕ) (i : ℕ) → 2 * i + 1 < length text → i < length out
    → HoldsByte text out i
    → decode_pairs 0 text ≡ prepend (take i out) (decode_pairs (2 * i) (drop (2 * i) text))
    → decode_pairs 0 text
    ≡ prepend (take (i + 1) out) (decode_pairs (2 * (i + 1)) (drop (2 * (i + 1)) text))
unfolding HoldsByte
next_byte text out i fits room ok so_far =
    let v = slice_index out i in
    let rest : List ℕ = drop (2 * (i + 1)) text in
    let two : 2 * i + 2 ≡ 2 * (i + 1) = omega arith in
    let pair = ap (decode_pairs (2 * i)) (drop-pair text i fits)
    ∙ decode_pairs-ok_pair (2 * i) _ _ v rest ok
    ∙ ap (λ (k : ℕ). cons_byte v (decode_pairs k rest)) two in
    so_far ∙ ap (prepend (take i out)) pair ∙ prepend-cons_byte (take i out) v _
    ∙ ap (λ (f : List ℕ). prepend f (decode_pairs (2 * (i + 1)) rest))
    (sym (take_more out i 0 room))

-- the first i bytes
first_bytes : (text out : List ℕ) → length text ≡ 2 * length out
    → ((k : ℕ) → k < length out → HoldsByte text out k)
    → (i : ℕ) → i ≤ length out
    → decode_pairs 0 text ≡ prepend (take i out) (decode_pairs (2 * i) (drop (2 * i) text))
first_bytes text out len all zero h = decode_start text out
first_bytes text out len all (suc i) h =
    let one : suc i ≡ i + 1 = omega arith in
    rw one (next_byte text out i (omega arith) (omega arith) (all i (omega arith))
    (first_bytes text out len all i (omega arith)))

-- a text is read where each pair of its digits is
pub decode_of-bytes : (text out : List ℕ) → length text ≡ 2 * length out
    → ((k : ℕ) → k < length out → HoldsByte text out k) → decode_of text ≡ Ok out
decode_of-bytes text out len all =
    let n = length out in
    decode_of-even text (omega arith)
    ∙ decode_done text out n (omega arith) (omega arith)
    (first_bytes text out len all n (omega arith))

-- ---- a block

-- what holds of each number so far holds of one more that is put
one_more : (Holds : ℕ → ℕ → Type 0) (xs : List ℕ) (j x : ℕ) → j < length xs → Holds j x
    → ((k : ℕ) → k < j → Holds k (slice_index xs k))
    → (k : ℕ) → k < j + 1 → Holds k (slice_index (slice_set xs j x) k)
one_more Holds xs j x room is so_far k below =
    elim (cases_lt k j) [
      | inl before ↦
          let other : k ≢ j = omega arith in
          subst (Holds k) (sym (get_or-set_other xs j k x 0 other)) (so_far k before)
      | inr top ↦
          let e : k ≡ j = omega arith in
          let here = subst (Holds j) (sym (get_or-set_same xs j x 0 room)) is in
          subst (λ n. Holds n (slice_index (slice_set xs j x) n)) (sym e) here
    ]

-- one value more
pub values_more : (digits values : List ℕ) (j v : ℕ) → j < length values → v < 16
    → hex_digit_value (slice_index digits j) ≡ Some v
    → ((k : ℕ) → k < j → HoldsValue digits values k)
    → (k : ℕ) → k < j + 1 → HoldsValue digits (slice_set values j v) k
values_more digits values j v room small is so_far =
    one_more (λ k v. (v < 16) × (hex_digit_value (slice_index digits k) ≡ Some v)) values j v room
    (small, is) so_far

-- a digit of a part of the text
digit_in : (text : List ℕ) (from j : ℕ) → j < 32
    → slice_index (take (from + 32 - from) (drop from text)) j ≡ slice_index text (from + j)
digit_in text from j lt =
    get_or-take (from + 32 - from) (drop from text) j 0 (omega arith) ∙ get_or-drop from text j 0

-- a byte in the part that was written
byte_in : (out new : List ℕ) (at j : ℕ) → at + 16 ≤ length out → length new ≡ 16 → j < 16
    → slice_index (put_mid at (at + 16 - at) out new) (at + j) ≡ slice_index new j
byte_in out new at j room len lt =
    let before_len : length (take at out) ≡ at = length-take-le at out (omega arith) in
    let here : at + j - at ≡ j = omega arith in
    get_or-append_right (take at out) (new ++ post_of at (at + 16 - at) out) at (at + j) 0
    before_len (omega arith)
    ∙ ap (λ n. slice_index (new ++ post_of at (at + 16 - at) out) n) here
    ∙ get_or_append_left new (post_of at (at + 16 - at) out) 0 j (omega arith)

-- the bytes of a block
pub block_bytes : (text out values new : List ℕ) (at : ℕ) → at + 16 ≤ length out → length new ≡ 16
    → ((j : ℕ) → j < 32 → HoldsValue (take (2 * at + 32 - 2 * at) (drop (2 * at) text)) values j)
    → ((j : ℕ) → j < 16 → slice_index new j
    ≡ byte_of (slice_index values (2 * j)) (slice_index values (2 * j + 1)))
    → (k : ℕ) → at ≤ k → k < at + 16 → HoldsByte text (put_mid at (at + 16 - at) out new) k
block_bytes text out values new at room len digits bytes k low high =
    let j : ℕ = k - at in
    let here : k ≡ at + j = omega arith in
    let even : 2 * at + 2 * j ≡ 2 * k = omega arith in
    let odd : 2 * at + (2 * j + 1) ≡ 2 * k + 1 = omega arith in
    let h = digits (2 * j) (omega arith) in
    let l = digits (2 * j + 1) (omega arith) in
    let eh : hex_digit_value (slice_index text (2 * k)) ≡ Some (slice_index values (2 * j))
    = ap (λ n. hex_digit_value (slice_index text n)) (sym even)
    ∙ ap hex_digit_value (sym (digit_in text (2 * at) (2 * j) (omega arith))) ∙ h.1 in
    let el : hex_digit_value (slice_index text (2 * k + 1)) ≡ Some (slice_index values (2 * j + 1))
    = ap (λ n. hex_digit_value (slice_index text n)) (sym odd)
    ∙ ap hex_digit_value (sym (digit_in text (2 * at) (2 * j + 1) (omega arith))) ∙ l.1 in
    let is : slice_index (put_mid at (at + 16 - at) out new) k
    ≡ byte_of (slice_index values (2 * j)) (slice_index values (2 * j + 1))
    = ap (slice_index (put_mid at (at + 16 - at) out new)) here
    ∙ byte_in out new at j room len (omega arith) ∙ bytes j (omega arith) in
    HoldsByte-of text (put_mid at (at + 16 - at) out new) k _ _ h.0 l.0 eh el is

-- the same, of lower case digits
pub block_digits_of : (text out values new : List ℕ) (at : ℕ) → at + 16 ≤ length out
    → length new ≡ 16
    → ((j : ℕ) → j < 32 → HoldsValue (take (2 * at + 32 - 2 * at) (drop (2 * at) text)) values j)
    → ((j : ℕ) → j < 32 → slice_index (take (2 * at + 32 - 2 * at) (drop (2 * at) text)) j
    ≡ slice_index lower_digits (slice_index values j))
    → ((j : ℕ) → j < 16 → slice_index new j
    ≡ byte_of (slice_index values (2 * j)) (slice_index values (2 * j + 1)))
    → (k : ℕ) → at ≤ k → k < at + 16 → HoldsDigits (put_mid at (at + 16 - at) out new) text k
block_digits_of text out values new at room len few digits bytes k low high =
    let j : ℕ = k - at in
    let whole = put_mid at (at + 16 - at) out new in
    let here : k ≡ at + j = omega arith in
    let even : 2 * at + 2 * j ≡ 2 * k = omega arith in
    let odd : 2 * at + (2 * j + 1) ≡ 2 * k + 1 = omega arith in
    let h = (few (2 * j) (omega arith)).0 in
    let l = (few (2 * j + 1) (omega arith)).0 in
    let is : slice_index whole k
    ≡ byte_of (slice_index values (2 * j)) (slice_index values (2 * j + 1))
    = ap (slice_index whole) here ∙ byte_in out new at j room len (omega arith)
    ∙ bytes j (omega arith) in
    let high_is : slice_index values (2 * j) ≡ slice_index whole k / 16 = omega arith in
    let low_is : slice_index values (2 * j + 1) ≡ slice_index whole k % 16 = omega arith in (
      ap (slice_index text) (sym even)
          ∙ sym (digit_in text (2 * at) (2 * j) (omega arith)) ∙ digits (2 * j) (omega arith)
          ∙ ap (slice_index lower_digits) high_is,
      ap (slice_index text) (sym odd)
          ∙ sym (digit_in text (2 * at) (2 * j + 1) (omega arith)) ∙ digits (2 * j + 1) (omega arith)
          ∙ ap (slice_index lower_digits) low_is,
    )

-- one lower case digit more
pub lowers_more : (digits values : List ℕ) (j v : ℕ) → j < length values
    → slice_index digits j ≡ slice_index lower_digits v
    → ((k : ℕ) → k < j → slice_index digits k ≡ slice_index lower_digits (slice_index values k))
    → (k : ℕ) → k < j + 1
    → slice_index digits k ≡ slice_index lower_digits (slice_index (slice_set values j v) k)
lowers_more digits values j v room is so_far =
    one_more (λ k v. slice_index digits k ≡ slice_index lower_digits v) values j v room is so_far

-- one byte more, of two lower case digits
pub byte_more : (text out : List ℕ) (i h l : ℕ) → i < length out → h < 16 → l < 16
    → slice_index text (2 * i) ≡ slice_index lower_digits h
    → slice_index text (2 * i + 1) ≡ slice_index lower_digits l
    → ((k : ℕ) → k < i → HoldsDigits out text k)
    → (k : ℕ) → k < i + 1 → HoldsDigits (slice_set out i (h * 16 + l)) text k
byte_more text out i h l room few less high low so_far =
    let high_is : h ≡ (h * 16 + l) / 16 = omega arith in
    let low_is : l ≡ (h * 16 + l) % 16 = omega arith in
    one_more (λ k b. (slice_index text (2 * k) ≡ slice_index lower_digits (b / 16))
    × (slice_index text (2 * k + 1) ≡ slice_index lower_digits (b % 16))) out i (h * 16 + l) room
    (high ∙ ap (slice_index lower_digits) high_is, low ∙ ap (slice_index lower_digits) low_is)
    so_far

-- ---- the digits of bytes

-- one byte more that is put twice
pub twice_more : (bytes twice : List ℕ) (j x : ℕ) → 2 * j + 1 < length twice
    → x ≡ slice_index bytes j
    → ((k : ℕ) → k < j → HoldsTwice bytes twice k)
    → (k : ℕ) → k < j + 1
    → HoldsTwice bytes (slice_set (slice_set twice (2 * j) x) (2 * j + 1) x) k
twice_more bytes twice j x room is so_far k below =
    let one = slice_set twice (2 * j) x in
    let len : length one ≡ length twice = length-set twice (2 * j) x in
    elim (cases_lt k j) [
      | inl before ↦
          let h = so_far k before in
          let even1 : 2 * k ≢ 2 * j + 1 = omega arith in
          let even0 : 2 * k ≢ 2 * j = omega arith in
          let odd1 : 2 * k + 1 ≢ 2 * j + 1 = omega arith in
          let odd0 : 2 * k + 1 ≢ 2 * j = omega arith in (
            get_or-set_other one (2 * j + 1) (2 * k) x 0 even1
                ∙ get_or-set_other twice (2 * j) (2 * k) x 0 even0 ∙ h.0,
            get_or-set_other one (2 * j + 1) (2 * k + 1) x 0 odd1
                ∙ get_or-set_other twice (2 * j) (2 * k + 1) x 0 odd0 ∙ h.1,
          )
      | inr top ↦
          let e : k ≡ j = omega arith in
          let even : 2 * j ≢ 2 * j + 1 = omega arith in
          let here : HoldsTwice bytes (slice_set one (2 * j + 1) x) j = (
            get_or-set_other one (2 * j + 1) (2 * j) x 0 even
                ∙ get_or-set_same twice (2 * j) x 0 (omega arith) ∙ is,
            get_or-set_same one (2 * j + 1) x 0 (omega (arith, len)) ∙ is,
          ) in
          subst (HoldsTwice bytes (slice_set one (2 * j + 1) x)) (sym e) here
    ]

-- one digit more, of a half of a byte
pub digit_more : (bytes digits : List ℕ) (j x half : ℕ) → j < length digits
    → x ≡ slice_index lower_digits half
    → (j % 2 ≡ 0 → half ≡ slice_index bytes j / 16)
    → (j % 2 ≡ 1 → half ≡ slice_index bytes j % 16)
    → ((k : ℕ) → k < j → HoldsDigit bytes digits k)
    → (k : ℕ) → k < j + 1 → HoldsDigit bytes (slice_set digits j x) k
digit_more bytes digits j x half room is even odd so_far =
    one_more
    (λ k x. (k % 2 ≡ 0 → x ≡ slice_index lower_digits (slice_index bytes k / 16))
    × (k % 2 ≡ 1 → x ≡ slice_index lower_digits (slice_index bytes k % 16)))
    digits j x room (
      λ h. is ∙ ap (λ n. slice_index lower_digits n) (even h),
      λ h. is ∙ ap (λ n. slice_index lower_digits n) (odd h),
    )
    so_far

-- of bytes that are put twice, the digits of all halves are those of the bytes
pub digits_of_twice : (bytes twice digits : List ℕ) (n : ℕ)
    → ((j : ℕ) → j < n → HoldsTwice bytes twice j)
    → ((k : ℕ) → k < 2 * n → HoldsDigit twice digits k)
    → (j : ℕ) → j < n → HoldsDigits bytes digits j
digits_of_twice bytes twice digits n are all j below =
    let is = are j below in (
      (all (2 * j) (omega arith)).0 (omega arith)
          ∙ ap (λ b. slice_index lower_digits (b / 16)) is.0,
      (all (2 * j + 1) (omega arith)).1 (omega arith)
          ∙ ap (λ b. slice_index lower_digits (b % 16)) is.1,
    )

-- a digit in the part that was written
digit_out : (digits block : List ℕ) (from j : ℕ) → from + 32 ≤ length digits → length block ≡ 32
    → j < 32
    → slice_index (put_mid from (from + 32 - from) digits block) (from + j) ≡ slice_index block j
digit_out digits block from j room len lt =
    let before_len : length (take from digits) ≡ from = length-take-le from digits (omega arith) in
    let here : from + j - from ≡ j = omega arith in
    get_or-append_right (take from digits) (block ++ post_of from (from + 32 - from) digits) from
    (from + j) 0 before_len (omega arith)
    ∙ ap (λ n. slice_index (block ++ post_of from (from + 32 - from) digits) n) here
    ∙ get_or_append_left block (post_of from (from + 32 - from) digits) 0 j (omega arith)

-- the digits of a block
pub block_digits : (bytes digits block : List ℕ) (at : ℕ) → length digits ≡ 2 * length bytes
    → at + 16 ≤ length bytes → length block ≡ 32
    → ((j : ℕ) → j < 16 → HoldsDigits (take (at + 16 - at) (drop at bytes)) block j)
    → (k : ℕ) → at ≤ k → k < at + 16
    → HoldsDigits bytes (put_mid (2 * at) (2 * at + 32 - 2 * at) digits block) k
block_digits bytes digits block at size room len holds k low high =
    let j : ℕ = k - at in
    let whole = put_mid (2 * at) (2 * at + 32 - 2 * at) digits block in
    let h = holds j (omega arith) in
    let here : at + j ≡ k = omega arith in
    let even : 2 * k ≡ 2 * at + 2 * j = omega arith in
    let odd : 2 * k + 1 ≡ 2 * at + (2 * j + 1) = omega arith in
    let byte : slice_index (take (at + 16 - at) (drop at bytes)) j ≡ slice_index bytes k
    = get_or-take (at + 16 - at) (drop at bytes) j 0 (omega arith) ∙ get_or-drop at bytes j 0
    ∙ ap (λ n. slice_index bytes n) here in (
      ap (λ n. slice_index whole n) even
          ∙ digit_out digits block (2 * at) (2 * j) (omega arith) len (omega arith)
          ∙ h.0 ∙ ap (λ b. slice_index lower_digits (b / 16)) byte,
      ap (λ n. slice_index whole n) odd
          ∙ digit_out digits block (2 * at) (2 * j + 1) (omega arith) len (omega arith)
          ∙ h.1 ∙ ap (λ b. slice_index lower_digits (b % 16)) byte,
    )

-- the digits of the first i bytes
first_digits : (bytes digits : List ℕ) → length digits ≡ 2 * length bytes
    → ((k : ℕ) → k < length bytes → HoldsDigits bytes digits k)
    → (i : ℕ) → i ≤ length bytes
    → take (2 * i) digits ++ encode_lower (drop i bytes) ≡ encode_lower bytes
first_digits bytes digits size all zero h = refl
first_digits bytes digits size all (suc i) h =
    let one : suc i ≡ i + 1 = omega arith in
    let d = all i (omega arith) in
    let same : slice_set (slice_set digits (2 * i) (slice_index digits (2 * i))) (2 * i + 1)
    (slice_index digits (2 * i + 1)) ≡ digits
    = ap (λ l. slice_set l (2 * i + 1) (slice_index digits (2 * i + 1)))
    (set-get_or digits (2 * i) 0)
    ∙ set-get_or digits (2 * i + 1) 0 in
    let step = encode_step lower_digits bytes digits i (slice_index digits (2 * i))
    (slice_index digits (2 * i + 1))
    (omega arith) (omega arith) d.0 d.1 (first_digits bytes digits size all i (omega arith)) in
    rw one (ap (λ l. take (2 * (i + 1)) l ++ encode_lower (drop (i + 1) bytes)) (sym same) ∙ step)

-- bytes are written where the digits of each are
pub encode_lower-digits : (bytes digits : List ℕ) → length digits ≡ 2 * length bytes
    → ((k : ℕ) → k < length bytes → HoldsDigits bytes digits k) → digits ≡ encode_lower bytes
encode_lower-digits bytes digits size all =
    encode_done lower_digits bytes digits (length bytes) (omega arith) size
    (first_digits bytes digits size all (length bytes) (omega arith))

-- each pair of the digits of bytes
pub digits_at : (bytes : List ℕ) (k : ℕ) → k < length bytes
    → HoldsDigits bytes (encode_lower bytes) k
unfolding encode_with
digits_at [] k lt = absurd (omega arith)
digits_at (b ∷ bytes) zero lt = (refl, refl)
digits_at (b ∷ bytes) (suc k) lt =
    let even : 2 * suc k ≡ suc (suc (2 * k)) = omega arith in
    let odd : 2 * suc k + 1 ≡ suc (suc (2 * k + 1)) = omega arith in
    let h = digits_at bytes k (omega arith) in (
      ap (slice_index (encode_lower (b ∷ bytes))) even ∙ h.0,
      ap (slice_index (encode_lower (b ∷ bytes))) odd ∙ h.1,
    )

-- a text with another byte at a digit's place is that of no bytes
pub no_digits : (text : List ℕ) (i : ℕ) → 2 * i + 1 < length text
    → ((v : ℕ) → v < 16 → slice_index text (2 * i) ≢ slice_index lower_digits v)
    ⊎ ((v : ℕ) → v < 16 → slice_index text (2 * i + 1) ≢ slice_index lower_digits v)
    → (bytes : List ℕ) → IsBytes bytes → text ≢ encode_lower bytes
no_digits text i room other bytes are is =
    let size = ap length is ∙ length-encode_with lower_digits bytes in
    let d = digits_at bytes i (omega (arith, size)) in
    let byte : slice_index bytes i < 256 = are i in
    elim other [
      | inl high ↦ high (slice_index bytes i / 16) (omega arith)
          (ap (λ l. slice_index l (2 * i)) is ∙ d.0)
      | inr low ↦ low (slice_index bytes i % 16) (omega arith)
          (ap (λ l. slice_index l (2 * i + 1)) is ∙ d.1)
    ]

-- nor is one of an odd length
pub no_odd_digits : (text : List ℕ) → ¬ (length text % 2 ≡ 0)
    → (bytes : List ℕ) → IsBytes bytes → text ≢ encode_lower bytes
no_odd_digits text odd bytes are is =
    odd (omega (arith, ap length is ∙ length-encode_with lower_digits bytes))
