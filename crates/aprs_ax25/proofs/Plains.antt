-- Lemmas on frames that are seen to be fine in one pass.
use Rattle.std.proofs.Common.{◌≡◌, ℕ, ◌+◌, ◌-◌, ◌*◌, ◌/◌, ◌%◌, ◌≤◌, ◌<◌, ◌==◌, suc, zero, List, [], ◌∷◌, length, get_or, take, drop, Bool, true, false, not, cond, ◌&&◌, ◌||◌, nat_le, None, arith, sym, ap, ◌∙◌, refl, slice_index, subst, take-append-drop, inl, inr}
use Rattle.std.specs.List.{list_all, position_or_len}
use Rattle.std.proofs.lemmas.List.{length-take-le, length-drop, take-take, drop-drop, drop-take, get_or-take, get_or-drop, drop_more}
use Rattle.std.proofs.lemmas.Bool.{and_parts, and_from, eqb-true, ne_eqb, le-leb, leb-true, lt-ltb, lt-leb, cases_lt}
use Rattle.aprs_ax25.specs.Callsign.{is_callsign_byte}
use Rattle.aprs_ax25.specs.FrameFault.{ends_field, field_len, field_of, after_field, is_field_len, sevens, has_callsign, ends_characters, is_space_octet, characters_len, has_frame_fault, frame_fault}
use Rattle.aprs_ax25.specs.declared.fault.FrameFault.TheVariants.{Address, Callsign}
use Rattle.aprs_ax25.specs.Plain.{is_callsign_octet, characters_then_spaces, may_follow, IsPlainAddress}
use Rattle.aprs_ax25.specs.Scan.{fault_after_field}
use Rattle.aprs_ax25.proofs.Addresses.{are_even}
use Rattle.aprs_ax25.proofs.Fields.{position-past}
use Rattle.aprs_ax25.proofs.Scans.{frame_fault-after}

-- ---- letters and then spaces

callsign_byte-most : (b : ℕ) → is_callsign_byte b ≡ true → b ≤ 90
callsign_byte-most b h =
    elim (nat_le 65 b && nat_le b 90) as (λ t. (nat_le 65 b && nat_le b 90) ≡ t → b ≤ 90) [
      | true ↦ λ e. leb-true b 90 (and_parts _ _ e).1
      | false ↦ λ e.
          let low : (nat_le 48 b && nat_le b 57) ≡ true =
          ap (λ t. t || (nat_le 48 b && nat_le b 57)) (sym e) ∙ h in
          let most = leb-true b 57 (and_parts _ _ low).1 in
          omega arith
    ] refl

character-is : (o : ℕ) → is_callsign_octet o ≡ true → (is_callsign_byte (o / 2) ≡ true) × (o % 2 ≡ 0)
character-is o h =
    let most = callsign_byte-most (o / 2 + 128 * (o % 2)) h in
    let even : o % 2 ≡ 0 = omega arith in
    let half : o / 2 + 128 * (o % 2) ≡ o / 2 = omega arith in
    (ap is_callsign_byte (sym half) ∙ h, even)

even-goes_on : (o : ℕ) → o % 2 ≡ 0 → not (ends_field o) ≡ true
even-goes_on o h = ap (λ n. not (n == 1)) h

character-no_end : (o : ℕ) → is_callsign_octet o ≡ true → not (ends_field o) ≡ true
character-no_end o h = even-goes_on o (character-is o h).1

space-no_end : (o : ℕ) → (o == 64) ≡ true → not (ends_field o) ≡ true
space-no_end o h = ap (λ n. not (ends_field n)) (eqb-true o 64 h)

-- one of these stands where a space or a letter may
octet-even : (o : ℕ) (p : Bool) → (o == 64 || (p && is_callsign_octet o)) ≡ true → not (ends_field o)
    ≡ true
octet-even o p h =
    elim (o == 64) as (λ t. (o == 64) ≡ t → not (ends_field o) ≡ true) [
      | true ↦ λ e. space-no_end o e
      | false ↦ λ e.
          let character : (p && is_callsign_octet o) ≡ true =
          ap (λ t. t || (p && is_callsign_octet o)) (sym e) ∙ h in
          character-no_end o (and_parts _ _ character).1
    ] refl

pub plain-even : (p : Bool) (os : List ℕ) → characters_then_spaces p os ≡ true → are_even os ≡ true
plain-even p [] h = refl
plain-even p (o ∷ os) h =
    let q = and_parts _ _ h in
    and_from _ _ (octet-even o p q.0) (plain-even (is_callsign_octet o) os q.1)

-- after a space
only-space : (o : ℕ) → (o == 64 || (false && is_callsign_octet o)) ≡ true → o ≡ 64
only-space o h =
    elim (o == 64) as (λ t. (o == 64) ≡ t → o ≡ 64) [
      | true ↦ λ e. eqb-true o 64 e
      | false ↦ λ e. absurd (let no : false ≡ true = ap (λ t. t || false) (sym e) ∙ h in cc)
    ] refl

spaces-only : (os : List ℕ) → characters_then_spaces false os ≡ true → list_all is_space_octet os
    ≡ true
spaces-only [] h = refl
spaces-only (o ∷ os) h =
    let q = and_parts _ _ h in
    let is = only-space o q.0 in
    let more : characters_then_spaces false os ≡ true =
    ap (λ n. characters_then_spaces (is_callsign_octet n) os) (sym is) ∙ q.1 in
    and_from _ _ (ap is_space_octet is) (spaces-only os more)

-- after a letter
space-or-character : (o : ℕ) → (o == 64 || (true && is_callsign_octet o)) ≡ true → is_callsign_octet o
    ≡ false → o ≡ 64
space-or-character o h other =
    elim (o == 64) as (λ t. (o == 64) ≡ t → o ≡ 64) [
      | true ↦ λ e. eqb-true o 64 e
      | false ↦ λ e. absurd
          (let bad : false ≡ true = sym other ∙ (ap (λ t. t || is_callsign_octet o) (sym e) ∙ h) in
          cc)
    ] refl

abbrev spaces_after : List ℕ → Bool
spaces_after os = list_all is_space_octet (drop (position_or_len ends_characters os) os)

characters-first : (os : List ℕ) → characters_then_spaces true os ≡ true → spaces_after os ≡ true
characters-first [] h = refl
characters-first (o ∷ os) h =
    let q = and_parts _ _ h in
    elim (is_callsign_octet o) as (λ t. is_callsign_octet o ≡ t → spaces_after (o ∷ os) ≡ true) [
      | true ↦ λ e.
          let character = (character-is o e).0 in
          let next : 1 + position_or_len ends_characters os ≡ suc (position_or_len ends_characters os) =
          omega arith in
          let more : characters_then_spaces true os ≡ true = ap (λ t. characters_then_spaces t os) (sym e)
          ∙ q.1 in
          ap (λ t. list_all is_space_octet
          (drop (cond (not (not t)) (1 + position_or_len ends_characters os) 0) (o ∷ os))) character
          ∙ ap (λ k. list_all is_space_octet (drop k (o ∷ os))) next ∙ characters-first os more
      | false ↦ λ e.
          let is = space-or-character o q.0 e in
          let more : characters_then_spaces false os ≡ true =
          ap (λ t. characters_then_spaces t os) (sym e) ∙ q.1 in
          ap (λ n. spaces_after (n ∷ os)) is ∙ spaces-only os more
    ] refl

first-counts : (os : List ℕ) → 0 < length os → is_callsign_octet (slice_index os 0) ≡ true
    → 0 < position_or_len ends_characters os
first-counts [] some h = absurd (omega arith)
first-counts (o ∷ os) some h =
    let character = (character-is o h).0 in
    let e : position_or_len ends_characters (o ∷ os) ≡ 1 + position_or_len ends_characters os
    = ap (λ t. cond (not (not t)) (1 + position_or_len ends_characters os) 0) character in
    omega arith

pub plain-address : (octets : List ℕ) → length octets ≡ 7 → is_callsign_octet (slice_index octets 0)
    ≡ true
    → characters_then_spaces true (take 6 octets) ≡ true → IsPlainAddress octets
plain-address octets seven first all =
    let six = take 6 octets in
    let len : length six ≡ 6 = length-take-le 6 octets (omega arith) in
    let start : is_callsign_octet (slice_index six 0) ≡ true =
    ap is_callsign_octet (get_or-take 6 octets 0 0 (omega arith)) ∙ first in
    record {
      callsign = and_from _ _ (lt-ltb 0 (characters_len octets) (first-counts six (omega arith) start))
          (characters-first six all);
      even = plain-even true six all;
    }

-- ---- two addresses at once

-- what is looked at inside a callsign
inside : (i before octet : ℕ) → (i == 5) ≡ false → nat_le 12 i ≡ false → (i == 6) ≡ false
    → may_follow i before octet ≡ true
    → (octet == 64 || (is_callsign_octet before && is_callsign_octet octet)) ≡ true
inside i before octet a b d h =
    let e : ((is_callsign_octet octet && is_callsign_octet before) || octet == 64) ≡ true
    = ap (λ t. ((false || false) || (is_callsign_octet octet && (t || is_callsign_octet before))) ||
    (not t && octet == 64)) (sym d)
    ∙ ap (λ t. ((false || t) || (is_callsign_octet octet && (i == 6 || is_callsign_octet before))) ||
    (not (i == 6) && octet == 64)) (sym b)
    ∙ ap (λ t. ((t || nat_le 12 i) || (is_callsign_octet octet && (i == 6 || is_callsign_octet before)))
    || (not (i == 6) && octet == 64)) (sym a)
    ∙ h in
    turned (is_callsign_octet octet) (is_callsign_octet before) (octet == 64) e
  where
    turned : (x y z : Bool) → ((x && y) || z) ≡ true → (z || (y && x)) ≡ true
    turned true true true h = refl
    turned true true false h = refl
    turned true false true h = refl
    turned true false false h = h
    turned false true true h = refl
    turned false true false h = h
    turned false false true h = refl
    turned false false false h = h

-- and at a callsign's first octet
begins : (before octet : ℕ) → may_follow 6 before octet ≡ true → is_callsign_octet octet ≡ true
begins before octet h =
    elim (is_callsign_octet octet)
    as (λ t. is_callsign_octet octet ≡ t → is_callsign_octet octet ≡ true) [
      | true ↦ λ e. e
      | false ↦ λ e. absurd
          (let no : false ≡ true = ap (λ t. (false || (t && true)) || false) (sym e) ∙ h in cc)
    ] refl

follow : (o : ℕ) (os : List ℕ)
    → ((k : ℕ) → k < length os
    → (get_or os k 0 == 64 ||
    (is_callsign_octet (get_or (o ∷ os) k 0) && is_callsign_octet (get_or os k 0))) ≡ true)
    → characters_then_spaces (is_callsign_octet o) os ≡ true
follow o [] h = refl
follow o (x ∷ os) h =
    and_from _ _ (h 0 (omega arith)) (follow x os (λ k lt. h (suc k) (omega arith)))

starts-with : (o : ℕ) → is_callsign_octet o ≡ true → (o == 64 || (true && is_callsign_octet o)) ≡ true
starts-with o h = elim (o == 64) as (λ t. (t || is_callsign_octet o) ≡ true)
    [ true ↦ refl | false ↦ h ]

-- seven octets, each of which may stand after the one before
seven-plain : (a : List ℕ) → length a ≡ 7 → is_callsign_octet (slice_index a 0) ≡ true
    → ((k : ℕ) → k < 5 → (slice_index a (k + 1) == 64 ||
    (is_callsign_octet (slice_index a k) && is_callsign_octet (slice_index a (k + 1)))) ≡ true)
    → IsPlainAddress a
seven-plain a seven first h =
    let six = take 6 a in
    let len : length six ≡ 6 = length-take-le 6 a (omega arith) in
    let o = slice_index six 0 in
    let os = drop 1 six in
    let is : six ≡ o ∷ os = drop_more six 0 0 (omega arith) in
    let start : is_callsign_octet o ≡ true = ap is_callsign_octet (get_or-take 6 a 0 0 (omega arith))
    ∙ first in
    let more : characters_then_spaces (is_callsign_octet o) os ≡ true
    = follow o os (λ k lt.
    let small : k < 5 = omega (arith, length-drop 1 six) in
    let here : get_or (o ∷ os) k 0 ≡ slice_index a k = ap (λ l. get_or l k 0) (sym is)
    ∙ get_or-take 6 a k 0 (omega arith) in
    let one : 1 + k ≡ k + 1 = omega arith in
    let next : get_or os k 0 ≡ slice_index a (k + 1)
    = get_or-drop 1 six k 0 ∙ ap (slice_index six) one ∙ get_or-take 6 a (k + 1) 0 (omega arith) in
    ap (λ x. x == 64 || (is_callsign_octet (get_or (o ∷ os) k 0) && is_callsign_octet x)) next
    ∙ ap (λ x. slice_index a (k + 1) == 64 ||
    (is_callsign_octet x && is_callsign_octet (slice_index a (k + 1)))) here
    ∙ h k small) in
    plain-address a seven first
    (ap (characters_then_spaces true) is
    ∙ and_from _ _ (starts-with o start) (ap (λ t. characters_then_spaces t os) refl ∙ more))

-- each octet of two addresses may stand after the one before
abbrev pub Follows : List ℕ → ℕ → Type 0
Follows octets n = (k : ℕ) → k < n
    → may_follow k (slice_index octets k) (slice_index octets (k + 1)) ≡ true

module _ (octets : List ℕ) (many : 17 ≤ length octets) (all : Follows octets 16) where
  inside-at : (k : ℕ) → k < 16 → (k ≡ 5 → ⊥) → k < 12 → (k ≡ 6 → ⊥)
      → (slice_index octets (k + 1) == 64 ||
      (is_callsign_octet (slice_index octets k) && is_callsign_octet (slice_index octets (k + 1))))
      ≡ true
  inside-at k lt a b d =
      inside k (slice_index octets k) (slice_index octets (k + 1)) (ne_eqb k 5 a) (lt-leb 12 k b)
      (ne_eqb k 6 d) (all k lt)

  pub first-plain : is_callsign_octet (slice_index octets 0) ≡ true → IsPlainAddress (take 7 octets)
  first-plain h =
      let a = take 7 octets in
      seven-plain a (length-take-le 7 octets (omega arith))
      (ap is_callsign_octet (get_or-take 7 octets 0 0 (omega arith)) ∙ h)
      (λ k lt.
      ap (λ x. x == 64 || (is_callsign_octet (slice_index a k) && is_callsign_octet x))
      (get_or-take 7 octets (k + 1) 0 (omega arith))
      ∙ ap (λ x. slice_index octets (k + 1) == 64 ||
      (is_callsign_octet x && is_callsign_octet (slice_index octets (k + 1))))
      (get_or-take 7 octets k 0 (omega arith))
      ∙ inside-at k (omega arith) (λ e. omega arith) (omega arith) (λ e. omega arith))

  at-second : (k : ℕ) → k < 7 → slice_index (take 7 (drop 7 octets)) k ≡ slice_index octets (7 + k)
  at-second k lt = get_or-take 7 (drop 7 octets) k 0 lt ∙ get_or-drop 7 octets k 0

  pub second-plain : IsPlainAddress (take 7 (drop 7 octets))
  second-plain =
      let a = take 7 (drop 7 octets) in
      seven-plain a (length-take-le 7 (drop 7 octets) (omega (arith, length-drop 7 octets)))
      (ap is_callsign_octet (at-second 0 (omega arith))
      ∙ begins (slice_index octets 6) (slice_index octets 7) (all 6 (omega arith)))
      (λ k lt.
      let next : 7 + (k + 1) ≡ (7 + k) + 1 = omega arith in
      ap (λ x. x == 64 || (is_callsign_octet (slice_index a k) && is_callsign_octet x))
      (at-second (k + 1) (omega arith) ∙ ap (slice_index octets) next)
      ∙ ap (λ x. slice_index octets ((7 + k) + 1) == 64 ||
      (is_callsign_octet x && is_callsign_octet (slice_index octets ((7 + k) + 1))))
      (at-second k (omega arith))
      ∙ inside-at (7 + k) (omega arith) (λ e. omega arith) (omega arith) (λ e. omega arith))

pub first-of-window : (octets : List ℕ) → 17 ≤ length octets
    → is_callsign_octet (slice_index (take 17 octets) 0) ≡ true → Follows (take 17 octets) 16
    → IsPlainAddress (take 7 octets)
first-of-window octets many first all =
    let len = length-take-le 17 octets many in
    subst IsPlainAddress (take-take 7 17 octets (omega arith))
    (first-plain (take 17 octets) (omega arith) all first)

pub second-of-window : (octets : List ℕ) → 17 ≤ length octets → Follows (take 17 octets) 16
    → IsPlainAddress (take 7 (drop 7 octets))
second-of-window octets many all =
    let len = length-take-le 17 octets many in
    let e : take 7 (drop 7 (take 17 octets)) ≡ take 7 (drop 7 octets)
    = ap (take 7) (drop-take 7 10 octets) ∙ take-take 7 10 (drop 7 octets) (omega arith) in
    subst IsPlainAddress e (second-plain (take 17 octets) (omega arith) all)

pub Follows-more : (octets : List ℕ) (i : ℕ) (b : Bool) → Follows octets i → b
    ≡ may_follow i (slice_index octets i) (slice_index octets (i + 1))
    → b ≡ true → Follows octets (i + 1)
Follows-more octets i b held is fine k lt = elim (cases_lt k i) [
  | inl low ↦ held k low
  | inr high ↦ (
      let e : i ≡ k = omega arith in
      subst (λ (n : ℕ). may_follow n (slice_index octets n) (slice_index octets (n + 1)) ≡ true) e
      (sym is ∙ fine)
      )
]

-- ---- one address after another

-- so many addresses are fine, none of which ends the field, and the rest comes after them
pub record ArePlain (count : ℕ) (bytes rest : List ℕ) : Type 0 where
  pub is : rest ≡ drop (7 * count) bytes
  pub within : 7 * count ≤ length bytes
  pub goes_on : position_or_len ends_field bytes ≡ 7 * count + position_or_len ends_field rest
  pub callsigns : (more : ℕ) → list_all has_callsign (sevens more rest) ≡ true
      → list_all has_callsign (sevens (count + more) bytes) ≡ true

module _ (count : ℕ) (bytes rest address after : List ℕ) (held : ArePlain count bytes rest)
    (many : 7 ≤ length rest)
    (f : address ≡ take 7 rest) (r : after ≡ drop 7 rest) (plain : IsPlainAddress address) where
  six-even : are_even (take 6 rest) ≡ true
  six-even = ap are_even (sym (take-take 6 7 rest (omega arith)) ∙ ap (take 6) (sym f)) ∙ plain.even

  last-is : slice_index rest 6 ≡ slice_index address 6
  last-is = sym (get_or-take 7 rest 6 0 (omega arith)) ∙ ap (λ l. slice_index l 6) (sym f)

  len-six : length (take 6 rest) ≡ 6
  len-six = length-take-le 6 rest (omega arith)

  split : drop 6 rest ≡ slice_index rest 6 ∷ after
  split = drop_more rest 6 0 (omega arith) ∙ ap (λ l. slice_index rest 6 ∷ l) (sym r)

  past-six : position_or_len ends_field rest
      ≡ 6 + position_or_len ends_field (slice_index rest 6 ∷ after)
  past-six =
      ap (position_or_len ends_field) (sym (take-append-drop 6 rest))
      ∙ position-past (take 6 rest) (drop 6 rest) six-even
      ∙ ap (λ n. n + position_or_len ends_field (drop 6 rest)) len-six
      ∙ ap (λ l. 6 + position_or_len ends_field l) split

  call : has_callsign (take 7 rest) ≡ true
  call = ap has_callsign (sym f) ∙ plain.callsign

  after-is : after ≡ drop (7 * count + 7) bytes
  after-is = r ∙ ap (drop 7) held.is ∙ drop-drop 7 (7 * count) bytes

  pub ArePlain-more : ends_field (slice_index address 6) ≡ false → ArePlain (count + 1) bytes after
  ArePlain-more even =
      let within = held.within in
      let is = held.is in
      let len : length rest ≡ length bytes - 7 * count = ap length is
      ∙ length-drop (7 * count) bytes in
      let even-last : ends_field (slice_index rest 6) ≡ false = ap ends_field last-is ∙ even in
      let past : position_or_len ends_field (slice_index rest 6 ∷ after)
      ≡ 1 + position_or_len ends_field after
      = ap (λ t. cond (not t) (1 + position_or_len ends_field after) 0) even-last in
      let n : 7 * count + 7 ≡ 7 * (count + 1) = omega arith in
      record {
        is = after-is ∙ ap (λ k. drop k bytes) n;
        within = omega arith;
        goes_on = omega (arith, held.goes_on, past-six, past);
        callsigns = λ more h.
            let e : count + suc more ≡ (count + 1) + more = omega arith in
            ap (λ k. list_all has_callsign (sevens k bytes)) (sym e)
            ∙ held.callsigns (suc more)
            (and_from _ _ call (ap (λ l. list_all has_callsign (sevens more l)) (sym r) ∙ h));
      }

  module _ (odd : ends_field (slice_index address 6) ≡ true) where
    pub ends-here : 7 * count + 7 ≡ field_len bytes
    ends-here =
        let odd-last : ends_field (slice_index rest 6) ≡ true = ap ends_field last-is ∙ odd in
        let past : position_or_len ends_field (slice_index rest 6 ∷ after) ≡ 0
        = ap (λ t. cond (not t) (1 + position_or_len ends_field after) 0) odd-last in
        omega (arith, held.goes_on, past-six, past)

    within-bytes : 7 * count + 7 ≤ length bytes
    within-bytes =
        let within = held.within in
        let len : length rest ≡ length bytes - 7 * count = ap length held.is
        ∙ length-drop (7 * count) bytes in
        omega arith

    sevens-take : (m : ℕ) (l : List ℕ) → sevens m (take (7 * m) l) ≡ sevens m l
    sevens-take zero l = refl
    sevens-take (suc m) l =
        let e : 7 * suc m ≡ 7 + 7 * m = omega arith in
        ap (λ k. sevens (suc m) (take k l)) e
        ∙ ap (λ x. x ∷ sevens m (drop 7 (take (7 + 7 * m) l)))
        (take-take 7 (7 + 7 * m) l (omega arith))
        ∙ ap (λ x. take 7 l ∷ sevens m x) (drop-take 7 (7 * m) l)
        ∙ ap (λ x. take 7 l ∷ x) (sevens-take m (drop 7 l))

    all-callsigns : has_frame_fault Callsign bytes ≡ false
    all-callsigns =
        let n : 7 * count + 7 ≡ 7 * (count + 1) = omega arith in
        let field : field_of bytes ≡ take (7 * (count + 1)) bytes =
        ap (λ k. take k bytes) (sym ends-here ∙ n) in
        let w = within-bytes in
        let len : length (field_of bytes) ≡ 7 * (count + 1) = ap length field
        ∙ length-take-le (7 * (count + 1)) bytes (omega arith) in
        let number : length (field_of bytes) / 7 ≡ count + 1 = omega arith in
        ap (λ k. not (list_all has_callsign (sevens k (field_of bytes)))) number
        ∙ ap (λ l. not (list_all has_callsign (sevens (count + 1) l))) field
        ∙ ap (λ l. not (list_all has_callsign l)) (sevens-take (count + 1) bytes)
        ∙ ap not (held.callsigns 1 (and_from _ _ call refl))

    pub plain-frame : 0 < count → count < 10 → fault_after_field after ≡ None → frame_fault bytes
        ≡ None
    plain-frame some most rest_fine =
        let n = field_len bytes in
        let e = ends-here in
        let w = within-bytes in
        let seven : n % 7 ≡ 0 = omega arith in
        let address_fine : has_frame_fault Address bytes ≡ false =
        ap not (and_from (nat_le n (length bytes)) (is_field_len n)
        (le-leb n (length bytes) (omega arith))
        (and_from (n % 7 == 0 && nat_le 14 n) (nat_le n 70)
        (and_from (n % 7 == 0) (nat_le 14 n) (ap (λ k. k == 0) seven)
        (le-leb 14 n (omega arith)))
        (le-leb n 70 (omega arith)))) in
        let here : after_field bytes ≡ after = ap (λ k. drop k bytes) (sym e) ∙ sym after-is in
        sym (frame_fault-after bytes address_fine all-callsigns) ∙ ap fault_after_field here
        ∙ rest_fine

-- the first of two addresses that were looked at together
module _ (count : ℕ) (bytes rest first more second after : List ℕ)
    (held : ArePlain count bytes rest) (many : 17 ≤ length rest)
    (f : first ≡ take 7 rest) (r : more ≡ drop 7 rest) (g : second ≡ take 7 more)
    (plain : IsPlainAddress (take 7 rest)) (next : IsPlainAddress (take 7 (drop 7 rest)))
    (even : ends_field (slice_index first 6) ≡ false) where
  pub past-first : ArePlain (count + 1) bytes more
  past-first = ArePlain-more count bytes rest first more held (omega arith) f r
      (subst IsPlainAddress (sym f) plain) even

  pub second-many : 7 ≤ length more
  second-many = omega (arith, ap length r, length-drop 7 rest)

  pub second-is : IsPlainAddress second
  second-is = subst IsPlainAddress (sym (g ∙ ap (take 7) r)) next
