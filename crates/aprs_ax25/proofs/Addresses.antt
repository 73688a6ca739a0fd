-- Lemmas on one address: its octets have its callsign and flags, and octets with a callsign spell
-- it.
use Rattle.std.proofs.Common.{◌≡◌, ℕ, ◌+◌, ◌-◌, ◌*◌, ◌/◌, ◌%◌, ◌≤◌, ◌<◌, ◌==◌, suc, zero, List, [], ◌∷◌, ◌++◌, length, take, drop, map, replicate, Bool, true, false, not, cond, ◌&&◌, nat_lt, arith, sym, ap, ◌∙◌, refl, slice_index, take-append-drop, append_assoc}
use Rattle.std.specs.List.{list_all, position_or_len}
use Rattle.std.proofs.lemmas.List.{length-take-le, length-map, length-append, length-replicate, map-append, length-drop, take_at, drop_at, take_all, take_more, take-take, get_or_at}
use Rattle.std.proofs.lemmas.List.Folds.{list_all-append}
use Rattle.std.proofs.lemmas.Bool.{and_parts, and_from, lt-ltb, eqb-true, ne_eqb}
use Rattle.aprs_ax25.specs.Callsign.{is_callsign_byte}
use Rattle.aprs_ax25.specs.Address.{Address, IsAddress, characters_and_spaces, address_octets}
use Rattle.aprs_ax25.specs.FrameFault.{ends_field, characters_len, ends_characters, is_space_octet, has_callsign, address_of}
use Rattle.aprs_ax25.proofs.Calls.{call_of-IsCall, characters_len-le}

abbrev pub double : List ℕ → List ℕ
double = map (λ b. 2 * b)

abbrev pub half : List ℕ → List ℕ
half = map (λ o. o / 2)

-- bit 0 is 0 in each
abbrev pub are_even : List ℕ → Bool
are_even = list_all (λ o. not (ends_field o))

half-double : (bs : List ℕ) → half (double bs) ≡ bs
half-double [] = refl
half-double (b ∷ bs) =
    let e : (2 * b) / 2 ≡ b = omega arith in
    ap (λ x. x ∷ half (double bs)) e ∙ ap (λ l. b ∷ l) (half-double bs)

pub are_even-double : (bs : List ℕ) → are_even (double bs) ≡ true
are_even-double [] = refl
are_even-double (b ∷ bs) =
    let ne : ends_field (2 * b) ≡ false = ne_eqb ((2 * b) % 2) 1 (λ e. omega arith) in
    ap (λ x. not x && are_even (double bs)) ne ∙ are_even-double bs

not-not : (b : Bool) → not b ≡ true → b ≡ false
not-not true h = cc
not-not false h = refl

eqb-not : (a b : ℕ) → (a == b) ≡ false → a ≡ b → ⊥
eqb-not a b h e = Rattle.std.proofs.lemmas.Bool.eqb-false a b h e

even : (o : ℕ) → not (ends_field o) ≡ true → 2 * (o / 2) ≡ o
even o h = let ne = eqb-not (o % 2) 1 (not-not _ h) in omega arith

double-half : (os : List ℕ) → are_even os ≡ true → double (half os) ≡ os
double-half [] h = refl
double-half (o ∷ os) h =
    let p = and_parts _ _ h in
    ap (λ x. x ∷ double (half os)) (even o p.0) ∙ ap (λ l. o ∷ l) (double-half os p.1)

-- no letter is among spaces
characters_before_spaces : (k : ℕ) → position_or_len ends_characters (double (replicate k 32)) ≡ 0
characters_before_spaces zero = refl
characters_before_spaces (suc k) = refl

characters_end : (characters : List ℕ) (k : ℕ) → list_all is_callsign_byte characters ≡ true
    → position_or_len ends_characters (double characters ++ double (replicate k 32)) ≡ length characters
characters_end [] k h = characters_before_spaces k
characters_end (b ∷ characters) k h =
    let p = and_parts _ _ h in
    let e : (2 * b) / 2 ≡ b = omega arith in
    ap (λ x. cond (not (not (is_callsign_byte x)))
    (1 + position_or_len ends_characters (double characters ++ double (replicate k 32))) 0) e
    ∙ ap (λ t. cond (not (not t))
    (1 + position_or_len ends_characters (double characters ++ double (replicate k 32))) 0) p.0
    ∙ ap (λ n. 1 + n) (characters_end characters k p.1) ∙ omega arith

spaces_all : (k : ℕ) → list_all is_space_octet (double (replicate k 32)) ≡ true
spaces_all zero = refl
spaces_all (suc k) = spaces_all k

spaces-are : (os : List ℕ) → list_all is_space_octet os ≡ true → are_even os ≡ true → os
    ≡ double (replicate (length os) 32)
spaces-are [] h e = refl
spaces-are (o ∷ os) h e =
    let p = and_parts _ _ h in
    let q = and_parts _ _ e in
    let at : o / 2 ≡ 32 = eqb-true (o / 2) 32 p.0 in
    let twice = even o q.0 in
    let is : o ≡ 64 = omega arith in
    ap (λ x. x ∷ os) is ∙ ap (λ l. 64 ∷ l) (spaces-are os p.1 q.1)

length-padded : (characters : List ℕ) → length characters ≤ 6 → length (double (characters_and_spaces characters)) ≡ 6
length-padded characters h =
    length-map (characters_and_spaces characters) (λ b. 2 * b)
    ∙ length-append characters (replicate (6 - length characters) 32)
    ∙ ap (λ n. length characters + n) (length-replicate (6 - length characters) 32)
    ∙ omega arith

-- ---- the octets of an address

module _ (extension : ℕ) (a : Address) (h : IsAddress a) where
  abbrev octets : List ℕ
  octets = address_octets extension a

  abbrev character_octets : List ℕ
  character_octets = double (characters_and_spaces a.call.characters)

  abbrev last : ℕ
  last = 32 * a.flags + 2 * a.call.ssid + extension

  six : length character_octets ≡ 6
  six = length-padded a.call.characters h.call.most

  pub length-address_octets : length (address_octets extension a) ≡ 7
  length-address_octets = length-append character_octets (last ∷ []) ∙ ap (λ n. n + 1) six

  parts_apart : character_octets
      ≡ double a.call.characters ++ double (replicate (6 - length a.call.characters) 32)
  parts_apart = map-append (λ b. 2 * b) a.call.characters (replicate (6 - length a.call.characters) 32)

  pub characters_len-address_octets : characters_len (address_octets extension a) ≡ length a.call.characters
  characters_len-address_octets =
      ap (position_or_len ends_characters) (take_at character_octets (last ∷ []) 6 six ∙ parts_apart)
      ∙ characters_end a.call.characters (6 - length a.call.characters) h.call.bytes

  pub has_callsign-address_octets : has_callsign (address_octets extension a) ≡ true
  has_callsign-address_octets =
      let n = length a.call.characters in
      let doubled : length (double a.call.characters) ≡ n = length-map a.call.characters (λ b. 2 * b) in
      ap (λ k. nat_lt 0 k && list_all is_space_octet (drop k (take 6 octets)))
      characters_len-address_octets
      ∙ ap (λ l. nat_lt 0 n && list_all is_space_octet (drop n l))
      (take_at character_octets (last ∷ []) 6 six ∙ parts_apart)
      ∙ ap (λ l. nat_lt 0 n && list_all is_space_octet l)
      (drop_at (double a.call.characters) (double (replicate (6 - n) 32)) n doubled)
      ∙ and_from _ _ (lt-ltb 0 n h.call.some) (spaces_all (6 - n))

  characters-are : half (take (characters_len octets) octets) ≡ a.call.characters
  characters-are =
      let spaces = double (replicate (6 - length a.call.characters) 32) in
      ap (λ k. half (take k octets)) characters_len-address_octets
      ∙ ap (λ l. half (take (length a.call.characters) (l ++ last ∷ []))) parts_apart
      ∙ ap (λ l. half (take (length a.call.characters) l))
      (append_assoc (double a.call.characters) spaces (last ∷ []))
      ∙ ap half (take_at (double a.call.characters) (spaces ++ last ∷ []) (length a.call.characters)
      (length-map a.call.characters (λ b. 2 * b)))
      ∙ half-double a.call.characters

  last-is : slice_index octets 6 ≡ last
  last-is = get_or_at character_octets last [] 0 6 six

module _ (extension : ℕ) (small : extension < 2) (a : Address) (h : IsAddress a) where
  -- reading an address's octets gives the address
  pub address_of-address_octets : address_of (address_octets extension a) ≡ a
  address_of-address_octets =
      let f = h.flags in
      let s = h.call.ssid in
      let top : (32 * a.flags + 2 * a.call.ssid + extension) / 32 ≡ a.flags = omega arith in
      let low : ((32 * a.flags + 2 * a.call.ssid + extension) / 2) % 16 ≡ a.call.ssid =
      omega arith in
      ap (λ l. record {
        call =
            record { characters = l; ssid = (slice_index (address_octets extension a) 6 / 2) % 16 };
        flags = slice_index (address_octets extension a) 6 / 32;
      }) (characters-are extension a h)
      ∙ ap (λ o. record {
        call = record { characters = a.call.characters; ssid = (o / 2) % 16 };
        flags =
            o / 32;
      }) (last-is extension a h)
      ∙ ap (λ n. record {
        call = record { characters = a.call.characters; ssid = n };
        flags =
            (32 * a.flags + 2 * a.call.ssid + extension) / 32;
      }) low
      ∙ ap (λ n. record {
        call = record { characters = a.call.characters; ssid = a.call.ssid };
        flags =
            n;
      }) top

-- ---- octets that are an address

split_last : (os : List ℕ) → length os ≡ 7 → os ≡ take 6 os ++ slice_index os 6 ∷ []
split_last os seven = sym (take_all 7 os (omega arith)) ∙ take_more os 6 0 (omega arith)

last_octet : (o : ℕ) → o ≡ 32 * (o / 32) + 2 * ((o / 2) % 16) + o % 2
last_octet o = omega arith

module _ (os : List ℕ) (seven : length os ≡ 7) (h : has_callsign os ≡ true)
    (e : are_even (take 6 os) ≡ true) where
  abbrev len : ℕ
  len = characters_len os

  abbrev characters : List ℕ
  characters = take len os

  abbrev spaces : List ℕ
  spaces = drop len (take 6 os)

  six_apart : take 6 os ≡ characters ++ spaces
  six_apart = sym (take-append-drop len (take 6 os))
      ∙ ap (λ l. l ++ spaces) (take-take len 6 os (characters_len-le os))

  both_even : (are_even characters ≡ true) × (are_even spaces ≡ true)
  both_even = and_parts _ _
      (sym (list_all-append (λ o. not (ends_field o)) characters spaces) ∙ ap are_even (sym six_apart)
      ∙ e)

  len_half : length (half characters) ≡ len
  len_half = length-map characters (λ o. o / 2)
      ∙ length-take-le len os (omega (arith, characters_len-le os))

  len_spaces : length spaces ≡ 6 - len
  len_spaces = length-drop len (take 6 os) ∙ ap (λ n. n - len) (length-take-le 6 os (omega arith))

  front_is : double (characters_and_spaces (half characters)) ≡ take 6 os
  front_is =
      map-append (λ b. 2 * b) (half characters) (replicate (6 - length (half characters)) 32)
      ∙ ap (λ l. l ++ double (replicate (6 - length (half characters)) 32))
      (double-half characters both_even.0)
      ∙ ap (λ n. characters ++ double (replicate (6 - n) 32)) len_half
      ∙ ap (λ n. characters ++ double (replicate n 32)) (sym len_spaces)
      ∙ ap (λ l. characters ++ l) (sym (spaces-are spaces (and_parts _ _ h).1 both_even.1))
      ∙ sym six_apart

  pub address_of-spells : os ≡ address_octets (slice_index os 6 % 2) (address_of os)
  address_of-spells =
      split_last os seven ∙ ap (λ l. l ++ slice_index os 6 ∷ []) (sym front_is)
      ∙ ap (λ o. double (characters_and_spaces (half characters)) ++ o ∷ []) (last_octet (slice_index os 6))

pub address_of-IsAddress : (os : List ℕ) → length os ≡ 7 → has_callsign os ≡ true
    → slice_index os 6 < 256 → IsAddress (address_of os)
address_of-IsAddress os seven h small =
    record { call = call_of-IsCall os seven h; flags = omega arith }
