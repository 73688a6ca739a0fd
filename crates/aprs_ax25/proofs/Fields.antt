-- Lemmas on the address field: it ends where it says, and its sevens are its addresses.
use Rattle.std.proofs.Common.{◌≡◌, ℕ, ◌+◌, ◌*◌, ◌%◌, ◌≤◌, ◌<◌, ◌==◌, suc, zero, List, [], ◌∷◌, ◌++◌, length, take, drop, map, true, false, not, cond, arith, sym, ap, ◌∙◌, refl, slice_index, append_assoc, subst, take-append-drop}
use Rattle.std.specs.List.{list_all, position_or_len, AllByRecursion, All}
use Rattle.std.proofs.lemmas.List.{length-take, length-take-le, length-drop, length-append, take_at, drop_at, take_all, take-take, get_or-take, get_or-drop}
use Rattle.std.proofs.lemmas.List.Sums.{fails_before_first, passes_at_first, list_all-from_AllPass}
use Rattle.std.proofs.lemmas.Bool.{and_parts, and_from, eqb-true, eqb-false, ne_eqb}
use Rattle.aprs_ax25.specs.Address.{Address, IsAddress, characters_and_spaces, address_octets}
use Rattle.aprs_ax25.specs.Frame.{address_field}
use Rattle.aprs_ax25.specs.FrameFault.{ends_field, sevens, has_callsign, address_of}
use Rattle.aprs_ax25.proofs.Addresses.{double, are_even, are_even-double, length-address_octets, has_callsign-address_octets, address_of-address_octets, address_of-spells, address_of-IsAddress}

-- nothing ends the field in octets that are even
pub position-past : (xs ys : List ℕ) → are_even xs ≡ true → position_or_len ends_field (xs ++ ys)
    ≡ length xs + position_or_len ends_field ys
position-past [] ys h = omega arith
position-past (x ∷ xs) ys h =
    let p = and_parts _ _ h in
    ap (λ b. cond b (1 + position_or_len ends_field (xs ++ ys)) 0) p.0
    ∙ ap (λ n. 1 + n) (position-past xs ys p.1) ∙ omega arith

module _ (a : Address) (h : IsAddress a) (rest : List ℕ) where
  abbrev character_octets : List ℕ
  character_octets = double (characters_and_spaces a.call.characters)

  abbrev last : ℕ → ℕ
  last extension = 32 * a.flags + 2 * a.call.ssid + extension

  six : length character_octets ≡ 6
  six = omega (arith, length-address_octets 0 a h, length-append character_octets (last 0 ∷ []))

  last_even : not (ends_field (last 0)) ≡ true
  last_even = ap not (ne_eqb (last 0 % 2) 1 (λ e. omega arith))

  last_odd : not (ends_field (last 1)) ≡ false
  last_odd = let e : last 1 % 2 ≡ 1 = omega arith in ap (λ n. not (n == 1)) e

  -- the field goes on after an address whose extension bit is 0
  pub position-more : position_or_len ends_field (address_octets 0 a ++ rest)
      ≡ 7 + position_or_len ends_field rest
  position-more =
      ap (position_or_len ends_field) (append_assoc character_octets (last 0 ∷ []) rest)
      ∙ position-past character_octets (last 0 ∷ rest) (are_even-double (characters_and_spaces a.call.characters))
      ∙ ap (λ n. n + cond (not (ends_field (last 0))) (1 + position_or_len ends_field rest) 0) six
      ∙ ap (λ b. 6 + cond b (1 + position_or_len ends_field rest) 0) last_even
      ∙ omega arith

  -- and ends with one whose extension bit is 1
  pub position-last : position_or_len ends_field (address_octets 1 a ++ rest) ≡ 6
  position-last =
      ap (position_or_len ends_field) (append_assoc character_octets (last 1 ∷ []) rest)
      ∙ position-past character_octets (last 1 ∷ rest) (are_even-double (characters_and_spaces a.call.characters))
      ∙ ap (λ n. n + cond (not (ends_field (last 1))) (1 + position_or_len ends_field rest) 0) six
      ∙ ap (λ b. 6 + cond b (1 + position_or_len ends_field rest) 0) last_odd

-- the field of these addresses is so long
pub length-address_field : (a : Address) (others : List Address)
    → AllByRecursion IsAddress (a ∷ others) → length (address_field (a ∷ others))
    ≡ 7 * suc (length others)
length-address_field a [] h = length-address_octets 1 a h.0
length-address_field a (b ∷ others) h =
    length-append (address_octets 0 a) (address_field (b ∷ others))
    ∙ ap (λ n. n + length (address_field (b ∷ others))) (length-address_octets 0 a h.0)
    ∙ ap (λ n. 7 + n) (length-address_field b others h.1) ∙ omega arith

-- and its last octet is the first that ends a field
pub position-address_field : (a : Address) (others : List Address) (rest : List ℕ)
    → AllByRecursion IsAddress (a ∷ others)
    → position_or_len ends_field (address_field (a ∷ others) ++ rest) + 1 ≡ 7 * suc (length others)
position-address_field a [] rest h = ap (λ n. n + 1) (position-last a h.0 rest)
position-address_field a (b ∷ others) rest h =
    ap (λ l. position_or_len ends_field l + 1)
    (append_assoc (address_octets 0 a) (address_field (b ∷ others)) rest)
    ∙ ap (λ n. n + 1) (position-more a h.0 (address_field (b ∷ others) ++ rest))
    ∙ omega (arith, position-address_field b others rest h.1)

-- the sevens of a field are its addresses
pub record Holds (others : List Address) (pieces : List (List ℕ)) : Type 0 where
  pub callsigns : list_all has_callsign pieces ≡ true
  pub addresses : map address_of pieces ≡ others

pub sevens-address_field : (a : Address) (others : List Address)
    → AllByRecursion IsAddress (a ∷ others)
    → Holds (a ∷ others) (sevens (suc (length others)) (address_field (a ∷ others)))
sevens-address_field a [] h =
    let whole : take 7 (address_octets 1 a) ≡ address_octets 1 a =
    take_all 7 (address_octets 1 a) (omega (arith, length-address_octets 1 a h.0)) in
    record {
      callsigns = and_from _ _ (ap has_callsign whole ∙ has_callsign-address_octets 1 a h.0) refl;
      addresses = ap (λ l. address_of l ∷ []) whole
          ∙ ap (λ x. x ∷ []) (address_of-address_octets 1 (omega arith) a h.0);
    }
sevens-address_field a (b ∷ others) h =
    let first = address_octets 0 a in
    let more = address_field (b ∷ others) in
    let seven = length-address_octets 0 a h.0 in
    let e : sevens (suc (suc (length others))) (first ++ more)
    ≡ first ∷ sevens (suc (length others)) more =
    ap (λ l. l ∷ sevens (suc (length others)) (drop 7 (first ++ more))) (take_at first more 7 seven)
    ∙ ap (λ l. first ∷ sevens (suc (length others)) l) (drop_at first more 7 seven) in
    let left = sevens-address_field b others h.1 in
    record {
      callsigns = ap (list_all has_callsign) e
          ∙ and_from _ _ (has_callsign-address_octets 0 a h.0) left.callsigns;
      addresses = ap (map address_of) e
          ∙ ap (λ x. x ∷ map address_of (sevens (suc (length others)) more))
          (address_of-address_octets 0 (omega arith) a h.0)
          ∙ ap (λ l. a ∷ l) left.addresses;
    }

-- ---- octets that are a field

are_even-character_octets : (n : ℕ) (xs : List ℕ) → n ≤ position_or_len ends_field xs
    → are_even (take n xs) ≡ true
are_even-character_octets n xs h =
    list_all-from_AllPass (λ o. not (ends_field o)) (take n xs) (λ k d lt.
    let low : k < n = omega (arith, length-take n xs) in
    ap (λ o. not (ends_field o)) (get_or-take n xs k d low)
    ∙ ap not (fails_before_first ends_field xs k d (omega arith)))

even-at : (xs : List ℕ) (k : ℕ) → k < position_or_len ends_field xs → slice_index xs k % 2 ≡ 0
even-at xs k h =
    let e : (slice_index xs k % 2 == 1) ≡ false = fails_before_first ends_field xs k 0 h in
    let ne : slice_index xs k % 2 ≡ 1 → ⊥ = eqb-false (slice_index xs k % 2) 1 e in
    omega arith

odd-at : (xs : List ℕ) (k : ℕ) → k ≡ position_or_len ends_field xs → k < length xs
    → slice_index xs k % 2 ≡ 1
odd-at xs k is h =
    let e : (slice_index xs (position_or_len ends_field xs) % 2 == 1) ≡ true =
    passes_at_first ends_field xs 0 (omega arith) in
    ap (λ i. slice_index xs i % 2) is
    ∙ eqb-true (slice_index xs (position_or_len ends_field xs) % 2) 1 e

pub All-take : (n : ℕ) (xs : List ℕ) → All (λ b. b < 256) xs → All (λ b. b < 256) (take n xs)
All-take n xs h = λ k d lt.
    let P : ℕ → Type 0 = λ b. b < 256 in
    subst P (sym (get_or-take n xs k d (omega (arith, length-take n xs))))
    (h k d (omega (arith, length-take n xs)))

All-drop : (n : ℕ) (xs : List ℕ) → All (λ b. b < 256) xs → All (λ b. b < 256) (drop n xs)
All-drop n xs h = λ k d lt.
    let P : ℕ → Type 0 = λ b. b < 256 in
    subst P (sym (get_or-drop n xs k d)) (h (n + k) d (omega (arith, length-drop n xs)))

-- these octets, whose first with bit 0 set is the last, are the field of their sevens' addresses
pub record Spells (field : List ℕ) (pieces : List (List ℕ)) : Type 0 where
  pub spelled : field ≡ address_field (map address_of pieces)
  pub each : AllByRecursion IsAddress (map address_of pieces)

pub Spells-sevens : (m : ℕ) (field : List ℕ) → length field ≡ 7 * suc m
    → position_or_len ends_field field + 1 ≡ length field
    → list_all has_callsign (sevens (suc m) field) ≡ true → All (λ b. b < 256) field
    → Spells field (sevens (suc m) field)
Spells-sevens zero field len end calls bytes =
    let seven : length field ≡ 7 = omega arith in
    let whole : take 7 field ≡ field = take_all 7 field (omega arith) in
    let call : has_callsign field ≡ true = ap has_callsign (sym whole) ∙ (and_parts _ _ calls).0 in
    let P : List ℕ → Type 0 = λ l. Spells field (l ∷ []) in
    subst P (sym whole) (record {
      spelled = address_of-spells field seven call (are_even-character_octets 6 field (omega arith))
          ∙ ap (λ n. address_octets n (address_of field))
          (odd-at field 6 (omega arith) (omega arith));
      each = (address_of-IsAddress field seven call (bytes 6 0 (omega arith)), tt);
    })
Spells-sevens (suc m) field len end calls bytes =
    let first = take 7 field in
    let rest = drop 7 field in
    let apart : first ++ rest ≡ field = take-append-drop 7 field in
    let seven : length first ≡ 7 = length-take-le 7 field (omega arith) in
    let len_rest : length rest ≡ 7 * suc m = omega (arith, length-drop 7 field) in
    let even : are_even first ≡ true = are_even-character_octets 7 field (omega arith) in
    let there : position_or_len ends_field field ≡ 7 + position_or_len ends_field rest =
    ap (position_or_len ends_field) (sym apart) ∙ position-past first rest even
    ∙ ap (λ n. n + position_or_len ends_field rest) seven in
    let call : has_callsign first ≡ true = (and_parts _ _ calls).0 in
    let six : are_even (take 6 first) ≡ true = ap are_even (take-take 6 7 field (omega arith))
    ∙ are_even-character_octets 6 field (omega arith) in
    let last : slice_index first 6 % 2 ≡ 0 = ap (λ o. o % 2) (get_or-take 7 field 6 0 (omega arith))
    ∙ even-at field 6 (omega arith) in
    let left = Spells-sevens m rest len_rest (omega arith) (and_parts _ _ calls).1
    (All-drop 7 field bytes) in
    record {
      spelled = sym apart
          ∙ ap (λ l. l ++ rest)
          (address_of-spells first seven call six
          ∙ ap (λ n. address_octets n (address_of first)) last)
          ∙ ap (λ l. address_octets 0 (address_of first) ++ l) left.spelled;
      each = (
        address_of-IsAddress first seven call (All-take 7 field bytes 6 0 (omega arith)),
        left.each,
      );
    }
