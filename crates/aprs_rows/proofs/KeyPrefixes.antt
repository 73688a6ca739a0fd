-- Prefixes are in order as the keys are, as far as they go.
use Rattle.aprs_rows.proofs.Common.{◌≡◌, ◌∙◌, ℕ, zero, suc, ◌+◌, ◌*◌, ◌-◌, ◌/◌, ◌%◌, ◌<◌, ◌≤◌, List, [], ◌∷◌, ◌++◌, length, take, drop, replicate, get_or, slice_index, append_assoc, true, refl, sym, ap, arith, w64, from_be_bytes, nat_cmp, ordering_then, Ordering, Less, Equal, Greater, list_all, nat_tests, and_parts, IsTotalOrder, tied_itself, then_total, on_total, nat_cmp_total, length-append, length-replicate, take_at, drop_at, take-take, Parts, FrameOf, address_field, call_of, parts_of, bytes_cmp, Key, ordering_then_assoc}
use Rattle.aprs_transmissions.specs.Key.{key_of, key_cmp}
use Rattle.std.proofs.lemmas.Map.Lookups.{CmpEqualImpliesEq, exact_pairs, exact_unsigned}
use Rattle.aprs_ax25.specs.Address.{Address, IsAddress, characters_and_spaces, address_octets}
use Rattle.aprs_ax25.specs.Callsign.{Call, IsCall, call_cmp, is_callsign_byte}
use Rattle.aprs_ax25.specs.Frame.{control_ui, pid_none}
use Rattle.aprs_ax25.proofs.Addresses.{double, half, length-address_octets}
use Rattle.aprs_rows.proofs.Digits.{Bytes, be_cmp, be_cmp_all, first_then_all, then_equal}
use Rattle.aprs_rows.specs.KeyPrefix.{call_number, key_prefix_of, HasKeyPrefix}
use Rattle.aprs_rows.specs.KeyPrefixSteps.{octets_number, head_cmp}
use Rattle.aprs_rows.specs.declared.row.key_prefix.KeyPrefix.{KeyPrefix}

-- ---- the numbers of callsigns

Bytes-append : (xs ys : List ℕ) → Bytes xs → Bytes ys → Bytes (xs ++ ys)
Bytes-append [] ys h k i = k i
Bytes-append (x ∷ xs) ys h k zero = h 0
Bytes-append (x ∷ xs) ys h k (suc i) = Bytes-append xs ys (λ j. h (suc j)) k i

Bytes-spaces : (n : ℕ) → Bytes (replicate n 32)
Bytes-spaces zero i = omega arith
Bytes-spaces (suc n) zero = omega arith
Bytes-spaces (suc n) (suc i) = Bytes-spaces n i

low : (b : ℕ) → is_callsign_byte b ≡ true → b < 256
low b h = grind arith

high : (b : ℕ) → is_callsign_byte b ≡ true → 32 < b
high b h = grind arith

Bytes-letters : (xs : List ℕ) → list_all is_callsign_byte xs ≡ true → Bytes xs
Bytes-letters [] h i = omega arith
Bytes-letters (x ∷ xs) h zero = low x (and_parts _ _ h).0
Bytes-letters (x ∷ xs) h (suc i) = Bytes-letters xs (and_parts _ _ h).1 i

space_less : (y : ℕ) → 32 < y → nat_cmp 32 y ≡ Less
space_less y h = grind (arith, nat_tests)

space_greater : (x : ℕ) → 32 < x → nat_cmp x 32 ≡ Greater
space_greater x h = grind (arith, nat_tests)

same_front : (xs : List ℕ) (m n : ℕ) → bytes_cmp (xs ++ m ∷ []) (xs ++ n ∷ []) ≡ nat_cmp m n
same_front [] m n = then_equal (nat_cmp m n)
same_front (x ∷ xs) m n = rw (tied_itself nat_cmp_total x) (same_front xs m n)

-- a space is below each letter
spaced_cmp : (a b : List ℕ) (i j m n : ℕ) → length a + i ≡ length b + j
    → list_all is_callsign_byte a ≡ true → list_all is_callsign_byte b ≡ true
    → bytes_cmp ((a ++ replicate i 32) ++ m ∷ []) ((b ++ replicate j 32) ++ n ∷ [])
    ≡ ordering_then (bytes_cmp a b) (nat_cmp m n)
spaced_cmp [] [] i j m n e h k =
    let same : i ≡ j = omega (arith, e) in rw same (same_front (replicate j 32) m n)
spaced_cmp [] (y ∷ b) zero j m n e h k = absurd (omega (arith, e))
spaced_cmp [] (y ∷ b) (suc i) j m n e h k = rw (space_less y (high y (and_parts _ _ k).0)) refl
spaced_cmp (x ∷ a) [] i zero m n e h k = absurd (omega (arith, e))
spaced_cmp (x ∷ a) [] i (suc j) m n e h k = rw (space_greater x (high x (and_parts _ _ h).0)) refl
spaced_cmp (x ∷ a) (y ∷ b) i j m n e h k =
    ap (ordering_then (nat_cmp x y))
    (spaced_cmp a b i j m n (omega (arith, e)) (and_parts _ _ h).1 (and_parts _ _ k).1)
    ∙ sym (ordering_then_assoc (nat_cmp x y) (bytes_cmp a b) (nat_cmp m n))

abbrev digits : Call → List ℕ
digits c = 0 ∷ characters_and_spaces c.characters ++ c.ssid ∷ []

Bytes-digits : (c : Call) → IsCall c → Bytes (digits c)
Bytes-digits c h zero = omega arith
Bytes-digits c h (suc i) =
    Bytes-append (characters_and_spaces c.characters) (c.ssid ∷ [])
    (Bytes-append c.characters _ (Bytes-letters c.characters h.bytes) (Bytes-spaces _)) ssid i where
      ssid : Bytes (c.ssid ∷ [])
      ssid zero = omega (arith, h.ssid)
      ssid (suc i) = omega arith

length-digits : (c : Call) → IsCall c → length (digits c) ≡ 8
length-digits c h =
    omega (
      arith,
      h.most,
      length-append (characters_and_spaces c.characters) (c.ssid ∷ []),
      length-append c.characters (replicate (6 - length c.characters) 32),
      length-replicate {A = ℕ} (6 - length c.characters) 32,
    )

-- the numbers of callsigns are in order as the callsigns are
call_number_cmp : (a b : Call) → IsCall a → IsCall b
    → nat_cmp (call_number a) (call_number b) ≡ call_cmp a b
call_number_cmp a b h k =
    be_cmp_all (digits a) (digits b) (length-digits a h) (length-digits b k) (Bytes-digits a h)
    (Bytes-digits b k)
    ∙ spaced_cmp a.characters b.characters (6 - length a.characters) (6 - length b.characters) a.ssid b.ssid
    (omega (arith, h.most, k.most)) h.bytes k.bytes

-- ---- prefixes

key_head : (a b : Key) → IsCall a.source → IsCall b.source → IsCall a.destination
    → IsCall b.destination → Bytes a.info → Bytes b.info
    → ordering_then (head_cmp (key_prefix_of a) (key_prefix_of b)) (bytes_cmp a.info b.info) ≡ key_cmp a b
unfolding key_cmp key_prefix_of
key_head a b s t d e h k =
    ordering_then_assoc (nat_cmp (call_number a.source) (call_number b.source)) _ _
    ∙ ap (λ o. ordering_then (nat_cmp (call_number a.source) (call_number b.source)) o)
    (ordering_then_assoc (nat_cmp (call_number a.destination) (call_number b.destination)) _ _)
    ∙ rw (
      call_number_cmp a.source b.source s t,
      call_number_cmp a.destination b.destination d e,
      be_cmp a.info b.info h k,
      first_then_all 8 a.info b.info,
    ) refl

-- the prefixes of frames decide as their keys do, and where they are equal the information decides
pub head_then_info : (f g : List ℕ) → FrameOf (parts_of f) f → FrameOf (parts_of g) g
    → ((i : ℕ) → get_or (key_of f).info i 0 < 256) → ((i : ℕ) → get_or (key_of g).info i 0 < 256)
    → ordering_then (head_cmp (key_prefix_of (key_of f)) (key_prefix_of (key_of g)))
    (bytes_cmp (key_of f).info (key_of g).info)
    ≡ key_cmp (key_of f) (key_of g)
unfolding key_of
head_then_info f g p q h k =
    key_head (key_of f) (key_of g) p.parts.source.call q.parts.source.call
    p.parts.destination.call q.parts.destination.call h k

-- ---- how code makes a prefix

half_double : (xs : List ℕ) → half (double xs) ≡ xs
half_double [] = refl
half_double (x ∷ xs) =
    let e : (2 * x) / 2 ≡ x = omega arith in
    ap (λ y. y ∷ half (double xs)) e ∙ ap (λ t. x ∷ t) (half_double xs)

-- the letters of an address that stands first, each shifted left by one bit
first_doubled : (extension : ℕ) (a : Address) → IsAddress a → (more : List ℕ)
    → take 6 (take 7 (address_octets extension a ++ more)) ≡ double (characters_and_spaces a.call.characters)
first_doubled extension a h more =
    let letters = double (characters_and_spaces a.call.characters) in
    let last = 32 * a.flags + 2 * a.call.ssid + extension in
    ap (λ t. take 6 (take 7 t)) (append_assoc letters (last ∷ []) more)
    ∙ take-take 6 7 (letters ++ last ∷ more) (omega arith)
    ∙ take_at letters (last ∷ more) 6
    (omega (arith, length-address_octets extension a h, length-append letters (last ∷ [])))

field_doubled : (a : Address) (others : List Address) → IsAddress a → (more : List ℕ)
    → take 6 (take 7 (address_field (a ∷ others) ++ more)) ≡ double (characters_and_spaces a.call.characters)
field_doubled a [] h more = first_doubled 1 a h more
field_doubled a (b ∷ others) h more =
    ap (λ t. take 6 (take 7 t))
    (append_assoc (address_octets 0 a) (address_field (b ∷ others)) more)
    ∙ first_doubled 0 a h _

-- what follows the seven octets of an address says nothing
seven_say : (octets : List ℕ) → octets_number (take 8 octets) ≡ octets_number (take 7 octets)
seven_say [] = refl
seven_say (a ∷ []) = refl
seven_say (a ∷ b ∷ []) = refl
seven_say (a ∷ b ∷ c ∷ []) = refl
seven_say (a ∷ b ∷ c ∷ d ∷ []) = refl
seven_say (a ∷ b ∷ c ∷ d ∷ e ∷ []) = refl
seven_say (a ∷ b ∷ c ∷ d ∷ e ∷ f ∷ []) = refl
seven_say (a ∷ b ∷ c ∷ d ∷ e ∷ f ∷ g ∷ []) = refl
seven_say (a ∷ b ∷ c ∷ d ∷ e ∷ f ∷ g ∷ h ∷ more) = refl

-- the first six octets are even
even_at : (letters octets : List ℕ) → take 6 (take 7 octets) ≡ double letters → (i : ℕ) → i < 6
    → slice_index (take 8 octets) i % 2 ≡ 0
even_at letters octets e i h = ap (λ n. n % 2) (first_six octets i h ∙ ap (λ l. slice_index l i) e)
    ∙ doubled_even letters i where
      first_six : (l : List ℕ) (i : ℕ) → i < 6 → slice_index (take 8 l) i ≡ slice_index (take 6 (take 7 l)) i
      first_six [] i h = refl
      first_six (a ∷ l) zero h = refl
      first_six (a ∷ []) (suc i) h = refl
      first_six (a ∷ b ∷ l) (suc zero) h = refl
      first_six (a ∷ b ∷ []) (suc (suc i)) h = refl
      first_six (a ∷ b ∷ c ∷ l) (suc (suc zero)) h = refl
      first_six (a ∷ b ∷ c ∷ []) (suc (suc (suc i))) h = refl
      first_six (a ∷ b ∷ c ∷ d ∷ l) (suc (suc (suc zero))) h = refl
      first_six (a ∷ b ∷ c ∷ d ∷ []) (suc (suc (suc (suc i)))) h = refl
      first_six (a ∷ b ∷ c ∷ d ∷ e ∷ l) (suc (suc (suc (suc zero)))) h = refl
      first_six (a ∷ b ∷ c ∷ d ∷ e ∷ []) (suc (suc (suc (suc (suc i))))) h = refl
      first_six (a ∷ b ∷ c ∷ d ∷ e ∷ f ∷ l) (suc (suc (suc (suc (suc zero))))) h = refl
      first_six (a ∷ b ∷ c ∷ d ∷ e ∷ f ∷ l) (suc (suc (suc (suc (suc (suc i)))))) h = absurd (omega (arith, h))

      doubled_even : (xs : List ℕ) (i : ℕ) → slice_index (double xs) i % 2 ≡ 0
      doubled_even [] i = refl
      doubled_even (x ∷ xs) zero = let e : (2 * x) % 2 ≡ 0 = omega arith in e
      doubled_even (x ∷ xs) (suc i) = doubled_even xs i

spelled_number : (octets : List ℕ) → half (take 6 octets) ≡ characters_and_spaces (call_of octets).characters
    → octets_number octets ≡ call_number (call_of octets)
spelled_number octets e =
    ap (λ t. from_be_bytes w64 (0 ∷ t ++ slice_index octets 6 / 2 % 16 ∷ [])) e

field_at_least : (a : Address) (others : List Address) → IsAddress a
    → 7 ≤ length (address_field (a ∷ others))
field_at_least a [] h = omega (arith, length-address_octets 1 a h)
field_at_least a (b ∷ others) h =
    omega (
      arith,
      length-address_octets 0 a h,
      length-append (address_octets 0 a) (address_field (b ∷ others)),
    )

module _ (f : List ℕ) (h : FrameOf (parts_of f) f) where
  abbrev p : Parts
  p = parts_of f

  -- two addresses, control and PID
  pub two_addresses : 16 ≤ length f
  two_addresses =
      let first = address_octets 0 p.destination in
      let others = address_field (p.source ∷ p.digipeaters) in
      omega (
        arith,
        ap length h.spelled,
        length-append (first ++ others) (control_ui ∷ pid_none ∷ p.info),
        length-append first others,
        length-address_octets 0 p.destination h.parts.destination,
        field_at_least p.source p.digipeaters h.parts.source,
      )

  source_doubled : take 6 (take 7 (drop 7 f)) ≡ double (characters_and_spaces p.source.call.characters)
  source_doubled =
      ap (λ t. take 6 (take 7 (drop 7 t)))
      (h.spelled ∙ append_assoc (address_octets 0 p.destination)
      (address_field (p.source ∷ p.digipeaters)) _)
      ∙ ap (λ t. take 6 (take 7 t))
      (drop_at (address_octets 0 p.destination) _ 7
      (length-address_octets 0 p.destination h.parts.destination))
      ∙ field_doubled p.source p.digipeaters h.parts.source _

  destination_doubled : take 6 (take 7 f) ≡ double (characters_and_spaces p.destination.call.characters)
  destination_doubled = ap (λ t. take 6 (take 7 t)) h.spelled
      ∙ field_doubled p.destination (p.source ∷ p.digipeaters) h.parts.destination _

  pub source_even : (i : ℕ) → i < 6 → slice_index (take 8 (drop 7 f)) i % 2 ≡ 0
  source_even = even_at (characters_and_spaces p.source.call.characters) (drop 7 f) source_doubled

  pub destination_even : (i : ℕ) → i < 6 → slice_index (take 8 f) i % 2 ≡ 0
  destination_even = even_at (characters_and_spaces p.destination.call.characters) f destination_doubled

  source_number : octets_number (take 8 (drop 7 f)) ≡ call_number p.source.call
  source_number =
      seven_say (drop 7 f)
      ∙ spelled_number (take 7 (drop 7 f))
      (ap half source_doubled ∙ half_double (characters_and_spaces p.source.call.characters))

  destination_number : octets_number (take 8 f) ≡ call_number p.destination.call
  destination_number =
      seven_say f
      ∙ spelled_number (take 7 f)
      (ap half destination_doubled ∙ half_double (characters_and_spaces p.destination.call.characters))

  pub head_made : (bytes info : List ℕ) (s d i : ℕ) → bytes ≡ f → info ≡ p.info
      → s ≡ octets_number (take 8 (drop 7 bytes)) → d ≡ octets_number (take 8 bytes)
      → i ≡ from_be_bytes w64 info
      → record { source = s; destination = d; info = i } ≡ key_prefix_of (key_of f)
  unfolding key_of key_prefix_of
  head_made bytes info s d i b e q r k = λ t.
      record {
        source = (q ∙ ap (λ l. octets_number (take 8 (drop 7 l))) b ∙ source_number) t;
        destination = (r ∙ ap (λ l. octets_number (take 8 l)) b ∙ destination_number) t;
        info = (k ∙ ap (from_be_bytes w64) e) t;
      }

decided : (o r : Ordering) → (o ≡ Equal → ⊥) → ordering_then o r ≡ o
decided Less r n = refl
decided Equal r n = absurd (n refl)
decided Greater r n = refl

-- prefixes decide, and where they are equal the information does
pub head_and_info : (f g : List ℕ) (h k : KeyPrefix) → HasKeyPrefix h f → HasKeyPrefix k g
    → ordering_then (head_cmp h k) (bytes_cmp (parts_of f).info (parts_of g).info)
    ≡ key_cmp (key_of f) (key_of g)
unfolding key_of
head_and_info f g h k a b =
    (λ t. ordering_then (head_cmp (a.head t) (b.head t))
    (bytes_cmp (parts_of f).info (parts_of g).info))
    ∙ head_then_info f g a.frame b.frame a.bytes b.bytes

-- prefixes that differ decide
pub heads_decide : (f g : List ℕ) (h k : KeyPrefix) → HasKeyPrefix h f → HasKeyPrefix k g
    → (head_cmp h k ≡ Equal → ⊥) → head_cmp h k ≡ key_cmp (key_of f) (key_of g)
heads_decide f g h k a b n =
    sym (decided (head_cmp h k) (bytes_cmp (parts_of f).info (parts_of g).info) n)
    ∙ head_and_info f g h k a b

-- where they are equal, the information does
pub infos_decide : (f g : List ℕ) (h k : KeyPrefix) → HasKeyPrefix h f → HasKeyPrefix k g
    → head_cmp h k ≡ Equal
    → bytes_cmp (parts_of f).info (parts_of g).info ≡ key_cmp (key_of f) (key_of g)
infos_decide f g h k a b e =
    sym (ap (λ o. ordering_then o (bytes_cmp (parts_of f).info (parts_of g).info)) e)
    ∙ head_and_info f g h k a b

pub head_less : (f g : List ℕ) (h k : KeyPrefix) → HasKeyPrefix h f → HasKeyPrefix k g → head_cmp h k ≡ Less
    → key_cmp (key_of f) (key_of g) ≡ Less
head_less f g h k a b e =
    sym (heads_decide f g h k a b (λ n. let no : Less ≡ Equal = sym e ∙ n in cc)) ∙ e

pub head_greater : (f g : List ℕ) (h k : KeyPrefix) → HasKeyPrefix h f → HasKeyPrefix k g
    → head_cmp h k ≡ Greater → key_cmp (key_of f) (key_of g) ≡ Greater
head_greater f g h k a b e =
    sym (heads_decide f g h k a b (λ n. let no : Greater ≡ Equal = sym e ∙ n in cc)) ∙ e

-- ---- the order of prefixes

pub head_total : IsTotalOrder head_cmp
head_total =
    then_total (on_total (λ h. h.source) nat_cmp_total)
    (then_total (on_total (λ h. h.destination) nat_cmp_total)
    (on_total (λ h. h.info) nat_cmp_total))

pub head_exact : CmpEqualImpliesEq head_cmp
head_exact a b h =
    ap (λ (p : ℕ × (ℕ × ℕ)). record { source = p.0; destination = p.1.0; info = p.1.1 })
    (exact_pairs nat_cmp
    (λ (x y : ℕ × ℕ). ordering_then (nat_cmp x.0 y.0) (nat_cmp x.1 y.1)) exact_unsigned
    (exact_pairs nat_cmp nat_cmp exact_unsigned exact_unsigned)
    (a.source, (a.destination, a.info)) (b.source, (b.destination, b.info)) h)
