-- Bytes without a fault are the frame of their parts.
use Rattle.std.proofs.Common.{◌≡◌, ℕ, ◌+◌, ◌-◌, ◌*◌, ◌/◌, ◌%◌, ◌≤◌, ◌<◌, ◌==◌, suc, zero, List, [], ◌∷◌, ◌++◌, length, get_or, take, drop, map, Bool, true, false, not, cond, ◌&&◌, nat_le, Option, None, Some, slice_get, arith, sym, ap, ◌∙◌, refl, slice_index, subst, take-append-drop}
use Rattle.std.specs.List.{list_all, position_or_len, AllByRecursion, All}
use Rattle.std.proofs.lemmas.List.{length-take-le, length-drop, length-map, take-take, drop-take, drop-drop, get_or-take, get_or-drop}
use Rattle.std.proofs.lemmas.Option.{slice_get-map, slice_get-get_or}
use Rattle.std.specs.Option.{option_map}
use Rattle.std.proofs.lemmas.List.Sums.{fails_before_first, passes_at_first, position_or_len_is, AllPass-from_list_all}
use Rattle.std.proofs.lemmas.Bool.{and_parts, and_from, eqb-true, leb-true, leb-false, ltb-false, le-leb, lt-leb, le-ltb}
use Rattle.aprs_ax25.specs.Address.{Address, IsAddress}
use Rattle.aprs_ax25.specs.Frame.{Parts, FrameOf, address_field}
use Rattle.aprs_ax25.specs.FrameFault.{ends_field, field_len, field_of, after_field, is_field_len, sevens, has_callsign, addresses, has_frame_fault, frame_fault, address_of, parts_of}
use Rattle.aprs_ax25.specs.declared.fault.FrameFault.TheVariants.{Address as AddressFault, Callsign, Control, Pid, NoInfo, LongInfo}
use Rattle.aprs_ax25.specs.UiFrame.{IsUiFrame}
use Rattle.aprs_ax25.proofs.Fields.{Spells, Spells-sevens, All-take}

pub cond-None : {X : Type 0} (b : Bool) (x : X) (r : Option X) → cond b (Some x) r ≡ None
    → (b ≡ false) × (r ≡ None)
cond-None true x r h = cc
cond-None false x r h = (refl, h)

pub not-false : (b : Bool) → not b ≡ false → b ≡ true
not-false true h = refl
not-false false h = cc

pub frame_fault-IsSound : (bytes : List ℕ) → frame_fault bytes ≡ None → IsUiFrame bytes
frame_fault-IsSound bytes h =
    let address = cond-None (has_frame_fault AddressFault bytes) _ _ h in
    let callsign = cond-None (has_frame_fault Callsign bytes) _ _ address.1 in
    let control = cond-None (has_frame_fault Control bytes) _ _ callsign.1 in
    let pid = cond-None (has_frame_fault Pid bytes) _ _ control.1 in
    let no_info = cond-None (has_frame_fault NoInfo bytes) _ _ pid.1 in
    let long_info = cond-None (has_frame_fault LongInfo bytes) _ _ no_info.1 in
    let n = field_len bytes in
    let ends = and_parts (nat_le n (length bytes)) (is_field_len n) (not-false _ address.0) in
    let parts = and_parts (n % 7 == 0 && nat_le 14 n) (nat_le n 70) ends.1 in
    let two = and_parts (n % 7 == 0) (nat_le 14 n) parts.0 in
    record {
      within = leb-true n (length bytes) ends.0;
      sevenfold = eqb-true (n % 7) 0 two.0;
      size = (leb-true 14 n two.1, leb-true n 70 parts.1);
      callsigns = not-false _ callsign.0;
      control = eqb-true (slice_index (after_field bytes) 0) 3 (not-false _ control.0);
      pid = eqb-true (slice_index (after_field bytes) 1) 240 (not-false _ pid.0);
      info = (
        leb-false (length (after_field bytes)) 2 no_info.0,
        ltb-false 258 (length (after_field bytes)) long_info.0,
      );
    }

pub IsSound-len : (bytes : List ℕ) → IsUiFrame bytes → length bytes ≤ 328
IsSound-len bytes s =
    let len : length (after_field bytes) ≡ length bytes - field_len bytes =
    length-drop (field_len bytes) bytes in
    omega (arith, len, s.info.1, s.size.1, s.within)

pub IsSound-frame_fault : (bytes : List ℕ) → IsUiFrame bytes → frame_fault bytes ≡ None
IsSound-frame_fault bytes s =
    let n = field_len bytes in
    let after = after_field bytes in
    let address : has_frame_fault AddressFault bytes ≡ false =
    ap not (and_from (nat_le n (length bytes)) (is_field_len n) (le-leb n (length bytes) s.within)
    (and_from (n % 7 == 0 && nat_le 14 n) (nat_le n 70)
    (and_from (n % 7 == 0) (nat_le 14 n) (ap (λ k. k == 0) s.sevenfold) (le-leb 14 n s.size.0))
    (le-leb n 70 s.size.1))) in
    let callsign : has_frame_fault Callsign bytes ≡ false = ap not s.callsigns in
    let control : has_frame_fault Control bytes ≡ false = ap (λ k. not (k == 3)) s.control in
    let pid : has_frame_fault Pid bytes ≡ false = ap (λ k. not (k == 240)) s.pid in
    let no_info : has_frame_fault NoInfo bytes ≡ false = lt-leb (length after) 2 s.info.0 in
    let long_info : has_frame_fault LongInfo bytes ≡ false = le-ltb 258 (length after) s.info.1 in
    rw (address, callsign, control, pid, no_info, long_info) refl

-- ---- the parts of bytes that have no fault

length-sevens : (n : ℕ) (bytes : List ℕ) → length (sevens n bytes) ≡ n
length-sevens zero bytes = refl
length-sevens (suc n) bytes = ap suc (length-sevens n (drop 7 bytes))

abbrev pub all_of : Parts → List Address
all_of p = p.destination ∷ p.source ∷ p.digipeaters

pub same_parts : (p q : Parts) → all_of p ≡ all_of q → p.info ≡ q.info → p ≡ q
same_parts p q h i =
    let a : p.destination ≡ q.destination = cc in
    let b : p.source ≡ q.source = cc in
    let c : p.digipeaters ≡ q.digipeaters = cc in
    ap (λ x. record {
      destination = x;
      source = p.source;
      digipeaters = p.digipeaters;
      info =
          p.info;
    }) a
    ∙ ap (λ x. record {
      destination = q.destination;
      source = x;
      digipeaters = p.digipeaters;
      info =
          p.info;
    }) b
    ∙ ap (λ x. record {
      destination = q.destination;
      source = q.source;
      digipeaters = x;
      info =
          p.info;
    }) c
    ∙ ap (λ x. record {
      destination = q.destination;
      source = q.source;
      digipeaters =
          q.digipeaters;
      info = x;
    }) i

module _ (f : List ℕ) (s : IsUiFrame f) where
  abbrev n : ℕ
  n = field_len f

  abbrev field : List ℕ
  field = field_of f

  abbrev k : ℕ
  k = n / 7 - 2

  length-field : length field ≡ n
  length-field = length-take-le n f s.within

  count : length field / 7 ≡ suc (suc k)
  count = ap (λ m. m / 7) length-field
      ∙ (let least = s.size.0 in let seven = s.sevenfold in omega arith)

  addresses-are : addresses f
      ≡ take 7 field ∷ take 7 (drop 7 field) ∷ sevens k (drop 7 (drop 7 field))
  addresses-are = ap (λ m. sevens m field) count

  first : take 7 field ≡ take 7 f
  first = take-take 7 n f (let least = s.size.0 in omega arith)

  second : take 7 (drop 7 field) ≡ take 7 (drop 7 f)
  second =
      let least = s.size.0 in
      let e : n ≡ 7 + (n - 7) = omega arith in
      ap (λ m. take 7 (drop 7 (take m f))) e ∙ ap (take 7) (drop-take 7 (n - 7) f)
      ∙ take-take 7 (n - 7) (drop 7 f) (omega arith)

  pub all-addresses : map address_of (addresses f) ≡ all_of (parts_of f)
  all-addresses =
      ap (map address_of) addresses-are
      ∙ ap (λ l. address_of l ∷ address_of (take 7 (drop 7 field)) ∷ map address_of
      (sevens k (drop 7 (drop 7 field)))) first
      ∙ ap (λ l. address_of (take 7 f) ∷ address_of l ∷ map address_of
      (sevens k (drop 7 (drop 7 field)))) second
      ∙ ap (λ l. address_of (take 7 f) ∷ address_of (take 7 (drop 7 f)) ∷ map address_of (drop 2 l))
      (sym addresses-are)

  pub length-digipeaters : length (parts_of f).digipeaters + 2 ≡ n / 7
  length-digipeaters =
      let least = s.size.0 in
      let seven = s.sevenfold in
      let a = length-map (addresses f) address_of in
      let b = length-sevens (length field / 7) field in
      let c : length (map address_of (addresses f)) ≡ length (all_of (parts_of f)) =
      ap length all-addresses in
      omega (arith, count)

  -- the first octet with bit 0 set is the field's last
  end : position_or_len ends_field field + 1 ≡ length field
  end =
      let i = position_or_len ends_field f in
      ap (λ m. m + 1) (position_or_len_is ends_field field i 0 (omega (arith, length-field))
      (λ j h. ap ends_field (get_or-take n f j 0 (omega arith))
      ∙ fails_before_first ends_field f j 0 h)
      (λ h. ap ends_field (get_or-take n f i 0 (omega arith))
      ∙ passes_at_first ends_field f 0 (let w = s.within in omega arith)))
      ∙ sym length-field

  spells : All (λ b. b < 256) f → Spells field (addresses f)
  spells bytes =
      let P : ℕ → Type 0 = λ m. Spells field (sevens m field) in
      let least = s.size.0 in
      let seven = s.sevenfold in
      subst P (sym count) (Spells-sevens (suc k) field (length-field ∙ omega arith) end
      (ap (λ m. list_all has_callsign (sevens m field)) (sym count) ∙ s.callsigns)
      (All-take n f bytes))

  after-is : (l : List ℕ) → slice_index l 0 ≡ 3 → slice_index l 1 ≡ 240 → l ≡ 3 ∷ 240 ∷ drop 2 l
  after-is [] a b = absurd (omega arith)
  after-is (x ∷ []) a b = absurd (omega arith)
  after-is (x ∷ y ∷ l) a b = ap (λ u. u ∷ y ∷ l) a ∙ ap (λ u. 3 ∷ u ∷ l) b

  -- bytes without a fault are the frame of their parts
  pub sound-FrameOf : All (λ b. b < 256) f → FrameOf (parts_of f) f
  sound-FrameOf bytes =
      let p = parts_of f in
      let held = spells bytes in
      let each : AllByRecursion IsAddress (all_of p) =
      subst (AllByRecursion IsAddress) all-addresses held.each in
      let most = s.size.1 in
      let some = s.info.0 in
      let few = s.info.1 in
      let info : length p.info ≡ length (after_field f) - 2 = length-drop 2 (after_field f) in
      record {
        parts = record {
          destination = each.0;
          source = each.1.0;
          digipeaters = each.1.1;
          few = omega (arith, length-digipeaters);
          some = omega arith;
          most = omega arith;
        };
        spelled = sym (take-append-drop n f)
            ∙ ap (λ l. field ++ l) (after-is (after_field f) s.control s.pid)
            ∙ ap (λ l. l ++ 3 ∷ 240 ∷ p.info) (held.spelled ∙ ap address_field all-addresses);
      }

-- ---- one address of bytes that have no fault

sevens-at : (m i : ℕ) (bytes d : List ℕ) → i < m → get_or (sevens m bytes) i d
    ≡ take 7 (drop (7 * i) bytes)
sevens-at zero i bytes d h = absurd (omega arith)
sevens-at (suc m) zero bytes d h = refl
sevens-at (suc m) (suc i) bytes d h =
    let e : 7 + 7 * i ≡ 7 * suc i = omega arith in
    sevens-at m i (drop 7 bytes) d (omega arith) ∙ ap (take 7) (drop-drop (7 * i) 7 bytes)
    ∙ ap (λ k. take 7 (drop k bytes)) e

module _ (f : List ℕ) (s : IsUiFrame f) (i : ℕ) (h : i < field_len f / 7) where
  pub addresses-at : (d : List ℕ) → get_or (addresses f) i d ≡ take 7 (drop (7 * i) f)
  addresses-at d =
      let n = field_len f in
      let many : i < length (field_of f) / 7 = omega (arith, length-field f s) in
      let e : n ≡ 7 * i + (n - 7 * i) = omega arith in
      sevens-at (length (field_of f) / 7) i (field_of f) d many
      ∙ ap (λ m. take 7 (drop (7 * i) (take m f))) e ∙ ap (take 7) (drop-take (7 * i) (n - 7 * i) f)
      ∙ take-take 7 (n - 7 * i) (drop (7 * i) f) (omega arith)

  pub length-addresses : length (addresses f) ≡ field_len f / 7
  length-addresses = length-sevens (length (field_of f) / 7) (field_of f)
      ∙ ap (λ m. m / 7) (length-field f s)

  pub callsign-at : has_callsign (take 7 (drop (7 * i) f)) ≡ true
  callsign-at =
      let pass = AllPass-from_list_all has_callsign (addresses f) s.callsigns i []
      (omega (arith, length-addresses)) in
      ap has_callsign (sym (addresses-at [])) ∙ pass

  pub room-at : 7 * i + 7 ≤ length f
  room-at = let within = s.within in omega arith

module _ (f : List ℕ) (s : IsUiFrame f) (i : ℕ) (h : i + 2 < field_len f / 7) where
  pub digipeater-at : slice_get (parts_of f).digipeaters i
      ≡ Some (address_of (take 7 (drop (7 * (i + 2)) f)))
  digipeater-at =
      let len = length-addresses f s (i + 2) h in
      let two : 2 + i ≡ i + 2 = omega arith in
      let many : i < length (drop 2 (addresses f)) = omega (arith, length-drop 2 (addresses f)) in
      let e : get_or (drop 2 (addresses f)) i [] ≡ take 7 (drop (7 * (i + 2)) f) =
      get_or-drop 2 (addresses f) i [] ∙ ap (λ k. get_or (addresses f) k []) two
      ∙ addresses-at f s (i + 2) h [] in
      slice_get-map address_of (drop 2 (addresses f)) i
      ∙ ap (option_map address_of)
      (slice_get-get_or (drop 2 (addresses f)) i [] many ∙ ap (λ l. Some l) e)

-- a digipeater's number counts from after the destination and the source
pub within-digipeaters : (f : List ℕ) (hops i : ℕ) → frame_fault f ≡ None
    → hops ≡ length (parts_of f).digipeaters → i < hops → i + 2 < field_len f / 7
within-digipeaters f hops i s e h =
    let all = length-digipeaters f (frame_fault-IsSound f s) in
    omega (arith, all, e)

pub digipeaters-few : (f : List ℕ) → frame_fault f ≡ None → field_len f / 7 - 2 ≤ 8
digipeaters-few f h = let most = (frame_fault-IsSound f h).size.1 in omega arith

pub info-is : (f : List ℕ) → drop (field_len f + 2) f ≡ (parts_of f).info
info-is f = sym (drop-drop 2 (field_len f) f)
