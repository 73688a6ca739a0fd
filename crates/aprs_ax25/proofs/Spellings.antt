-- The frame of any parts has no fault, and these parts.
use Rattle.std.proofs.Common.{◌≡◌, ℕ, ◌+◌, ◌*◌, ◌/◌, suc, List, ◌∷◌, length, take, drop, map, None, arith, sym, ap, ◌∙◌, slice_index}
use Rattle.std.specs.List.{list_all, AllByRecursion}
use Rattle.std.proofs.lemmas.List.{length-append, take_at, drop_at}
use Rattle.aprs_ax25.specs.Address.{Address, IsAddress}
use Rattle.aprs_ax25.specs.Frame.{Parts, IsParts, FrameOf, address_field, spelling}
use Rattle.aprs_ax25.specs.FrameFault.{field_len, field_of, after_field, sevens, has_callsign, addresses, frame_fault, address_of, parts_of}
use Rattle.aprs_ax25.specs.UiFrame.{IsUiFrame}
use Rattle.aprs_ax25.proofs.Sounds.{frame_fault-IsSound, IsSound-frame_fault, same_parts, all-addresses}
use Rattle.aprs_ax25.proofs.Fields.{Holds, sevens-address_field, length-address_field, position-address_field}

module _ (p : Parts) (h : IsParts p) where
  abbrev f : List ℕ
  f = spelling p

  abbrev others : List Address
  others = p.source ∷ p.digipeaters

  abbrev field : List ℕ
  field = address_field (p.destination ∷ others)

  abbrev rest : List ℕ
  rest = 3 ∷ 240 ∷ p.info

  abbrev len : ℕ
  len = 7 * suc (length others)

  each : AllByRecursion IsAddress (p.destination ∷ others)
  each = (h.destination, (h.source, h.digipeaters))

  length-field : length field ≡ len
  length-field = length-address_field p.destination others each

  field_len-is : field_len f ≡ len
  field_len-is = position-address_field p.destination others rest each

  pub spelling-field_len : field_len (spelling p) ≡ length field
  spelling-field_len = field_len-is ∙ sym length-field

  field_of-is : field_of f ≡ field
  field_of-is = ap (λ m. take m f) field_len-is ∙ take_at field rest len length-field

  after_field-is : after_field f ≡ rest
  after_field-is = ap (λ m. drop m f) field_len-is ∙ drop_at field rest len length-field

  addresses-are : addresses f ≡ sevens (suc (length others)) field
  addresses-are =
      let e : len / 7 ≡ suc (length others) = omega arith in
      ap (λ l. sevens (length l / 7) l) field_of-is ∙ ap (λ m. sevens (m / 7) field) length-field
      ∙ ap (λ m. sevens m field) e

  held : Holds (p.destination ∷ others) (sevens (suc (length others)) field)
  held = sevens-address_field p.destination others each

  sound : IsUiFrame f
  sound =
      let few = h.few in
      let some = h.some in
      let most = h.most in
      let whole : length f ≡ length field + length rest = length-append field rest in
      record {
        within = omega (arith, field_len-is, length-field);
        sevenfold = omega (arith, field_len-is);
        size = (omega (arith, field_len-is), omega (arith, field_len-is));
        callsigns = ap (list_all has_callsign) addresses-are ∙ held.callsigns;
        control = ap (λ l. slice_index l 0) after_field-is;
        pid = ap (λ l. slice_index l 1) after_field-is;
        info = (
          omega (arith, ap length after_field-is),
          omega (arith, ap length after_field-is),
        );
      }

  pub spelling-frame_fault : frame_fault (spelling p) ≡ None
  spelling-frame_fault = IsSound-frame_fault f sound

  pub parts_of-spelling : parts_of (spelling p) ≡ p
  parts_of-spelling =
      same_parts (parts_of f) p
      (sym (all-addresses f sound) ∙ ap (map address_of) addresses-are ∙ held.addresses)
      (ap (drop 2) after_field-is)

-- ---- bytes that are a frame

pub FrameOf-frame_fault : (p : Parts) (bytes : List ℕ) → FrameOf p bytes → frame_fault bytes ≡ None
FrameOf-frame_fault p bytes h = ap frame_fault h.spelled ∙ spelling-frame_fault p h.parts

pub FrameOf-parts_of : (p : Parts) (bytes : List ℕ) → FrameOf p bytes → parts_of bytes ≡ p
FrameOf-parts_of p bytes h = ap parts_of h.spelled ∙ parts_of-spelling p h.parts

pub FrameOf-IsSound : (p : Parts) (bytes : List ℕ) → FrameOf p bytes → IsUiFrame bytes
FrameOf-IsSound p bytes h = frame_fault-IsSound bytes (FrameOf-frame_fault p bytes h)
