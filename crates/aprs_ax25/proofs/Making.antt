-- Lemmas on making a frame.
use Rattle.std.proofs.Common.{◌≡◌, ℕ, ◌+◌, ◌-◌, ◌*◌, ◌≤◌, ◌<◌, suc, zero, List, [], ◌∷◌, ◌++◌, length, get_or, take, drop, map, replicate, arith, sym, ap, ◌∙◌, refl, append_assoc, append-nil, subst, None, nat_lt, ◌==◌}
use Rattle.std.proofs.lemmas.Bool.{ltb-false, eqb-false}
use Rattle.aprs_ax25.proofs.Sounds.{cond-None}
use Rattle.std.specs.List.{AllByRecursion}
use Rattle.std.proofs.lemmas.List.{length-append, map-append, drop-replicate, take_all, take_more, length-map, length-drop, drop_more}
use Rattle.aprs_ax25.specs.Callsign.{Call}
use Rattle.aprs_ax25.specs.Address.{Address, IsAddress, characters_and_spaces, address_octets}
use Rattle.aprs_ax25.specs.Frame.{Parts, IsParts, FrameOf, address_field, spelling}
use Rattle.aprs_ax25.specs.declared.hop.Hop.{Hop}
use Rattle.aprs_ax25.specs.FrameFault.{field_len, frame_fault, parts_of}
use Rattle.aprs_ax25.proofs.Spellings.{FrameOf-frame_fault, FrameOf-parts_of, spelling-field_len}
use Rattle.aprs_ax25.specs.Making.{destination_address, source_address, hop_address, made_parts, make_fault}

double-spaces : (n : ℕ) → map (λ b. 2 * b) (replicate n 32) ≡ replicate n 64
double-spaces zero = refl
double-spaces (suc n) = ap (λ l. 64 ∷ l) (double-spaces n)

-- the letters went out, and then of six spaces those that are wanting
pub padded-pushed : (a b c characters : List ℕ) (i : ℕ) → length characters ≤ i → b
    ≡ a ++ map (λ l. 2 * l) (take i characters)
    → c ≡ b ++ drop (length characters) (replicate 6 64) → c ≡ a ++ map (λ l. 2 * l) (characters_and_spaces characters)
padded-pushed a b c characters i h f g =
    let n = length characters in
    g ∙ ap (λ l. l ++ drop n (replicate 6 64))
    (f ∙ ap (λ l. a ++ map (λ x. 2 * x) l) (take_all i characters h))
    ∙ append_assoc a (map (λ l. 2 * l) characters) (drop n (replicate 6 64))
    ∙ ap (λ l. a ++ (map (λ x. 2 * x) characters ++ l))
    (drop-replicate n 6 64 ∙ sym (double-spaces (6 - n)))
    ∙ ap (λ l. a ++ l) (sym (map-append (λ l. 2 * l) characters (replicate (6 - n) 32)))

-- an address before others, with the extension bit that they leave it
field-cons : (x : Address) (more : List Address) (e : ℕ) → (length more ≡ 0 → e ≡ 1)
    → (0 < length more → e ≡ 0)
    → address_field (x ∷ more) ≡ address_octets e x ++ address_field more
field-cons x [] e last inner = ap (λ n. address_octets n x) (sym (last refl))
    ∙ sym (append-nil (address_octets e x))
field-cons x (y ∷ more) e last inner =
    ap (λ n. address_octets n x ++ address_field (y ∷ more)) (sym (inner (omega arith)))

abbrev pub hops_field : List Hop → List ℕ
hops_field hops = address_field (map hop_address hops)

-- one more digipeater went out
pub field-more : (a b : List ℕ) (hops : List Hop) (i e : ℕ) (hop : Hop) → i < length hops → hop
    ≡ get_or hops i hop
    → b ≡ a ++ address_octets e (hop_address hop) → (i + 1 ≡ length hops → e ≡ 1)
    → (i + 1 < length hops → e ≡ 0)
    → b ++ hops_field (drop (i + 1) hops) ≡ a ++ hops_field (drop i hops)
field-more a b hops i e hop h is out last inner =
    let more = drop (i + 1) hops in
    let len = length-map more hop_address in
    let n = length-drop (i + 1) hops in
    ap (λ l. l ++ hops_field more) out
    ∙ append_assoc a (address_octets e (hop_address hop)) (hops_field more)
    ∙ ap (λ l. a ++ l) (sym
    (field-cons (hop_address hop) (map hop_address more) e (λ z. last (omega arith))
    (λ z. inner (omega arith))))
    ∙ ap (λ x. a ++ hops_field (x ∷ more)) is
    ∙ ap (λ l. a ++ hops_field l) (sym (drop_more hops i hop h))

pub all-more : (xs : List Address) (x : Address) → AllByRecursion IsAddress xs → IsAddress x
    → AllByRecursion IsAddress (xs ++ x ∷ [])
all-more [] x h p = (p, tt)
all-more (y ∷ xs) x h p = (h.0, all-more xs x h.1 p)

pub hops-more : (hops : List Hop) (i : ℕ) (hop : Hop) → i < length hops → hop ≡ get_or hops i hop
    → AllByRecursion IsAddress (map hop_address (take i hops))
    → IsAddress (hop_address hop) → AllByRecursion IsAddress (map hop_address (take (i + 1) hops))
hops-more hops i hop h is all p =
    subst (λ l. AllByRecursion IsAddress (map hop_address l))
    (sym (take_more hops i hop h ∙ ap (λ x. take i hops ++ x ∷ []) (sym is)))
    (subst (AllByRecursion IsAddress) (sym (map-append hop_address (take i hops) (hop ∷ [])))
    (all-more (map hop_address (take i hops)) (hop_address hop) all p))

-- the frame that is spelled so has no fault, and is the frame of its parts
pub made : (p : Parts) (bytes : List ℕ) → IsParts p → bytes ≡ spelling p
    → (frame_fault bytes ≡ None) × FrameOf (parts_of bytes) bytes
made p bytes h e =
    let f : FrameOf p bytes = record { parts = h; spelled = e } in (
      FrameOf-frame_fault p bytes f,
      subst (λ (q : Parts). FrameOf q bytes)
          (sym (FrameOf-parts_of p bytes f)) f,
    )

-- parts without a fault are not too many
pub record IsWithin (hops info : ℕ) : Type 0 where
  pub few : hops ≤ 8
  pub some : 0 < info
  pub most : info ≤ 256

pub make_fault-IsWithin : (hops info : ℕ) → make_fault hops info ≡ None → IsWithin hops info
make_fault-IsWithin hops info h =
    let a = cond-None (nat_lt 8 hops) _ _ h in
    let b = cond-None (info == 0) _ _ a.1 in
    let c = cond-None (nat_lt 256 info) _ _ b.1 in
    let ne : info ≡ 0 → ⊥ = eqb-false info 0 b.0 in
    record { few = ltb-false 8 hops a.0; some = omega arith; most = ltb-false 256 info c.0 }

pub made-spelled : (destination source : Call) (hops : List Hop) (info a b c d : List ℕ)
    → a ≡ address_field (destination_address destination ∷ source_address source ∷ map hop_address
    hops)
    → b ≡ a ++ 3 ∷ [] → c ≡ b ++ 240 ∷ [] → d ≡ c ++ info → d
    ≡ spelling (made_parts destination source hops info)
made-spelled destination source hops info a b c d p q r s =
    let field = address_field
    (destination_address destination ∷ source_address source ∷ map hop_address hops) in
    s ∙ ap (λ l. l ++ info)
    (r ∙ ap (λ l. l ++ 240 ∷ []) (q ∙ ap (λ l. l ++ 3 ∷ []) p)
    ∙ append_assoc field (3 ∷ []) (240 ∷ []))
    ∙ append_assoc field (3 ∷ 240 ∷ []) info

-- its information begins after the control and the PID octet
pub made-info_at : (destination source : Call) (hops : List Hop) (info a b c d : List ℕ)
    → IsParts (made_parts destination source hops info)
    → a ≡ address_field (destination_address destination ∷ source_address source ∷ map hop_address
    hops)
    → b ≡ a ++ 3 ∷ [] → c ≡ b ++ 240 ∷ [] → d ≡ c ++ info → length c ≡ field_len d + 2
made-info_at destination source hops info a b c d h p q r s =
    let len = ap field_len (made-spelled destination source hops info a b c d p q r s)
    ∙ spelling-field_len (made_parts destination source hops info) h in
    omega (
      arith,
      len,
      ap length p,
      ap length q,
      length-append a (3 ∷ []),
      ap length r,
      length-append b (240 ∷ []),
    )
