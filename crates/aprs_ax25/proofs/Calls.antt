-- Lemmas on callsigns in an address's octets.
use Rattle.std.proofs.Common.{◌≡◌, ℕ, ◌+◌, ◌/◌, ◌%◌, ◌≤◌, ◌<◌, List, [], ◌∷◌, ◌++◌, length, take, map, Bool, true, false, not, arith, sym, ap, ◌∙◌, refl}
use Rattle.std.specs.List.{list_all, All}
use Rattle.std.specs.Fmt.{decimal}
use Rattle.std.proofs.lemmas.Fmt.{decimal_digit, decimal_step}
use Rattle.std.proofs.lemmas.List.{length-take, length-take-le, length-map, get_or-take}
use Rattle.std.proofs.lemmas.List.Sums.{prefix_len-le-length, fails_before_first, list_all-from_AllPass}
use Rattle.std.proofs.lemmas.List.Folds.{list_all-map}
use Rattle.std.proofs.lemmas.Bool.{and_parts, ltb-true, ne_eqb}
use Rattle.aprs_ax25.specs.Callsign.{IsCall, is_callsign_byte, ssid_text}
use Rattle.aprs_ax25.specs.FrameFault.{characters_len, ends_characters, has_callsign, call_of}

-- a dash and one digit
pub ssid_text-one : (n : ℕ) → 0 < n → n < 10 → ssid_text n ≡ 45 ∷ (48 + n) ∷ []
ssid_text-one n some h = rw (ne_eqb n 0 (λ e. omega arith)) (ap (λ ds. 45 ∷ ds) (decimal_digit n h))

-- a dash, 1 and the second digit
pub ssid_text-two : (n : ℕ) → 10 ≤ n → n < 16 → ssid_text n ≡ 45 ∷ 49 ∷ (48 + n % 10) ∷ []
ssid_text-two n low h =
    let one : n / 10 ≡ 1 = omega arith in
    rw (ne_eqb n 0 (λ e. omega arith))
    (ap (λ ds. 45 ∷ ds) (decimal_step n low (omega arith)
    ∙ ap (λ k. decimal k ++ (48 + n % 10) ∷ []) one
    ∙ ap (λ ds. ds ++ (48 + n % 10) ∷ []) (decimal_digit 1 (omega arith))))

not-false : (b : Bool) → not b ≡ false → b ≡ true
not-false true h = refl
not-false false h = cc

pub characters_len-le : (octets : List ℕ) → characters_len octets ≤ 6
characters_len-le octets =
    omega (
      arith,
      prefix_len-le-length (λ o. not (ends_characters o)) (take 6 octets),
      length-take 6
          octets,
    )

-- the octets before the first that is no letter are letters
pub characters-pass : (octets : List ℕ)
    → list_all is_callsign_byte (map (λ o. o / 2) (take (characters_len octets) octets)) ≡ true
characters-pass octets =
    let n = characters_len octets in
    let pass : All (λ o. is_callsign_byte (o / 2) ≡ true) (take n octets) = λ k d h.
    let low : k < n = omega (arith, length-take n octets) in
    let six : k < 6 = omega (arith, characters_len-le octets) in
    ap (λ o. is_callsign_byte (o / 2)) (get_or-take n octets k d low)
    ∙ not-false _ (ap ends_characters (sym (get_or-take 6 octets k d six))
    ∙ fails_before_first ends_characters (take 6 octets) k d low) in
    list_all-map is_callsign_byte (λ o. o / 2) (take n octets)
    ∙ list_all-from_AllPass (λ o. is_callsign_byte (o / 2)) (take n octets) pass

pub call_of-IsCall : (octets : List ℕ) → length octets ≡ 7 → has_callsign octets ≡ true
    → IsCall (call_of octets)
call_of-IsCall octets seven h =
    let n = characters_len octets in
    let some : 0 < n = ltb-true 0 n (and_parts _ _ h).0 in
    let most = characters_len-le octets in
    let len : length (map (λ o. o / 2) (take n octets)) ≡ n =
    length-map (take n octets) (λ o. o / 2) ∙ length-take-le n octets (omega arith) in
    record {
      some = omega arith;
      most = omega arith;
      bytes = characters-pass octets;
      ssid = omega arith;
    }
