use Rattle.std.proofs.Common.{◌≡◌, ◌/◌, ◌++◌, ◌∷◌, [], ℕ, false, length, map, take, not, arith, sym, ap, ◌∙◌, append_assoc, slice_index, subst, inl, inr}
use Rattle.std.proofs.lemmas.List.Sums.{position_or_len_is}
use Rattle.std.proofs.lemmas.List.{length-take-le, take-take, take_more, map-append}
use Rattle.std.proofs.lemmas.Bool.{cases_lt}
use Rattle.aprs_ax25.specs.FrameFault.{ends_characters, characters_len}
use Rattle.aprs_ax25.proofs.callsign.push_characters.Goals as goal

pub returns-then-not-is_callsign_byte-clause-characters :
    goal.returns-then-not-is_callsign_byte-clause-characters
returns-then-not-is_callsign_byte-clause-characters g c =
    let octets = c.args.octets.now in
    let i = c.loop-octet.octet-index in
    let six : length (take 6 octets) ≡ 6 = length-take-le 6 octets c.requires.six in
    let len : characters_len octets ≡ i
    = position_or_len_is ends_characters (take 6 octets) i 0 (omega arith)
    c.loop-octet.invariant.before
    (λ _. ap not (sym c.is_callsign_byte.ensures ∙ c.if-not-is_callsign_byte.true)) in
    c.loop-octet.invariant.characters
    ∙ ap (λ l. c.args.out.now.items ++ map (λ o. o / 2) l) (take-take i 6 octets (omega arith))
    ∙ ap (λ n. c.args.out.now.items ++ map (λ o. o / 2) (take n octets)) (sym len)

pub returns-clause-characters : goal.returns-clause-characters
returns-clause-characters g c =
    let octets = c.args.octets.now in
    let i = c.loop-octet.octet-index in
    let six : length (take 6 octets) ≡ 6 = length-take-le 6 octets c.requires.six in
    let len : characters_len octets ≡ i
    = position_or_len_is ends_characters (take 6 octets) i 0 (omega arith)
    c.loop-octet.invariant.before
    (λ h. absurd (omega arith)) in
    c.loop-octet.invariant.characters
    ∙ ap (λ l. c.args.out.now.items ++ map (λ o. o / 2) l) (take-take i 6 octets (omega arith))
    ∙ ap (λ n. c.args.out.now.items ++ map (λ o. o / 2) (take n octets)) (sym len)

pub loop-octet-preserved : goal.loop-octet-preserved
loop-octet-preserved g c =
    let six = take 6 c.args.octets.now in
    let i = c.loop-octet.octet-index in
    let x = slice_index six i in
    let old = c.args.out.now.items in
    let character : ends_characters x ≡ false =
    ap not (sym c.is_callsign_byte.ensures ∙ c.if-not-is_callsign_byte.false) in
    record {
      characters = c.push.ensures.items ∙ ap (λ l. l ++ x / 2 ∷ []) c.loop-octet.invariant.characters
          ∙ append_assoc old (map (λ o. o / 2) (take i six)) (x / 2 ∷ [])
          ∙ ap (λ l. old ++ l) (sym (map-append (λ o. o / 2) (take i six) (x ∷ [])))
          ∙ ap (λ l. old ++ map (λ o. o / 2) l) (sym (take_more six i 0 c.loop-octet-test.true));
      before = λ k lt. elim (cases_lt k i) [
        | inl low ↦ c.loop-octet.invariant.before k low
        | inr high ↦ (let e : i ≡ k = omega arith in
            subst (λ (n : ℕ). ends_characters (slice_index six n) ≡ false) e character)
      ];
      most = omega (arith, c.push.ensures.len, c.loop-octet.invariant.most);
    }
