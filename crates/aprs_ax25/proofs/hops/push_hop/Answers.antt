use Rattle.std.proofs.Common.{◌≡◌, ◌∙◌, ◌++◌, ◌∷◌, [], ℕ, List, true, false, Option, None, Some, option_map, ap, sym, rules, append_assoc, append-nil, if◌then◌else◌}
use Rattle.std.specs.Prelude.{IfSome, MatchOption}
use Rattle.aprs_ax25.specs.Address.{Address, is_repeated}
use Rattle.aprs_ax25.specs.Callsign.{call_text}
use Rattle.aprs_ax25.specs.Hop.{hop_of, hop_text}
use Rattle.aprs_ax25.proofs.hops.push_hop.Goals as goal

-- of a digipeater that has repeated the frame, the comma, the callsign and the star
repeated_text : (o : Option Address) (old named starred : List ℕ)
    → option_map is_repeated o ≡ Some true
    → MatchOption o (named ≡ old ++ 44 ∷ []) (λ a. named ≡ (old ++ 44 ∷ []) ++ call_text a.call)
    → starred ≡ named ++ 42 ∷ [] → IfSome o (λ a. starred ≡ old ++ hop_text (hop_of a))
repeated_text None old named starred repeated text put = tt
repeated_text (Some a) old named starred repeated text put =
    let yes : is_repeated a ≡ true = cc in
    put ∙ ap (λ l. l ++ 42 ∷ []) text
    ∙ append_assoc (old ++ 44 ∷ []) (call_text a.call) (42 ∷ [])
    ∙ append_assoc old (44 ∷ []) (call_text a.call ++ 42 ∷ [])
    ∙ ap (λ b. old ++ (44 ∷ (call_text a.call ++ (if b then 42 ∷ [] else [])))) (sym yes)

-- of another, the comma and the callsign
plain_text : (o : Option Address) (old named : List ℕ) → option_map is_repeated o ≡ Some false
    → MatchOption o (named ≡ old ++ 44 ∷ []) (λ a. named ≡ (old ++ 44 ∷ []) ++ call_text a.call)
    → IfSome o (λ a. named ≡ old ++ hop_text (hop_of a))
plain_text None old named repeated text = tt
plain_text (Some a) old named repeated text =
    let no : is_repeated a ≡ false = cc in
    text ∙ append_assoc old (44 ∷ []) (call_text a.call)
    ∙ ap (λ l. old ++ (44 ∷ l)) (sym (append-nil (call_text a.call)))
    ∙ ap (λ b. old ++ (44 ∷ (call_text a.call ++ (if b then 42 ∷ [] else [])))) (sym no)

-- where there is no digipeater, nothing is said
none_text : (P : Address → Type 0) (o : Option Address) → option_map is_repeated o ≡ None
    → IfSome o P
none_text P None e = tt
none_text P (Some a) e = absurd cc

pub returns-in-Some-true-clause-text : goal.returns-in-Some-true-clause-text
returns-in-Some-true-clause-text g c =
    let text = rw c.push.ensures.items at c.push_hop_text.ensures.text in
    repeated_text _ _ _ _ (sym c.push_hop_text.ensures.repeated ∙ c.in-Some-true.is
    ∙ ap Some c.in-Some-true.field-0-test) text c.push-in-Some-true.ensures.items

pub returns-else-push_hop_text-clause-text : goal.returns-else-push_hop_text-clause-text
returns-else-push_hop_text-clause-text g c =
    let text = rw c.push.ensures.items at c.push_hop_text.ensures.text in
    let has : c.push_hop_text.result ≡ Some false = search rules in
    plain_text _ _ _ (sym c.push_hop_text.ensures.repeated ∙ has) text

pub returns-clause-text : goal.returns-clause-text
returns-clause-text g c =
    let has : c.push_hop_text.result ≡ None = search rules in
    none_text _ _ (sym c.push_hop_text.ensures.repeated ∙ has)
