use Rattle.aprs_lists.proofs.Common.{◌∙◌, ◌+◌, ◌++◌, ◌∷◌, [], sym, ap, append_assoc, arith}
use Rattle.std.proofs.Common.{◌%◌}
use Rattle.aprs_ax25.proofs.Calls.{ssid_text-one, ssid_text-two}
use Rattle.aprs_lists.proofs.net.packed_call.push_ssid.Goals as goal

pub returns-in-1-to-9 : goal.returns-in-1-to-9
returns-in-1-to-9 c =
    let text = c.args.text.now.items in
    c.push-in-1-to-9.ensures.items ∙ ap (λ l. l ++ (48 + c.args.ssid) ∷ []) c.push.ensures.items
    ∙ append_assoc text (45 ∷ []) _
    ∙ ap (λ l. text ++ l) (sym (ssid_text-one c.args.ssid (omega arith) (omega arith)))

pub returns-in_default : goal.returns-in_default
returns-in_default c =
    let text = c.args.text.now.items in
    let last = (48 + c.args.ssid % 10) ∷ [] in
    c.push-in_default-3.ensures.items ∙ ap (λ l. l ++ last) c.push-in_default-2.ensures.items
    ∙ ap (λ l. (l ++ 49 ∷ []) ++ last) c.push-in_default.ensures.items
    ∙ ap (λ l. l ++ last) (append_assoc text (45 ∷ []) (49 ∷ []))
    ∙ append_assoc text (45 ∷ 49 ∷ []) last
    ∙ ap (λ l. text ++ l) (sym (ssid_text-two c.args.ssid (omega arith) (omega arith)))
