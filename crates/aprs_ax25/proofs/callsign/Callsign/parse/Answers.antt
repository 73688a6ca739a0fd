use Rattle.std.proofs.Common.{ℕ, List, Ok, ◌∙◌, sym, ap, subst}
use Rattle.aprs_ax25.specs.CallText.{SpellsCall}
use Rattle.aprs_ax25.proofs.CallTexts.{call_fault-CallText, CallText-call_fault, CallText-is, call_fault-FirstCallFault}
use Rattle.aprs_ax25.proofs.callsign.Callsign.parse.Goals as goal

pub returns-in-Ok-clause-found : goal.returns-in-Ok-clause-found
returns-in-Ok-clause-found c =
    let P : List ℕ → Type 0 =
    λ l. SpellsCall (record { characters = l; ssid = c.in-Ok.ssid }) c.args.text.now in
    subst P (sym (c.up_to_six.ensures ∙ c.in-Ok.ensures.1))
    (call_fault-CallText c.args.text.now c.in-Ok.ssid c.in-Ok.ensures.0 c.in-Ok.ensures.2)

pub returns-in-Ok-clause-only : goal.returns-in-Ok-clause-only
returns-in-Ok-clause-only c = λ d h.
    ap (λ l. Ok (record { characters = l; ssid = c.in-Ok.ssid }))
    (c.up_to_six.ensures ∙ c.in-Ok.ensures.1)
    ∙ ap (λ e. Ok e) (CallText-is d c.args.text.now h c.in-Ok.ssid c.in-Ok.ensures.2)

pub returns-in-Err-clause-only : goal.returns-in-Err-clause-only
returns-in-Err-clause-only c = λ d h. let e = sym c.in-Err.ensures
    ∙ CallText-call_fault d c.args.text.now h in cc

pub returns-in-Err-clause-fault : goal.returns-in-Err-clause-fault
returns-in-Err-clause-fault c = call_fault-FirstCallFault c.args.text.now _ c.in-Err.ensures
