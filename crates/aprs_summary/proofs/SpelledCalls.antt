-- The callsign whose text bytes are.
use Rattle.aprs_summary.proofs.Common.{◌≡◌, ◌∙◌, ℕ, List, Option, Some, None, ap, refl, subst, sym, Call, SpellsCall}
use Rattle.aprs_ax25.specs.CallText.{before_dash, from_dash}
use Rattle.aprs_ax25.specs.Scan.{call_fault, ssid_of}
use Rattle.aprs_ax25.specs.declared.fault.CallFault.{CallFault}
use Rattle.aprs_ax25.proofs.CallTexts.{call_fault-CallText, CallText-call_fault, before_dash-is, ssid-is}
use Rattle.aprs_report.proofs.Steps.{some_is}
use Rattle.aprs_summary.specs.MessageRows.{call_when, spelled_call}
use Rattle.aprs_summary.specs.ReplyTexts.{HoldsOnly}

abbrev with_letters : List ℕ → ℕ → Call
with_letters letters ssid = record { characters = letters; ssid = ssid }

read_so : (fault : Option CallFault) (letters : List ℕ) (ssid : Option ℕ) (c : Call)
    → call_when fault letters ssid ≡ Some c
    → (fault ≡ None) × (ssid ≡ Some c.ssid) × (with_letters letters c.ssid ≡ c)
read_so (Some fault) letters ssid c h = absurd cc
read_so None letters None c h = absurd cc
read_so None letters (Some n) c h =
    let e = some_is (with_letters letters n) c h in (
      refl,
      ap (λ (d : Call). Some d.ssid) e,
      ap (λ (d : Call). with_letters letters d.ssid) (sym e) ∙ e,
    )

-- bytes are the text of this callsign alone
pub spelled : (text : List ℕ) → HoldsOnly (λ (c : Call). SpellsCall c text) (spelled_call text)
spelled text c = (
  λ e. (let r = read_so (call_fault text) (before_dash text) (ssid_of (from_dash text)) c e in
      subst (λ (d : Call). SpellsCall d text) r.2 (call_fault-CallText text c.ssid r.0 r.1)),
  λ h. (λ i. call_when (CallText-call_fault c text h i) (before_dash-is c text h i)
      (ssid-is c text h i)),
)
