use Rattle.aprs_convert.proofs.Common.{◌≡◌, [], ◌∷◌, ◌++◌, inl, inr, ap, sym, ◌∙◌, Sends-is, written_line}
use Rattle.aprs_ax25.specs.FrameFault.{parts_of}
use Rattle.aprs_kiss.specs.Spelling.{kiss_text}
use Rattle.aprs_convert.specs.Monitor.{monitor_text, kind_and_monitor_text}
use Rattle.aprs_convert.specs.Conversion.{reception_text}
use Rattle.aprs_convert.specs.declared.form.Form.{Form}
use Rattle.aprs_convert.proofs.write_line.write_reception.Goals as goal

pub returns-in-Text : goal.returns-in-Text
returns-in-Text g c =
    let x = c.args.reception.now in
    Sends-is c.write_monitor_line.ensures
    (ap (λ frame. monitor_text (parts_of frame) ++ 10 ∷ []) c.frame.ensures
    ∙ sym (ap (λ (f : Form). reception_text f x) c.in-Text.is))

pub returns-in-Kind : goal.returns-in-Kind
returns-in-Kind g c =
    let x = c.args.reception.now in
    Sends-is c.write_kind_line.ensures
    (ap (λ frame. kind_and_monitor_text (parts_of frame) ++ 10 ∷ []) c.frame-in-Kind.ensures
    ∙ sym (ap (λ (f : Form). reception_text f x) c.in-Kind.is))

pub returns-in-Kiss : goal.returns-in-Kiss
returns-in-Kiss g c =
    let x = c.args.reception.now in
    Sends-is c.write.ensures (ap kiss_text (c.bytes.ensures.value ∙ c.frame-in-Kiss.ensures)
    ∙ sym (ap (λ (f : Form). reception_text f x) c.in-Kiss.is))

pub returns-in-Log : goal.returns-in-Log
returns-in-Log g c =
    let x = c.args.reception.now in
    Sends-is c.write-in-Log.ensures.sends
    (elim c.in-Log.is as (λ _. written_line x ++ 10 ∷ [] ≡ reception_text c.args.form.now x) [
      | inl log ↦ ap (λ (f : Form). reception_text f x) (sym log)
      | inr capture ↦ ap (λ (f : Form). reception_text f x) (sym capture.2)
    ])
