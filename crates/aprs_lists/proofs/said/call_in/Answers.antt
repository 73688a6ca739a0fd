use Rattle.aprs_lists.proofs.Common.{sym}
use Rattle.aprs_ax25.specs.CallText.{SpellsCall}
use Rattle.aprs_ax25.specs.Callsign.{Call}
use Rattle.aprs_summary.proofs.ReplyTexts.{held_none}
use Rattle.aprs_summary.proofs.SpelledCalls.{spelled}
use Rattle.aprs_lists.proofs.said.call_in.Goals as goal

pub returns-in-Ok : goal.returns-in-Ok
returns-in-Ok c = sym ((spelled c.args.text.now c.in-Ok.call).1 c.in-Ok.ensures.found)

pub returns-in-Err : goal.returns-in-Err
returns-in-Err c =
    sym (held_none (λ (call : Call). SpellsCall call c.args.text.now) _ (spelled c.args.text.now)
    (λ call s. let t = c.in-Err.ensures.only call s in absurd cc))
