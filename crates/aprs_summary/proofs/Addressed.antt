-- What begins with no colon is neither a message nor an answer.
use Rattle.aprs_summary.proofs.Common.{◌≡◌, ◌∙◌, ℕ, true, false, List, None, refl, sym, ap, Call, Value, position, object, item, message, ack, rej, status, raw, Reads, reading_of, Key}
use Rattle.aprs_report.proofs.Readings.{reads_as}
use Rattle.aprs_summary.specs.Reports.{report_of}
use Rattle.aprs_summary.specs.Messages.{message_in, reported_message}
use Rattle.aprs_summary.specs.MessageRows.{reported_answer, begins_with_colon}

no_message : (call : Call) (v : Value) (info : List ℕ) → Reads v info → begins_with_colon info ≡ false
    → reported_message call v ≡ None
no_message call (message addressee text id) info r n =
    let t : true ≡ false = sym (ap begins_with_colon r.addressed.whole) ∙ n in absurd (cc)
no_message call (position m s p y c) info r n = refl
no_message call (object name live s p y c) info r n = refl
no_message call (item name live p y c) info r n = refl
no_message call (ack addressee id) info r n = refl
no_message call (rej addressee id) info r n = refl
no_message call (status s text) info r n = refl
no_message call raw info r n = refl

no_answer : (v : Value) (info : List ℕ) → Reads v info → begins_with_colon info ≡ false
    → reported_answer v ≡ None
no_answer (ack addressee id) info r n =
    let t : true ≡ false = sym (ap begins_with_colon r.addressed.whole) ∙ n in absurd (cc)
no_answer (rej addressee id) info r n =
    let t : true ≡ false = sym (ap begins_with_colon r.addressed.whole) ∙ n in absurd (cc)
no_answer (message addressee text id) info r n = refl
no_answer (position m s p y c) info r n = refl
no_answer (object name live s p y c) info r n = refl
no_answer (item name live p y c) info r n = refl
no_answer (status s text) info r n = refl
no_answer raw info r n = refl

pub no_message_in : (k : Key) → begins_with_colon k.info ≡ false → message_in k ≡ None
no_message_in k n = no_message k.source (report_of k) k.info (reads_as k.info) n

pub no_answer_in : (info : List ℕ) → begins_with_colon info ≡ false
    → reported_answer (reading_of info) ≡ None
no_answer_in info n = no_answer (reading_of info) info (reads_as info) n
