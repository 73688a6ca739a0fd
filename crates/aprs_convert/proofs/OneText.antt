-- What a conversion or a check writes of an input is one text, and so is the fault.
use Rattle.aprs_convert.proofs.Common.{◌≡◌, ◌∙◌, ℕ, ◌+◌, List, [], ◌∷◌, ◌++◌, length, map, Option, None, Some, Ok, inl, inr, sym, ap, append-nil, flat_map, judgements_of, heard_or_passed, line_of, log_answers, receptions_of, HasLogFault, IsLogText, text_of_lines, InputEnd, LogFault, Reason, line_of-syntax, reports-line_of, log_fault-answers, log_text-answers}
use Rattle.aprs_log.specs.Reception.{Received}
use Rattle.aprs_log.specs.declared.line.Line.TheVariants as line
use Rattle.aprs_convert.specs.Check.{Checks, IsPassedFor, PassesOver, passed_line_of, totals_line_of}
use Rattle.aprs_convert.specs.Conversion.{Converts, reception_text}
use Rattle.aprs_convert.specs.Plan.{Plan, check_lines, check_plan, convert_plan, lines_plan, totals}
use Rattle.aprs_convert.specs.declared.form.Form.{Form}
use Rattle.aprs_convert.specs.declared.form.Form.TheVariants.{Text, Kind, Kiss, Log, Capture}
use Rattle.aprs_convert.proofs.SaidLines.{faultless_said, faulty_said, passed_in, same_line}
use Rattle.aprs_convert.proofs.Writings.{heard_text, reports_text, stream_text, totals_text}

-- the run writes this and ends with this fault
pub record IsPlan (plan : Plan) (fault : Option LogFault) (written : List ℕ) : Type 0 where
  pub fault_is : plan.fault ≡ fault
  pub text_is : plan.text ≡ written

-- ---- a conversion

log_plan : (f : Form) (t : List ℕ) (c : InputEnd) (fault : Option LogFault) (S : List Received)
    (written : List ℕ) → (log_answers t c).fault ≡ fault
    → receptions_of (log_answers t c).given ≡ S → written ≡ flat_map (reception_text f) S
    → IsPlan (lines_plan f t c) fault written
log_plan f t c fault S written at heard is =
    record { fault_is = at; text_is = heard_text f t c S heard ∙ sym is }

none_plan : (f : Form) (t : List ℕ) (c : InputEnd) (S : List Received) (written : List ℕ)
    → IsLogText t c S → written ≡ flat_map (reception_text f) S → IsPlan (lines_plan f t c) None written
none_plan f t c S written log is =
    let read = log_text-answers t c S log in log_plan f t c None S written read.0 read.1 is

some_plan : (f : Form) (t : List ℕ) (c : InputEnd) (fault : LogFault) (S : List Received)
    (written : List ℕ) (log : HasLogFault t c fault) → S ≡ log.before.0
    → written ≡ flat_map (reception_text f) S → IsPlan (lines_plan f t c) (Some fault) written
some_plan f t c fault S written log same is =
    let its = faulty_said t c fault log in
    log_plan f t c (Some fault) S written (log_fault-answers t c fault log)
    (ap receptions_of its.whole ∙ its.said.heard ∙ sym same) is

pub converts_plan : (f : Form) (t : List ℕ) (c : InputEnd) (fault : Option LogFault)
    (written : List ℕ) → Converts f fault t c written → IsPlan (convert_plan f t c) fault written
converts_plan (Capture r m) t c fault written h = record {
  fault_is = sym h.1.0;
  text_is = stream_text r m (judgements_of t)
      ∙ ap (flat_map (reception_text (Capture r m))) (sym h.1.1) ∙ sym h.2;
}
converts_plan Text t c None written h = none_plan Text t c h.0 written h.1 h.2
converts_plan Text t c (Some fault) written h = some_plan Text t c fault h.0 written h.1.0 h.1.1 h.2
converts_plan Kind t c None written h = none_plan Kind t c h.0 written h.1 h.2
converts_plan Kind t c (Some fault) written h = some_plan Kind t c fault h.0 written h.1.0 h.1.1 h.2
converts_plan Kiss t c None written h = none_plan Kiss t c h.0 written h.1 h.2
converts_plan Kiss t c (Some fault) written h = some_plan Kiss t c fault h.0 written h.1.0 h.1.1 h.2
converts_plan Log t c None written h = none_plan Log t c h.0 written h.1 h.2
converts_plan Log t c (Some fault) written h = some_plan Log t c fault h.0 written h.1.0 h.1.1 h.2

-- ---- a check

-- a line that is passed over is read so
passed_read : (l : List ℕ) (reason : Reason) → IsPassedFor l reason
    → line_of l ≡ Ok (line.Passed reason)
passed_read l reason h =
    line_of-syntax l h.0 h.1 h.2 h.3 ∙ ap (λ r. Ok (heard_or_passed h.0 h.1 r)) h.4

not_both : (l : List ℕ) (x : Received) (reason : Reason) → line_of l ≡ Ok (line.Heard x)
    → line_of l ≡ Ok (line.Passed reason) → ⊥
not_both l x reason e f =
    let bad = same_line (line.Heard x) (line.Passed reason) (line_of l) e f in absurd cc

same_reason : (l : List ℕ) (a b : Reason) → line_of l ≡ Ok (line.Passed a)
    → line_of l ≡ Ok (line.Passed b) → a ≡ b
same_reason l a b e f =
    let same = same_line (line.Passed a) (line.Passed b) (line_of l) e f in cc

passed_same : (n : ℕ) (lines : List (List ℕ)) (p q : List (ℕ × Reason)) → PassesOver n lines p
    → PassesOver n lines q → p ≡ q
passed_same n [] p q a b = a ∙ sym b
passed_same n (l ∷ lines) p q (inl a) (inl b) = passed_same (n + 1) lines p q a.2 b.2
passed_same n (l ∷ lines) p q (inl a) (inr b) = absurd (not_both l a.0 b.0
    (reports-line_of l a.0 a.1) (passed_read l b.0 b.2))
passed_same n (l ∷ lines) p q (inr a) (inl b) = absurd (not_both l b.0 a.0
    (reports-line_of l b.0 b.1) (passed_read l a.0 a.2))
passed_same n (l ∷ lines) p q (inr a) (inr b) =
    let reason = same_reason l a.0 b.0 (passed_read l a.0 a.2) (passed_read l b.0 b.2) in
    a.4 ∙ ap (λ (r : Reason). (n, r) ∷ a.1) reason
    ∙ ap (λ ps. (n, b.0) ∷ ps) (passed_same (n + 1) lines a.1 b.1 a.3 b.3) ∙ sym b.4

pub checks_plan : (t : List ℕ) (c : InputEnd) (fault : Option LogFault) (written : List ℕ)
    → Checks fault t c written → IsPlan (check_plan t c) fault written
checks_plan t c None written h =
    let S = h.0 in
    let log = h.1 in
    let read = log_text-answers t c S log in
    let its = faultless_said t c S log in
    let same = passed_same 1 log.lines (passed_in 1 its.said.given) h.2 its.said.passes h.3 in
    record {
      fault_is = read.0;
      text_is = ap (λ f. check_lines 1 (log_answers t c).given ++ totals f (log_answers t c).given)
          read.0
          ∙ ap (λ given. check_lines 1 given ++ totals None given) its.whole
          ∙ totals_text its.said.given S its.said.heard
          ∙ ap (λ ps. text_of_lines (map passed_line_of ps ++ totals_line_of (length S) (length ps) ∷ []))
          same
          ∙ sym h.4;
    }
checks_plan t c (Some fault) written h =
    let log = h.0 in
    let its = faulty_said t c fault log in
    let read = log_fault-answers t c fault log in
    let same = passed_same 1 log.lines (passed_in 1 its.said.given) h.1 its.said.passes h.2 in
    record {
      fault_is = read;
      text_is = ap (λ f. check_lines 1 (log_answers t c).given ++ totals f (log_answers t c).given)
          read
          ∙ append-nil (check_lines 1 (log_answers t c).given)
          ∙ ap (check_lines 1) its.whole ∙ reports_text 1 its.said.given
          ∙ ap (λ ps. text_of_lines (map passed_line_of ps)) same ∙ sym h.3;
    }

-- ---- one text

pub one_text : (plan : Plan) (fault other : Option LogFault) (written more : List ℕ)
    → IsPlan plan fault written → IsPlan plan other more → (fault ≡ other) × (written ≡ more)
one_text plan fault other written more a b =
    (sym a.fault_is ∙ b.fault_is, sym a.text_is ∙ b.text_is)
