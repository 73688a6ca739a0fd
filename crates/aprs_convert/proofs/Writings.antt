-- What runs plan to write is what a conversion or a check writes.
use Rattle.aprs_convert.proofs.Common.{◌≡◌, ◌∙◌, ℕ, ◌+◌, List, [], ◌∷◌, ◌++◌, length, map, Option, None, Some, Result, Ok, Err, refl, sym, ap, append-nil, arith, cons_option, filter_map, flat_map, Judgement, judgements_of, frame_or_fault, FrameFault, log_answers, receptions_of, text_of_lines, InputEnd, LogFault, Line, answers-log_fault, answers-log_text}
use Rattle.std.specs.Option.{option_and_then}
use Rattle.std.specs.Result.{result_ok}
use Rattle.std.proofs.lemmas.List.Concat.{flat_map-append}
use Rattle.aprs_log.specs.Reception.{Received}
use Rattle.aprs_log.specs.declared.line.Line.TheVariants as line
use Rattle.aprs_convert.specs.Check.{Checks, passed_line_of, totals_line_of}
use Rattle.aprs_convert.specs.Conversion.{Converts, reception_text}
use Rattle.aprs_convert.specs.Plan.{capture_text, check_lines, check_plan, convert_plan, count_heard, count_passed, frame_line, line_text, totals}
use Rattle.aprs_convert.specs.declared.form.Form.{Form}
use Rattle.aprs_convert.specs.declared.form.Form.TheVariants.{Text, Kind, Kiss, Log, Capture}
use Rattle.aprs_convert.proofs.SaidLines.{faultless_said, faulty_said, passed_in}

-- ---- a conversion of a log

-- what is written for lines is what is written for their receptions
lines_text : (f : Form) (given : List Line)
    → flat_map (line_text f) given ≡ flat_map (reception_text f) (receptions_of given)
lines_text f [] = refl
lines_text f (line.Heard x ∷ given) = ap (λ l. reception_text f x ++ l) (lines_text f given)
lines_text f (line.Passed reason ∷ given) = lines_text f given

pub heard_text : (f : Form) (t : List ℕ) (c : InputEnd) (S : List Received)
    → receptions_of (log_answers t c).given ≡ S
    → flat_map (line_text f) (log_answers t c).given ≡ flat_map (reception_text f) S
heard_text f t c S e =
    lines_text f (log_answers t c).given ∙ ap (flat_map (reception_text f)) e

abbrev IsCapture : Form → Type 0
IsCapture (Capture r m) = Unit {0}
IsCapture f = ⊥

log_converts : (f : Form) → (IsCapture f → ⊥) → (t : List ℕ) (c : InputEnd)
    (fault : Option LogFault) → (log_answers t c).fault ≡ fault
    → Converts f fault t c (flat_map (line_text f) (log_answers t c).given)
log_converts (Capture r m) not t c fault e = absurd (not tt)
log_converts f not t c None e =
    let S = receptions_of (log_answers t c).given in
    (S, answers-log_text t c S (e, refl), heard_text f t c S refl)
log_converts f not t c (Some fault) e =
    let log = answers-log_fault t c fault e in
    let its = faulty_said t c fault log in (
      log.before.0,
      (log, refl),
      heard_text f t c log.before.0
          (ap receptions_of its.whole ∙ its.said.heard),
    )

-- ---- a capture

module _ (r : List ℕ) (m : ℕ) where
  abbrev heard_so : List ℕ → Received
  heard_so frame = record { moment = m; receiver = r; frame = frame }

  abbrev frame_in_data : Judgement → Option (List ℕ)
  frame_in_data j = option_and_then (λ found. result_ok (frame_or_fault found.bytes)) (result_ok j)

  frame_text : (found : Result (List ℕ) FrameFault) (rest : List ℕ) (frames : List (List ℕ))
      → rest ≡ flat_map (reception_text (Capture r m)) (map heard_so frames)
      → frame_line r m found ++ rest ≡ flat_map (reception_text (Capture r m))
      (map heard_so (cons_option (result_ok found) frames))
  frame_text (Ok frame) rest frames e = ap (λ l. frame_line r m (Ok frame) ++ l) e
  frame_text (Err fault) rest frames e = e

  pub stream_text : (js : List Judgement) → flat_map (capture_text r m) js
      ≡ flat_map (reception_text (Capture r m)) (map heard_so (filter_map frame_in_data js))
  stream_text [] = refl
  stream_text (Err fault ∷ js) = stream_text js
  stream_text (Ok data_frame ∷ js) = frame_text (frame_or_fault data_frame.bytes)
      (flat_map (capture_text r m) js) (filter_map frame_in_data js) (stream_text js)

-- ---- a conversion

pub converts : (f : Form) (t : List ℕ) (c : InputEnd)
    → Converts f (convert_plan f t c).fault t c (convert_plan f t c).text
converts Text t c = log_converts Text (λ no. no) t c (log_answers t c).fault refl
converts Kind t c = log_converts Kind (λ no. no) t c (log_answers t c).fault refl
converts Kiss t c = log_converts Kiss (λ no. no) t c (log_answers t c).fault refl
converts Log t c = log_converts Log (λ no. no) t c (log_answers t c).fault refl
converts (Capture r m) t c = (_, (refl, refl), stream_text r m (judgements_of t))

-- ---- a check

pub reports_text : (n : ℕ) (given : List Line)
    → check_lines n given ≡ text_of_lines (map passed_line_of (passed_in n given))
reports_text n [] = refl
reports_text n (line.Heard x ∷ given) = reports_text (n + 1) given
reports_text n (line.Passed reason ∷ given) =
    ap (λ l. (passed_line_of (n, reason) ++ 10 ∷ []) ++ l) (reports_text (n + 1) given)

so_many_heard : (given : List Line) → count_heard given ≡ length (receptions_of given)
so_many_heard [] = refl
so_many_heard (line.Heard x ∷ given) = let e = so_many_heard given in omega (arith, e)
so_many_heard (line.Passed reason ∷ given) = so_many_heard given

so_many_passed : (n : ℕ) (given : List Line) → count_passed given ≡ length (passed_in n given)
so_many_passed n [] = refl
so_many_passed n (line.Heard x ∷ given) = so_many_passed (n + 1) given
so_many_passed n (line.Passed reason ∷ given) =
    let e = so_many_passed (n + 1) given in omega (arith, e)

pub totals_text : (given : List Line) (S : List Received) → receptions_of given ≡ S
    → check_lines 1 given ++ totals None given
    ≡ text_of_lines (map passed_line_of (passed_in 1 given)
    ++ totals_line_of (length S) (length (passed_in 1 given)) ∷ [])
totals_text given S e =
    let passed = passed_in 1 given in
    let end = totals_line_of (length S) (length passed) in
    ap (λ l. l ++ totals None given) (reports_text 1 given)
    ∙ ap (λ n. text_of_lines (map passed_line_of passed)
    ++ (totals_line_of n (count_passed given) ++ 10 ∷ [])) (so_many_heard given ∙ ap length e)
    ∙ ap (λ n. text_of_lines (map passed_line_of passed)
    ++ (totals_line_of (length S) n ++ 10 ∷ [])) (so_many_passed 1 given)
    ∙ ap (λ l. text_of_lines (map passed_line_of passed) ++ l) (sym (append-nil (end ++ 10 ∷ [])))
    ∙ sym (flat_map-append (λ line. line ++ 10 ∷ []) (map passed_line_of passed) (end ∷ []))

log_checks : (t : List ℕ) (c : InputEnd) (fault : Option LogFault) → (log_answers t c).fault ≡ fault
    → Checks fault t c
    (check_lines 1 (log_answers t c).given ++ totals fault (log_answers t c).given)
log_checks t c None e =
    let S = receptions_of (log_answers t c).given in
    let log = answers-log_text t c S (e, refl) in
    let its = faultless_said t c S log in (
      S,
      log,
      passed_in 1 its.said.given,
      its.said.passes,
      ap (λ given. check_lines 1 given ++ totals None given) its.whole
          ∙ totals_text its.said.given S its.said.heard,
    )
log_checks t c (Some fault) e =
    let log = answers-log_fault t c fault e in
    let its = faulty_said t c fault log in (
      log,
      passed_in 1 its.said.given,
      its.said.passes,
      append-nil (check_lines 1 (log_answers t c).given)
          ∙ ap (check_lines 1) its.whole ∙ reports_text 1 its.said.given,
    )

pub checks : (t : List ℕ) (c : InputEnd) → Checks (check_plan t c).fault t c (check_plan t c).text
checks t c = log_checks t c (log_answers t c).fault refl
