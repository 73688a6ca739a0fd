-- What a run writes, and the fault that it ends with, as a function of what was got of its input.
-- No public clause cites this module.
use Rattle.std.specs.Prelude.{◌≡◌, ℕ, ◌+◌, List, [], ◌∷◌, ◌++◌, codes, Option, None, Some, Result, Ok, Err}
use Rattle.std.specs.Io.KnownBytes.{Appends}
use Rattle.std.specs.List.{flat_map}
use Rattle.aprs_kiss.specs.Device.{AppendsPrefix, Calls}
use Rattle.aprs_kiss.specs.Judgement.{Judgement}
use Rattle.aprs_kiss.specs.Stream.{judgements_of}
use Rattle.aprs_ax25.specs.FrameFault.{frame_or_fault}
use Rattle.aprs_ax25.specs.declared.fault.FrameFault.{FrameFault}
use Rattle.aprs_io.specs.declared.device.Counted.{Counted}
use Rattle.aprs_log.specs.Line.{written_line}
use Rattle.aprs_log.specs.LogAnswers.{Answers, log_answers}
use Rattle.aprs_log.specs.declared.InputEnd.{InputEnd}
use Rattle.aprs_log.specs.declared.InputEnd.TheVariants as how
use Rattle.aprs_log.specs.declared.fault.LogCause.TheVariants as why
use Rattle.aprs_log.specs.declared.fault.LogFault.{LogFault}
use Rattle.aprs_log.specs.declared.line.Line.{Line}
use Rattle.aprs_log.specs.declared.line.Line.TheVariants as line
use Rattle.aprs_convert.specs.Check.{passed_line_of, totals_line_of}
use Rattle.aprs_convert.specs.Conversion.{reception_text, stream_fault}
use Rattle.aprs_convert.specs.Ends.{AsksForRun, last_of_output}
use Rattle.aprs_convert.specs.Got.{OfGot}
use Rattle.aprs_convert.specs.declared.fault.ConvertFault.{ConvertFault}
use Rattle.aprs_convert.specs.declared.fault.ConvertFault.TheVariants.{Log, Write}
use Rattle.aprs_convert.specs.declared.form.Form.{Form}
use Rattle.aprs_convert.specs.declared.form.Form.TheVariants as form

-- What a run over an input writes, and the fault that it ends with, if it has one.
pub record Plan : Type 0 where
  pub text : List ℕ
  pub fault : Option LogFault

-- ---- a conversion

-- What is written for a line; one that is passed over gives nothing.
abbrev pub line_text : Form → Line → List ℕ
line_text f (line.Heard x) = reception_text f x
line_text f (line.Passed reason) = []

-- What a conversion of a log does.
abbrev pub lines_plan : Form → List ℕ → InputEnd → Plan
lines_plan f text ending = record {
  text = flat_map (line_text f) (log_answers text ending).given;
  fault = (log_answers text ending).fault;
}

-- The log line of a UI frame, as this receiver heard it at this moment; another frame gives
-- nothing.
abbrev pub frame_line : List ℕ → ℕ → Result (List ℕ) FrameFault → List ℕ
frame_line receiver moment (Ok frame) =
    written_line (record { moment = moment; receiver = receiver; frame = frame }) ++ codes "\n"
frame_line receiver moment (Err fault) = []

-- The log line of a data frame that is a UI frame; anything else gives nothing.
abbrev pub capture_text : List ℕ → ℕ → Judgement → List ℕ
capture_text receiver moment (Ok data_frame) =
    frame_line receiver moment (frame_or_fault data_frame.bytes)
capture_text receiver moment (Err fault) = []

-- What a capture of a stream does.
abbrev pub stream_plan : List ℕ → ℕ → List ℕ → InputEnd → Plan
stream_plan receiver moment text ending = record {
  text = flat_map (capture_text receiver moment) (judgements_of text);
  fault = stream_fault ending;
}

-- A run over a stream that ends so has this answer.
abbrev pub EndsStream : Result (Unit {0}) ConvertFault → InputEnd → Type 0
EndsStream answer how.End = answer ≡ Ok tt
EndsStream answer how.Read = answer ≡ Err (Log (record { line = 0; cause = why.Read }))
EndsStream answer how.TooLong = answer ≡ Err (Log (record { line = 0; cause = why.TooLong }))

-- What a conversion does: a capture reads a stream, and any other form a log.
abbrev pub convert_plan : Form → List ℕ → InputEnd → Plan
convert_plan form.Text text ending = lines_plan form.Text text ending
convert_plan form.Kind text ending = lines_plan form.Kind text ending
convert_plan form.Kiss text ending = lines_plan form.Kiss text ending
convert_plan form.Log text ending = lines_plan form.Log text ending
convert_plan (form.Capture receiver moment) text ending = stream_plan receiver moment text ending

-- ---- a check

-- The reports of those of these lines that are passed over. The first of all has number n.
abbrev pub check_lines : ℕ → List Line → List ℕ
check_lines n [] = []
check_lines n (line.Heard x ∷ lines) = check_lines (n + 1) lines
check_lines n (line.Passed reason ∷ lines) =
    (passed_line_of (n, reason) ++ codes "\n") ++ check_lines (n + 1) lines

-- How many lines are heard.
abbrev pub count_heard : List Line → ℕ
count_heard [] = 0
count_heard (line.Heard x ∷ lines) = count_heard lines + 1
count_heard (line.Passed reason ∷ lines) = count_heard lines

-- How many lines are passed over.
abbrev pub count_passed : List Line → ℕ
count_passed [] = 0
count_passed (line.Heard x ∷ lines) = count_passed lines
count_passed (line.Passed reason ∷ lines) = count_passed lines + 1

-- The totals, which a fault leaves out.
abbrev pub totals : Option LogFault → List Line → List ℕ
totals None lines = totals_line_of (count_heard lines) (count_passed lines) ++ codes "\n"
totals (Some fault) lines = []

-- The reports of a log with these answers.
abbrev pub check_of : Answers → List ℕ
check_of answers = check_lines 1 answers.given ++ totals answers.fault answers.given

-- What a check of a log does.
abbrev pub check_plan : List ℕ → InputEnd → Plan
check_plan text ending = record {
  text = check_of (log_answers text ending);
  fault = (log_answers text ending).fault;
}

-- ---- a run that does as planned

-- Without a fault it wrote the whole text, an input's fault comes after the whole text, and a
-- refused output after a prefix of it. The output had `old` before, and then it has `new`.
abbrev pub EndsAsPlanned : Result (Unit {0}) ConvertFault → Option (List ℕ) → Option (List ℕ)
    → Plan → Type 0
EndsAsPlanned (Ok u) old new plan = (plan.fault ≡ None) × Appends old new plan.text
EndsAsPlanned (Err (Log fault)) old new plan = (plan.fault ≡ Some fault) × Appends old new plan.text
EndsAsPlanned (Err Write) old new plan = AppendsPrefix old new plan.text

-- Of the input some bytes were got, at most `limit`, and the run did as planned for these bytes and
-- their ending; the device then has `after`.
abbrev pub RunsOver : (List ℕ → InputEnd → Plan) → ℕ → Option (List ℕ) → Option (List ℕ)
    → Result (Unit {0}) ConvertFault → Option (List ℕ) → Option (List ℕ) → Type 0
RunsOver plan_of limit known after answer old new =
    OfGot limit known after (λ text ending. EndsAsPlanned answer old new (plan_of text ending))

-- The run did as planned, and its devices were asked as `Runs` says.
pub record RunsAsPlanned {R W : Type 0} (plan_of : List ℕ → InputEnd → Plan) (limit : ℕ)
    (remaining : R → Option (List ℕ)) (contents : W → Option (List ℕ))
    (answer : Result (Unit {0}) ConvertFault) (read_from now_read : Counted R)
    (written_to now_written : Counted W) : Type 0 where
  pub run : RunsOver plan_of limit (remaining read_from.device) (remaining now_read.device) answer
      (contents written_to.device) (contents now_written.device)
  pub reads : AsksForRun answer read_from now_read
  pub writes : Calls (last_of_output answer) written_to now_written
