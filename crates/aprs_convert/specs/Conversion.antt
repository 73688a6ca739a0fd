-- What a conversion writes of a log, or of a KISS stream that is captured.
use Rattle.std.specs.Prelude.{◌≡◌, ℕ, List, ◌++◌, codes, map, Option, None, Some}
use Rattle.std.specs.List.{filter_map, flat_map}
use Rattle.std.specs.Option.{option_and_then}
use Rattle.std.specs.Result.{result_ok}
use Rattle.aprs_io.specs.declared.input.InputEnd.{InputEnd}
use Rattle.aprs_io.specs.declared.input.InputEnd.TheVariants as how
use Rattle.aprs_kiss.specs.Spelling.{kiss_text}
use Rattle.aprs_kiss.specs.Stream.{judgements_of}
use Rattle.aprs_ax25.specs.FrameFault.{frame_or_fault, parts_of}
use Rattle.aprs_log.specs.Line.{written_line}
use Rattle.aprs_log.specs.LogText.{HasLogFault, IsLogText}
use Rattle.aprs_log.specs.Reception.{Received}
use Rattle.aprs_log.specs.declared.fault.LogCause.TheVariants as why
use Rattle.aprs_log.specs.declared.fault.LogFault.{LogFault}
use Rattle.aprs_convert.specs.Monitor.{monitor_text, kind_and_monitor_text}
use Rattle.aprs_convert.specs.declared.form.Form.{Form}
use Rattle.aprs_convert.specs.declared.form.Form.TheVariants as form

-- What is written for a reception: a capture is written as a log.
abbrev pub reception_text : Form → Received → List ℕ
reception_text form.Text x = monitor_text (parts_of x.frame) ++ codes "\n"
reception_text form.Kind x = kind_and_monitor_text (parts_of x.frame) ++ codes "\n"
reception_text form.Kiss x = kiss_text x.frame
reception_text other x = written_line x ++ codes "\n"

-- The UI frames of a KISS stream: its data frames, as far as they are UI frames.
abbrev pub frames_of : List ℕ → List (List ℕ)
frames_of stream =
    filter_map (λ judgement. option_and_then (λ found. result_ok (frame_or_fault found.bytes))
    (result_ok judgement)) (judgements_of stream)

-- The fault of a stream that ends so: it has no lines, and line 0 stands for it.
abbrev pub stream_fault : InputEnd → Option LogFault
stream_fault how.End = None
stream_fault how.Read = Some (record { line = 0; cause = why.Read })
stream_fault how.TooLong = Some (record { line = 0; cause = why.TooLong })

-- The input of a conversion gives these receptions, in order, up to its fault, if it has one. That
-- of a capture is a stream, each of whose UI frames was heard by this receiver at this moment; that
-- of any other form is a log.
abbrev pub Hears : Form → Option LogFault → List ℕ → InputEnd → List Received → Type 0
Hears (form.Capture receiver moment) fault stream ending S = (fault ≡ stream_fault ending)
    × (S ≡ map (λ frame. record { moment = moment; receiver = receiver; frame = frame })
    (frames_of stream))
Hears other None text ending S = IsLogText text ending S
Hears other (Some fault) text ending S = (log : HasLogFault text ending fault) × (S ≡ log.before.0)

-- A conversion writes this of an input up to this fault, if it has one: what its form gives for
-- each reception.
abbrev pub Converts : Form → Option LogFault → List ℕ → InputEnd → List ℕ → Type 0
Converts f fault text ending written =
    (S : List Received) × Hears f fault text ending S × (written ≡ flat_map (reception_text f) S)
