-- A line of a log: a moment's text, a space, a receiver's name, a space, and the bytes that the
-- receiver gave in hexadecimal.
use Rattle.std.specs.Prelude.{ℕ, if◌then◌else◌, List, [], ◌∷◌, ◌++◌, length, Result, Ok, Err, nat_le}
use Rattle.std.specs.Result.{result_ok}
use Rattle.hex.specs.Hex.{decode_of, encode_lower}
use Rattle.aprs_kiss.specs.Spelling.{kiss_text}
use Rattle.aprs_kiss.specs.Stream.{rest_of, is_nonempty, judgements_of}
use Rattle.aprs_kiss.specs.Judgement.{Judgement}
use Rattle.aprs_ax25.specs.FrameFault.{frame_or_fault}
use Rattle.aprs_ax25.specs.declared.fault.FrameFault.{FrameFault}
use Rattle.aprs_io.specs.Cut.{cut_at}
use Rattle.aprs_io.specs.Octet.{octet}
use Rattle.aprs_log.specs.Fault.{reason_of_pass, reason_of_frame}
use Rattle.aprs_log.specs.Moment.{moment_text}
use Rattle.aprs_log.specs.MomentReading.{moment_of}
use Rattle.aprs_log.specs.Receiver.{is_receiver}
use Rattle.aprs_log.specs.Reception.{Received}
use Rattle.aprs_log.specs.Steps.{◌otherwise◌then◌, guard}
use Rattle.aprs_log.specs.declared.fault.LineFault.{LineFault}
use Rattle.aprs_log.specs.declared.fault.LineFault.TheVariants as fault
use Rattle.aprs_log.specs.declared.fault.Reason.{Reason}
use Rattle.aprs_log.specs.declared.fault.Reason.TheVariants as reason
use Rattle.aprs_log.specs.Sizes.{most_line}
use Rattle.aprs_log.specs.declared.line.Line.{Line}
use Rattle.aprs_log.specs.declared.line.Line.TheVariants as line

-- ---- the frame in a line's bytes, or the first reason why there is none

-- The frame that the bytes of a data frame are, or the reason why they are none.
abbrev pub frame_or_reason : Result (List ℕ) FrameFault → Result (List ℕ) Reason
frame_or_reason (Ok frame) = Ok frame
frame_or_reason (Err fault) = Err (reason_of_frame fault)

-- The frame in one piece of a KISS stream, by its judgement.
abbrev pub frame_in_piece : Judgement → Result (List ℕ) Reason
frame_in_piece (Ok data_frame) = frame_or_reason (frame_or_fault data_frame.bytes)
frame_in_piece (Err fault) = Err (reason_of_pass fault)

-- The frame in the one nonempty piece, by the judgements of all nonempty pieces.
abbrev pub only_frame : List Judgement → Result (List ℕ) Reason
only_frame [] = Err reason.NoFrame
only_frame (piece ∷ []) = frame_in_piece piece
only_frame (piece ∷ next ∷ more) = Err reason.TwoFrames

-- The one frame in a line's bytes, or the first reason why there is none. If bytes follow the last
-- frame end, or there are bytes and no frame end, it is Unended. Otherwise the pieces before the
-- frame ends decide.
unfoldable pub frame_in : List ℕ → Result (List ℕ) Reason
frame_in bytes =
    if is_nonempty (rest_of bytes) then Err reason.Unended else only_frame (judgements_of bytes)

-- ---- a line's fields, from the left

-- A frame was heard, or the line is passed over for this reason.
abbrev pub heard_or_passed : ℕ → List ℕ → Result (List ℕ) Reason → Line
heard_or_passed m r (Ok frame) = line.Heard (record { moment = m; receiver = r; frame = frame })
heard_or_passed m r (Err reason) = line.Passed reason

-- The line of a moment and a receiver whose bytes stand in these digits: they are hexadecimal, or
-- the fault is Hex; then the frame in the bytes was heard, or the line is passed over.
abbrev pub line_of_digits : ℕ → List ℕ → List ℕ → Result Line LineFault
line_of_digits m r digits =
    result_ok (decode_of digits) otherwise fault.Hex then λ bytes.
    Ok (heard_or_passed m r (frame_in bytes))

-- What a line without its LF reports, or its first fault. It has at most 8,192 bytes, or the fault
-- is LongLine; its first space ends the text of a moment, or the fault is Moment; the next space
-- ends the name of a receiver, or the fault is Receiver; and what follows is read as digits.
unfoldable pub line_of : List ℕ → Result Line LineFault
line_of l =
    guard (nat_le (length l) most_line) otherwise fault.LongLine then λ short.
    cut_at 32 l otherwise fault.Moment then λ first.
    moment_of first.before otherwise fault.Moment then λ moment.
    cut_at 32 first.after otherwise fault.Receiver then λ second.
    guard (is_receiver second.before) otherwise fault.Receiver then λ named.
    line_of_digits moment second.before second.after

-- ---- the line that is written

-- The line of a reception, without its LF: the moment to the millisecond, and the frame as KISS
-- sends it on port 0, in lower case hexadecimal.
abbrev pub written_line : Received → List ℕ
written_line x =
    moment_text x.moment ++ octet " " ∷ x.receiver ++ octet " " ∷ encode_lower (kiss_text x.frame)
