-- Numbers and names of faults, causes and reasons.
use Rattle.std.specs.Prelude.{ℕ, List, codes}
use Rattle.aprs_kiss.specs.declared.fault.PassFault.{PassFault}
use Rattle.aprs_kiss.specs.declared.fault.PassFault.TheVariants as pass
use Rattle.aprs_ax25.specs.declared.fault.FrameFault.{FrameFault}
use Rattle.aprs_ax25.specs.declared.fault.FrameFault.TheVariants as frame
use Rattle.aprs_log.specs.declared.fault.LineFault.{LineFault}
use Rattle.aprs_log.specs.declared.fault.LineFault.TheVariants as fault
use Rattle.aprs_log.specs.declared.fault.LogCause.{LogCause}
use Rattle.aprs_log.specs.declared.fault.LogCause.TheVariants as cause
use Rattle.aprs_log.specs.declared.fault.Reason.{Reason}
use Rattle.aprs_log.specs.declared.fault.Reason.TheVariants as reason

-- The number of a line's fault, from 1, as `number` returns it.
abbrev pub line_fault_number : LineFault → ℕ
line_fault_number fault.LongLine = 1
line_fault_number fault.NoNewline = 2
line_fault_number fault.Moment = 3
line_fault_number fault.Receiver = 4
line_fault_number fault.Hex = 5

-- The name of a line's fault, as `name` returns it.
abbrev pub line_fault_name : LineFault → List ℕ
line_fault_name fault.LongLine = codes "LongLine"
line_fault_name fault.NoNewline = codes "NoNewline"
line_fault_name fault.Moment = codes "Moment"
line_fault_name fault.Receiver = codes "Receiver"
line_fault_name fault.Hex = codes "Hex"

-- A line's fault as a log's cause.
abbrev pub log_cause_of : LineFault → LogCause
log_cause_of fault.LongLine = cause.LongLine
log_cause_of fault.NoNewline = cause.NoNewline
log_cause_of fault.Moment = cause.Moment
log_cause_of fault.Receiver = cause.Receiver
log_cause_of fault.Hex = cause.Hex

-- The number of a log's cause, from 1: a line's fault keeps its number.
abbrev pub log_cause_number : LogCause → ℕ
log_cause_number cause.LongLine = 1
log_cause_number cause.NoNewline = 2
log_cause_number cause.Moment = 3
log_cause_number cause.Receiver = 4
log_cause_number cause.Hex = 5
log_cause_number cause.Read = 6
log_cause_number cause.TooLong = 7
log_cause_number cause.Memory = 8

-- The name of a log's cause, as `name` returns it.
abbrev pub log_cause_name : LogCause → List ℕ
log_cause_name cause.LongLine = codes "LongLine"
log_cause_name cause.NoNewline = codes "NoNewline"
log_cause_name cause.Moment = codes "Moment"
log_cause_name cause.Receiver = codes "Receiver"
log_cause_name cause.Hex = codes "Hex"
log_cause_name cause.Read = codes "Read"
log_cause_name cause.TooLong = codes "TooLong"
log_cause_name cause.Memory = codes "Memory"

-- The number of a reason, from 1, in the order in which a line's bytes are judged.
abbrev pub reason_number : Reason → ℕ
reason_number reason.Unended = 1
reason_number reason.NoFrame = 2
reason_number reason.TwoFrames = 3
reason_number reason.BadEscape = 4
reason_number reason.TooLong = 5
reason_number reason.NotData = 6
reason_number reason.Address = 7
reason_number reason.Callsign = 8
reason_number reason.Control = 9
reason_number reason.Pid = 10
reason_number reason.NoInfo = 11
reason_number reason.LongInfo = 12

-- The name of a reason, as `name` returns it.
abbrev pub reason_name : Reason → List ℕ
reason_name reason.Unended = codes "Unended"
reason_name reason.NoFrame = codes "NoFrame"
reason_name reason.TwoFrames = codes "TwoFrames"
reason_name reason.BadEscape = codes "BadEscape"
reason_name reason.TooLong = codes "TooLong"
reason_name reason.NotData = codes "NotData"
reason_name reason.Address = codes "Address"
reason_name reason.Callsign = codes "Callsign"
reason_name reason.Control = codes "Control"
reason_name reason.Pid = codes "Pid"
reason_name reason.NoInfo = codes "NoInfo"
reason_name reason.LongInfo = codes "LongInfo"

-- Why a line holds no frame, where a KISS reader passes its one piece over.
abbrev pub reason_of_pass : PassFault → Reason
reason_of_pass pass.BadEscape = reason.BadEscape
reason_of_pass pass.TooLong = reason.TooLong
reason_of_pass pass.NotData = reason.NotData

-- Why a line holds no frame, where its one data frame is no AX.25 frame.
abbrev pub reason_of_frame : FrameFault → Reason
reason_of_frame frame.Address = reason.Address
reason_of_frame frame.Callsign = reason.Callsign
reason_of_frame frame.Control = reason.Control
reason_of_frame frame.Pid = reason.Pid
reason_of_frame frame.NoInfo = reason.NoInfo
reason_of_frame frame.LongInfo = reason.LongInfo
