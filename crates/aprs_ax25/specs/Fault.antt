-- Numbers and names of faults.
use Rattle.std.specs.Prelude.{ℕ, List, codes}
use Rattle.aprs_ax25.specs.declared.fault.FrameFault.{FrameFault}
use Rattle.aprs_ax25.specs.declared.fault.FrameFault.TheVariants as frame
use Rattle.aprs_ax25.specs.declared.fault.CallFault.{CallFault}
use Rattle.aprs_ax25.specs.declared.fault.CallFault.TheVariants as call
use Rattle.aprs_ax25.specs.declared.fault.MakeFault.{MakeFault}
use Rattle.aprs_ax25.specs.declared.fault.MakeFault.TheVariants as make

-- The number of a frame's fault.
abbrev pub frame_fault_number : FrameFault → ℕ
frame_fault_number frame.Address = 1
frame_fault_number frame.Callsign = 2
frame_fault_number frame.Control = 3
frame_fault_number frame.Pid = 4
frame_fault_number frame.NoInfo = 5
frame_fault_number frame.LongInfo = 6

-- The name of a frame's fault.
abbrev pub frame_fault_name : FrameFault → List ℕ
frame_fault_name frame.Address = codes "Address"
frame_fault_name frame.Callsign = codes "Callsign"
frame_fault_name frame.Control = codes "Control"
frame_fault_name frame.Pid = codes "Pid"
frame_fault_name frame.NoInfo = codes "NoInfo"
frame_fault_name frame.LongInfo = codes "LongInfo"

-- The number of a callsign's fault.
abbrev pub call_fault_number : CallFault → ℕ
call_fault_number call.Length = 1
call_fault_number call.Character = 2
call_fault_number call.Ssid = 3

-- The name of a callsign's fault.
abbrev pub call_fault_name : CallFault → List ℕ
call_fault_name call.Length = codes "Length"
call_fault_name call.Character = codes "Character"
call_fault_name call.Ssid = codes "Ssid"

-- The number of a fault of parts.
abbrev pub make_fault_number : MakeFault → ℕ
make_fault_number make.Hops = 1
make_fault_number make.NoInfo = 2
make_fault_number make.LongInfo = 3

-- The name of a fault of parts.
abbrev pub make_fault_name : MakeFault → List ℕ
make_fault_name make.Hops = codes "Hops"
make_fault_name make.NoInfo = codes "NoInfo"
make_fault_name make.LongInfo = codes "LongInfo"
