-- The numbers and names of the reasons for which a piece is passed over.
use Rattle.std.specs.Prelude.{ℕ, List, codes}
use Rattle.aprs_kiss.specs.declared.fault.PassFault.{PassFault}
use Rattle.aprs_kiss.specs.declared.fault.PassFault.TheVariants.{BadEscape, TooLong, NotData}

-- A fault's number.
abbrev pub pass_fault_number : PassFault → ℕ
pass_fault_number BadEscape = 1
pass_fault_number TooLong = 2
pass_fault_number NotData = 3

-- A fault's name.
abbrev pub pass_fault_name : PassFault → List ℕ
pass_fault_name BadEscape = codes "BadEscape"
pass_fault_name TooLong = codes "TooLong"
pass_fault_name NotData = codes "NotData"
