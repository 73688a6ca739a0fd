-- Numbers and names of the faults of merging and of widening.
use Rattle.std.specs.Prelude.{ℕ, List, codes}
use Rattle.aprs_transmissions.specs.declared.merge_fault.MergeFault.{MergeFault}
use Rattle.aprs_transmissions.specs.declared.merge_fault.MergeFault.TheVariants as merge_fault
use Rattle.aprs_transmissions.specs.declared.widen_fault.WidenFault.{WidenFault}
use Rattle.aprs_transmissions.specs.declared.widen_fault.WidenFault.TheVariants as widen_fault

-- The number of each fault of a merge.
abbrev pub merge_fault_number : MergeFault → ℕ
merge_fault_number merge_fault.OtherGap = 1
merge_fault_number merge_fault.Memory = 2

-- The name of each fault of a merge.
abbrev pub merge_fault_name : MergeFault → List ℕ
merge_fault_name merge_fault.OtherGap = codes "OtherGap"
merge_fault_name merge_fault.Memory = codes "Memory"

-- The number of each fault of a widening.
abbrev pub widen_fault_number : WidenFault → ℕ
widen_fault_number widen_fault.Narrower = 1
widen_fault_number widen_fault.Memory = 2

-- The name of each fault of a widening.
abbrev pub widen_fault_name : WidenFault → List ℕ
widen_fault_name widen_fault.Narrower = codes "Narrower"
widen_fault_name widen_fault.Memory = codes "Memory"
