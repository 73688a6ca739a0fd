-- Readings field by field: each step finds something or ends the reading with its fault.
use Rattle.std.specs.Prelude.{Bool, true, false, Option, None, Some, Result, Err}
use Rattle.aprs_log.specs.declared.fault.LineFault.{LineFault}

-- If something was found, what follows is `go_on` of it, and otherwise this fault.
infixr 10 ◌otherwise◌then◌
abbrev pub ◌otherwise◌then◌ : {A B : Type 0} → Option A → LineFault → (A → Result B LineFault)
    → Result B LineFault
(Some x) otherwise fault then go_on = go_on x
None otherwise fault then go_on = Err fault

-- `Some` where the condition holds, and `None` where it doesn't.
abbrev pub guard : Bool → Option (Unit {0})
guard true = Some tt
guard false = None
