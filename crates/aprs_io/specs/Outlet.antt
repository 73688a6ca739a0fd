-- What contracts see of a writer with bytes on their way to it.
use Rattle.std.specs.Prelude.{◌≡◌, ℕ, List, [], ◌++◌, Option, Result, OnOk, OnErr}
use Rattle.std.specs.Borrow.{GName}
use Rattle.aprs_io.specs.Device.{Sends, SendsAllBut}
use Rattle.aprs_io.specs.declared.device.Counted.{Counted}
use Rattle.aprs_io.specs.declared.outlet.Outlet.{Outlet}

-- The writer that it has on loan.
abbrev pub writer_of : {W : Type 0} → Outlet W → Counted W
writer_of o = o.w.now

-- The name of that loan.
abbrev pub writer_loan_of : {W : Type 0} → Outlet W → GName
writer_loan_of o = o.w.ghost_name

-- The bytes that it holds back.
abbrev pub held_of : {W : Type 0} → Outlet W → List ℕ
held_of o = o.held

-- The outlet took this text since the writer was `first`: a first part of it went out, and the
-- rest is what the outlet holds.
abbrev pub HasTaken : {W : Type 0} → (W → Option (List ℕ)) → Counted W → Outlet W → List ℕ → Type 0
HasTaken contents first o text = SendsAllBut contents first (writer_of o) text (held_of o)

-- At Ok it took the text. At an error a prefix of what it held and of the text went out, the last
-- call of the writer answered a fault, and it holds nothing.
pub record Puts {W E : Type 0} (contents : W → Option (List ℕ)) (r : Result (Unit {0}) E)
    (old new : Outlet W) (text : List ℕ) : Type 0 where
  pub same_reference : writer_loan_of new ≡ writer_loan_of old
  pub took : OnOk r (HasTaken contents (writer_of old) new (held_of old ++ text))
  pub fails : OnErr r (Sends contents r (writer_of old) (writer_of new) (held_of old ++ text))
  pub empty : OnErr r (held_of new ≡ [])
