-- What a function did to a device that counts its failed calls.
use Rattle.std.specs.Prelude.{◌≡◌, ℕ, ◌+◌, ◌-◌, ◌*◌, ◌^◌, ◌≤◌, min, List, ◌++◌, length, Option, Result, Ok, Err, OnOk, OnErr, IsOk}
use Rattle.std.specs.Io.KnownBytes.{Appends}
use Rattle.aprs_io.specs.declared.device.Counted.{Counted}

-- The reader or writer inside.
abbrev pub device_of : {T : Type 0} → Counted T → T
device_of counted = counted.device

-- How many of its calls failed.
abbrev pub failures_of : {T : Type 0} → Counted T → ℕ
failures_of counted = counted.failed

-- How many of its answers were faults.
abbrev pub answered_of : {T : Type 0} → Counted T → ℕ
answered_of counted = counted.answered

-- How many of its answers were the end of the input.
abbrev pub ends_of : {T : Type 0} → Counted T → ℕ
ends_of counted = counted.ended

-- One more, up to 2^64 - 1, the greatest number of 64 bits.
abbrev pub one_more : ℕ → ℕ
one_more n = min (n + 1) (2 ^ 64 - 1)

-- The count rose, or it is the greatest number of 64 bits, where it stays.
abbrev pub Rose : ℕ → ℕ → Type 0
Rose old new = one_more old ≤ new

-- What a function's last call of its device was answered: a fault (`Fault`), the end of the input
-- (`End`), or neither (`Going`). `Going` it is also where the device wasn't called at all.
pub data Last : Type 0 where
  Going : Last
  Fault : Last
  End : Last

-- A count of faults, after this answer.
abbrev pub faults_after : Last → ℕ → ℕ
faults_after Fault n = one_more n
faults_after other n = n

-- A count of ends, after this answer.
abbrev pub ends_after : Last → ℕ → ℕ
ends_after End n = one_more n
ends_after other n = n

-- What a function did to its device, by the device's counts. At `Going` no call of `read` or `send`
-- answered a fault or the end; at `Fault` one answered a fault, and none the end; at `End` one
-- answered the end, and none a fault. A function that promises this for every device makes no call
-- after such an answer: one more could have answered the same again. `failed` counts each failed
-- try, also one that was made again in the same call: it doesn't fall, and rises at `Fault`. A
-- count stays at 2^64 - 1.
pub record Calls {T : Type 0} (last : Last) (old new : Counted T) : Type 0 where
  pub count : old.failed ≤ new.failed
  pub fault : faults_after last old.failed ≤ new.failed
  pub answered : new.answered ≡ faults_after last old.answered
  pub ended : new.ended ≡ ends_after last old.ended

-- What the device was answered last, by what a function returned: a fault where it returned an
-- error.
abbrev pub last_at : {A E : Type 0} → Result A E → Last
last_at (Ok value) = Going
last_at (Err fault) = Fault

-- A prefix of the bytes went out, after those that went out before, where these are known; `rest`
-- are the others.
abbrev pub AppendsAllBut : Option (List ℕ) → Option (List ℕ) → List ℕ → List ℕ → Type 0
AppendsAllBut old new bytes rest =
    (prefix : List ℕ) × (bytes ≡ prefix ++ rest) × Appends old new prefix

-- A prefix of the bytes went out, after those that went out before, where these are known.
abbrev pub AppendsPrefix : Option (List ℕ) → Option (List ℕ) → List ℕ → Type 0
AppendsPrefix old new bytes = (rest : List ℕ) × AppendsAllBut old new bytes rest

-- How many tries may fail in this many calls of a device: 999 in each, and one more at a fault.
abbrev pub most_failures : Last → ℕ → ℕ
most_failures Fault calls = 999 * calls + 1
most_failures other calls = 999 * calls

-- At Ok the text went out. At an error a prefix of it did, and the last call of the device answered
-- a fault, which no call before it did. At most 999 tries fail for each byte, and one more at an
-- error. For a text without bytes the device isn't asked, and that is Ok.
pub record Sends {W E : Type 0} (contents : W → Option (List ℕ)) (r : Result (Unit {0}) E)
    (old new : Counted W) (text : List ℕ) : Type 0 where
  pub sent : OnOk r (Appends (contents old.device) (contents new.device) text)
  pub prefix : OnErr r (AppendsPrefix (contents old.device) (contents new.device) text)
  pub calls : Calls (last_at r) old new
  pub tries : new.failed ≤ old.failed + most_failures (last_at r) (length text)
  pub unasked : length text ≡ 0 → IsOk r × (new ≡ old)

-- A first part of the text went out, and `rest` is left.
pub record SendsAllBut {W : Type 0} (contents : W → Option (List ℕ)) (old new : Counted W)
    (text rest : List ℕ) : Type 0 where
  pub gone : List ℕ
  pub whole : text ≡ gone ++ rest
  pub sends : Sends {E = Unit {0}} contents (Ok tt) old new gone
