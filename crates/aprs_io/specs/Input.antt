-- What is read of an input under a limit.
use Rattle.std.specs.Prelude.{◌≡◌, ℕ, zero, suc, ◌+◌, ◌≤◌, ◌<◌, List, [], ◌++◌, length, take, drop, Option, Some, IfSome, Result, Ok, Err, IfOk, IfErr}
use Rattle.std.specs.Io.{ReadsAtMost}
use Rattle.std.specs.Io.KnownBytes.{Consumes, ReadConsumes}
use Rattle.aprs_io.specs.Device.{Calls, Last, Going, Fault, End, most_failures}
use Rattle.aprs_io.specs.declared.device.Counted.{Counted}
use Rattle.aprs_io.specs.declared.input.InputEnd.{InputEnd}
use Rattle.aprs_io.specs.declared.input.InputEnd.TheVariants as how

-- The greatest limit that a caller may set for an input: 1 GiB.
abbrev pub most_input : ℕ
most_input = 1073741824

-- After `text` was read of an input, `rest` is left of it, and `after` is what the device still
-- has. `End`: nothing is left, and what the device has isn't said. `Read`: the device still has
-- just the rest, as after a failed read. In both the text has at most `limit` bytes. `TooLong`: the
-- text is as long as the limit, something is left, and the device still has it but for its first
-- byte, which was taken and isn't kept.
abbrev pub EndsSo : InputEnd → ℕ → List ℕ → List ℕ → Option (List ℕ) → Type 0
EndsSo how.End limit text rest after = (rest ≡ []) × (length text ≤ limit)
EndsSo how.Read limit text rest after = (after ≡ Some rest) × (length text ≤ limit)
EndsSo how.TooLong limit text rest after =
    (0 < length rest) × (length text ≡ limit) × (after ≡ Some (drop 1 rest))

-- A text of at most `limit` bytes is read of the input, which then ends in this way; what the
-- device then has, `after`, is as `EndsSo` says.
pub record Gets (limit : ℕ) (input : List ℕ) (after : Option (List ℕ)) (text : List ℕ)
    (ending : InputEnd) : Type 0 where
  pub rest : List ℕ
  pub whole : input ≡ text ++ rest
  pub ends : EndsSo ending limit text rest after

-- Nothing more is read of the input, since it ends in this way here. Where it isn't known what the
-- device has left, this says nothing.
abbrev pub EndsIfKnown : InputEnd → ℕ → Option (List ℕ) → Option (List ℕ) → Type 0
EndsIfKnown ending left known after = IfSome known (λ input. Gets left input after [] ending)

-- What the device answered last where an input ends in this way: where it is too long, a byte.
abbrev pub last_of_ending : InputEnd → Last
last_of_ending how.End = End
last_of_ending how.Read = Fault
last_of_ending how.TooLong = Going

-- What the device answered last where some bytes came or the input ends in this way.
abbrev pub last_got : {A : Type 0} → Result A InputEnd → Last
last_got (Ok value) = Going
last_got (Err way) = last_of_ending way

-- Some bytes came, as many as are answered, and no more were taken of the device; or the input ends
-- in the way that is answered.
pub record GetsSome {R : Type 0} (remaining : R → Option (List ℕ)) (r : Result ℕ InputEnd)
    (left : ℕ) (old new : Counted R) (room : List ℕ) : Type 0 where
  pub some : IfOk r (λ n. (0 < n) × (n ≤ left) × (n ≤ length room))
  pub bytes : IfOk r (λ n. Consumes (remaining old.device) (remaining new.device) (take n room))
  pub end : IfErr r (λ e. EndsIfKnown e left (remaining old.device) (remaining new.device))
  pub calls : Calls (last_got r) old new
  pub tries : new.failed ≤ old.failed + most_failures (last_got r) 1

-- What one read was answered, by what it returned and how many bytes there was room for: the end
-- where no byte came though there was room, and a fault where it returned an error.
abbrev pub last_read : {E : Type 0} → Result ℕ E → ℕ → Last
last_read (Ok zero) zero = Going
last_read (Ok zero) (suc room) = End
last_read (Ok (suc n)) room = Going
last_read (Err fault) room = Fault

-- One read: the bytes that came stand first in the room, and at a fault none is lost. Without any
-- room the device is not asked.
pub record ReadsDevice {R E : Type 0} (remaining : R → Option (List ℕ)) (r : Result ℕ E)
    (old new : Counted R) (room : List ℕ) : Type 0 where
  pub bound : ReadsAtMost r room
  pub bytes : ReadConsumes (remaining old.device) (remaining new.device) r room
  pub calls : Calls (last_read r (length room)) old new
  pub tries : new.failed ≤ old.failed + most_failures (last_read r (length room)) 1
  pub unasked : length room ≡ 0 → (r ≡ Ok 0) × (new ≡ old)
