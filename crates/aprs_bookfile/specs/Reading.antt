-- How much of a book's text was read of an input.
use Rattle.std.specs.Prelude.{◌≡◌, ℕ, ◌+◌, ◌-◌, List, ◌++◌, length, Option, IfSome, Result}
use Rattle.std.specs.Io.KnownBytes.{Consumes}
use Rattle.aprs_io.specs.declared.device.Counted.{Counted}
use Rattle.aprs_transmissions.specs.BookValue.{BookValue}
use Rattle.aprs_bookfile.specs.Asking.{Asks, Takes}
use Rattle.aprs_bookfile.specs.BookAnswers.{ReadsBook}
use Rattle.aprs_bookfile.specs.declared.fault.BookFault.{BookFault}

-- What was got after the head is gone from the input. P holds of the head and this together, and
-- `left` is how many bytes they leave of the limit.
pub record Got (P : List ℕ → Type 0) (head : List ℕ) (old now : Option (List ℕ))
    (limit left : ℕ) : Type 0 where
  pub got : List ℕ
  pub stands : P (head ++ got)
  pub took : Consumes old now got
  pub size : length (head ++ got) + left ≡ limit

-- The answer is that of what was read of the input, and the reader was asked no further. No more
-- was taken than the limit allows, but for one byte at `TooLong`.
pub record IsAnswered {R : Type 0} (remaining : R → Option (List ℕ)) (limit : ℕ) (head : List ℕ)
    (answer : Result BookValue BookFault) (old new : Counted R) : Type 0 where
  pub reads : IfSome (remaining old.device)
      (λ input. ReadsBook limit head input (remaining new.device) answer)
  pub calls : Asks answer old new
  pub over : IfSome (remaining old.device)
      (λ input. Takes answer (limit - length head) input (remaining new.device))
