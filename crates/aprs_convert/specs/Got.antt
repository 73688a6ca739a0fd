-- What is got of an input.
use Rattle.std.specs.Prelude.{ℕ, List, Option, IfSome}
use Rattle.aprs_log.specs.LogAnswers.{Gets}
use Rattle.aprs_log.specs.declared.InputEnd.{InputEnd}

-- If all bytes of the input are known, P holds of the text that was got of it, at most `limit`
-- bytes, and of how the input then ended; `after` is what the device then has.
abbrev pub OfGot : ℕ → Option (List ℕ) → Option (List ℕ) → (List ℕ → InputEnd → Type 0) → Type 0
OfGot limit known after P = IfSome known (λ input.
    (text : List ℕ) × (ending : InputEnd) × Gets limit input after text ending × P text ending)
