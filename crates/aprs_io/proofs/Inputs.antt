-- Lemmas on what is read of an input under a limit.
use Rattle.aprs_io.proofs.Common.{◌≡◌, ℕ, ◌+◌, List, [], ◌++◌, length, Option, Some, refl, sym, ap, ◌∙◌, append_assoc, length-append, arith}
use Rattle.aprs_io.specs.Input.{EndsSo, Gets}
use Rattle.aprs_io.specs.declared.input.InputEnd.{InputEnd}
use Rattle.aprs_io.specs.declared.input.InputEnd.TheVariants as ending

-- Nothing is read of an input, and its device still has all of it.
pub Gets-nothing : (left : ℕ) (input : List ℕ) → Gets left input (Some input) [] ending.Read
Gets-nothing left input = record { rest = input; whole = refl; ends = (refl, omega arith) }

-- The way in which an input ends after a text is also that in which it ends after a prefix and the
-- text, under a limit that is higher by the prefix.
ends_after : (way : InputEnd) (limit left : ℕ) (prefix text rest : List ℕ) (after : Option (List ℕ))
    → length prefix + left ≡ limit → EndsSo way left text rest after
    → EndsSo way limit (prefix ++ text) rest after
ends_after ending.End limit left prefix text rest after size h =
    (h.0, omega (arith, size, h.1, length-append prefix text))
ends_after ending.Read limit left prefix text rest after size h =
    (h.0, omega (arith, size, h.1, length-append prefix text))
ends_after ending.TooLong limit left prefix text rest after size h =
    (h.0, omega (arith, size, h.1, length-append prefix text), h.2)

-- What is read of an input is a prefix that was read before, and what is read of the rest.
pub Gets-after : (limit left : ℕ) (input prefix rest text : List ℕ) (after : Option (List ℕ))
    (way : InputEnd)
    → input ≡ prefix ++ rest → length prefix + left ≡ limit
    → Gets left rest after text way → Gets limit input after (prefix ++ text) way
Gets-after limit left input prefix rest text after way took size got = record {
  rest = got.rest;
  whole = took ∙ ap (λ l. prefix ++ l) got.whole ∙ sym (append_assoc prefix text got.rest);
  ends = ends_after way limit left prefix text got.rest after size got.ends;
}
