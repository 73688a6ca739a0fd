-- The moment and the receiver's name at the start of a line, each before a space. No public clause
-- cites this module.
use Rattle.std.specs.Prelude.{◌≡◌, ℕ, ◌<◌, ◌⊎◌, Bool, not, List, length, slice_index, None, Some}
use Rattle.aprs_io.specs.Cut.{Cut, cut_at}
use Rattle.aprs_log.specs.Clock.{millis_size}
use Rattle.aprs_log.specs.Sizes.{seconds_size}
use Rattle.aprs_log.specs.MomentReading.{moment_of}
use Rattle.aprs_log.specs.Receiver.{IsName, is_name_byte}

-- A space stands at n.
abbrev pub HasSpace : List ℕ → ℕ → Type 0
HasSpace text n = (n < length text) × (slice_index text n ≡ 32)

-- n is the place of the space that ends a moment: where a moment to the second would end, or, if no
-- space stands there, where one to the millisecond would end.
abbrev pub EndsMoment : List ℕ → ℕ → Type 0
EndsMoment text n = ((n ≡ seconds_size) × HasSpace text seconds_size)
    ⊎ ((n ≡ millis_size) × HasSpace text millis_size × ¬ HasSpace text seconds_size)

-- No space stands where it could end a moment.
abbrev pub EndsNoMoment : List ℕ → Type 0
EndsNoMoment text = ¬ HasSpace text seconds_size × ¬ HasSpace text millis_size

-- The text's first field is the moment m, and `rest` stands after the space.
pub record TakesMoment (text : List ℕ) (m : ℕ) (rest : List ℕ) : Type 0 where
  pub cut : Cut
  pub is : Some cut ≡ cut_at 32 text
  pub moment : Some m ≡ moment_of cut.before
  pub rest_is : rest ≡ cut.after

-- The text's first field is no moment, or no space ends it.
abbrev pub TakesNoMoment : List ℕ → Type 0
TakesNoMoment text = (cut : Cut) → Some cut ≡ cut_at 32 text → None ≡ moment_of cut.before

-- The text's first field is the name r of a receiver, and `rest` stands after the space.
pub record TakesName (text r rest : List ℕ) : Type 0 where
  pub cut : Cut
  pub is : Some cut ≡ cut_at 32 text
  pub name : IsName cut.before
  pub name_is : r ≡ cut.before
  pub rest_is : rest ≡ cut.after

-- The text's first field is no receiver's name, or no space ends it.
abbrev pub TakesNoName : List ℕ → Type 0
TakesNoName text = (cut : Cut) → Some cut ≡ cut_at 32 text → ¬ IsName cut.before

-- Whether no name has this byte.
abbrev pub ends_name : ℕ → Bool
ends_name b = not (is_name_byte b)
