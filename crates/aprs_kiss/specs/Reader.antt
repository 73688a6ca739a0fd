-- What a KISS reader holds of the piece that it reads.
use Rattle.std.specs.Prelude.{◌≡◌, ◌<◌, ℕ, List, [], ◌∷◌, ◌++◌, length, None, Some}
use Rattle.aprs_kiss.specs.Spelling.{HasNoEnd}
use Rattle.aprs_kiss.specs.Unspelling.{spelled_bytes}
use Rattle.aprs_kiss.specs.Sizes.{most_bytes}
use Rattle.aprs_kiss.specs.declared.reader.KissReader.{KissReader}
use Rattle.aprs_kiss.specs.declared.reader.State.{State}
use Rattle.aprs_kiss.specs.declared.reader.State.TheVariants.{Ended, Plain, Escape, Long, LongEscape, Broken}

-- There are bytes, and they spell what is held.
pub record HoldsPlain (held bytes : List ℕ) : Type 0 where
  pub nonempty : 0 < length bytes
  pub spelled : spelled_bytes bytes ≡ Some held

-- The bytes end in an open escape, and those before it spell what is held.
pub record HoldsEscape (held bytes : List ℕ) : Type 0 where
  pub prefix : List ℕ
  pub escape : bytes ≡ prefix ++ 0xDB ∷ []
  pub spelled : spelled_bytes prefix ≡ Some held

-- The bytes spell more than a frame may have.
pub record HoldsLong (bytes : List ℕ) : Type 0 where
  pub all : List ℕ
  pub spelled : spelled_bytes bytes ≡ Some all
  pub long : most_bytes < length all

-- The bytes end in an open escape, and those before it spell more than a frame may have.
pub record HoldsLongEscape (bytes : List ℕ) : Type 0 where
  pub prefix : List ℕ
  pub all : List ℕ
  pub escape : bytes ≡ prefix ++ 0xDB ∷ []
  pub spelled : spelled_bytes prefix ≡ Some all
  pub long : most_bytes < length all

-- What the reader holds after these bytes of a piece, by its state; in the state `Broken` they
-- spell nothing, whatever follows them.
abbrev pub HoldsAfter : State → List ℕ → List ℕ → Type 0
HoldsAfter Ended held bytes = bytes ≡ []
HoldsAfter Plain held bytes = HoldsPlain held bytes
HoldsAfter Escape held bytes = HoldsEscape held bytes
HoldsAfter Long held bytes = HoldsLong bytes
HoldsAfter LongEscape held bytes = HoldsLongEscape bytes
HoldsAfter Broken held bytes = (more : List ℕ) → spelled_bytes (bytes ++ more) ≡ None

-- Since the last frame end the reader was fed these bytes.
pub record StandsAfter (reader : KissReader) (bytes : List ℕ) : Type 0 where
  pub whole : HasNoEnd bytes
  pub held : HoldsAfter reader.state reader.bytes.items bytes
