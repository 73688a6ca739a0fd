-- What a line of a log says, without its LF; and what is wrong with a line that is refused.
use Rattle.std.specs.Prelude.{◌≡◌, ℕ, ◌%◌, ◌<◌, ◌≤◌, List, ◌∷◌, ◌++◌, length, replicate, Ok, IsErr}
use Rattle.aprs_io.specs.Octet.{octet}
use Rattle.hex.specs.Hex.{decode_of}
use Rattle.aprs_kiss.specs.Spelling.{spelling_of}
use Rattle.aprs_ax25.specs.UiFrame.{IsUiFrame}
use Rattle.aprs_log.specs.Moment.{IsTextOf}
use Rattle.aprs_log.specs.Receiver.{IsName}
use Rattle.aprs_log.specs.Reception.{Received}
use Rattle.aprs_log.specs.Sizes.{most_line}
use Rattle.aprs_log.specs.declared.fault.LogCause.{LogCause}
use Rattle.aprs_log.specs.declared.fault.LogCause.TheVariants as why

-- ---- a line that is in order

-- The line is a text of the moment, a space, and these bytes.
abbrev pub HasMoment : List ℕ → ℕ → List ℕ → Type 0
HasMoment line m more = (text : List ℕ) × IsTextOf m text × (line ≡ text ++ octet " " ∷ more)

-- The line is a text of the moment, a space, the name of a receiver, a space, and these bytes.
abbrev pub HasReceiver : List ℕ → ℕ → List ℕ → List ℕ → Type 0
HasReceiver line m name more = IsName name × HasMoment line m (name ++ octet " " ∷ more)

-- The line has at most 8,192 bytes: a text of the moment, a receiver's name, and these bytes in
-- hexadecimal, with a space between.
pub record IsLine (line : List ℕ) (m : ℕ) (name bytes : List ℕ) : Type 0 where
  pub short : length line ≤ most_line
  pub digits : List ℕ
  pub fields : HasReceiver line m name digits
  pub is_hex : decode_of digits ≡ Ok bytes

-- The bytes are one data frame of KISS, with this UI frame in it: any number of frame ends; a type
-- byte of command 0 and the bytes of the UI frame, as KISS sends them; and at least one frame end.
pub record CarriesFrame (bytes frame : List ℕ) : Type 0 where
  pub before : ℕ
  pub head : ℕ
  pub after : ℕ
  pub command : head % 16 ≡ 0
  pub is_frame : IsUiFrame frame
  pub bytes_are : bytes
      ≡ replicate before 0xC0 ++ (spelling_of (head ∷ frame) ++ 0xC0 ∷ replicate after 0xC0)

-- The line has the reception's moment and receiver, and its bytes carry the reception's frame.
abbrev pub Reports : List ℕ → Received → Type 0
Reports line x =
    (bytes : List ℕ) × IsLine line x.moment x.receiver bytes × CarriesFrame bytes x.frame

-- The line has a moment, a receiver and bytes, but the bytes carry no frame: it is passed over, and
-- that is no fault.
abbrev pub IsPassed : List ℕ → Type 0
IsPassed line = (m : ℕ) × (name : List ℕ) × (bytes : List ℕ) × IsLine line m name bytes
    × ((frame : List ℕ) → ¬ CarriesFrame bytes frame)

-- ---- a line that is refused

-- The line is wrong for this cause, and for none before it: it is too long; it doesn't begin with a
-- moment and a space; no receiver's name and a space come next; or what follows isn't an even
-- number of hexadecimal digits.
abbrev pub IsWrongLine : List ℕ → LogCause → Type 0
IsWrongLine line why.LongLine = most_line < length line
IsWrongLine line why.Moment =
    (length line ≤ most_line) × ((m : ℕ) (more : List ℕ) → ¬ HasMoment line m more)
IsWrongLine line why.Receiver =
    (length line ≤ most_line) × ((m : ℕ) × (more : List ℕ) × HasMoment line m more)
    × ((m : ℕ) (name more : List ℕ) → ¬ HasReceiver line m name more)
IsWrongLine line why.Hex =
    (length line ≤ most_line) × ((m : ℕ) × (name : List ℕ) × (more : List ℕ)
    × HasReceiver line m name more × IsErr (decode_of more))
IsWrongLine line other = ⊥
