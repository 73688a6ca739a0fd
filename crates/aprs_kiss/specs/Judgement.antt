-- What a nonempty piece of a KISS stream is: a data frame, or passed over.
use Rattle.std.specs.Prelude.{◌≡◌, ◌≢◌, ◌==◌, ◌≤◌, ◌<◌, ◌/◌, ◌%◌, ℕ, if◌then◌else◌, nat_lt, List, [], ◌∷◌, length, Option, None, Some, Result, Ok, Err}
use Rattle.aprs_kiss.specs.Spelling.{Spells}
use Rattle.aprs_kiss.specs.Unspelling.{spelled_bytes}
use Rattle.aprs_kiss.specs.Sizes.{most_bytes}
use Rattle.aprs_kiss.specs.declared.fault.PassFault.{PassFault}
use Rattle.aprs_kiss.specs.declared.fault.PassFault.TheVariants.{BadEscape, TooLong, NotData}

-- A data frame: its bytes without the type byte, and the port that the type byte names.
pub record DataFrame : Type 0 where
  pub port : ℕ
  pub bytes : List ℕ

-- A judgement of a piece is its data frame, or the fault for which it is passed over.
abbrev pub Judgement : Type 0
Judgement = Result DataFrame PassFault

-- The piece spells more bytes than a frame may have.
pub record IsLong (piece : List ℕ) : Type 0 where
  pub bytes : List ℕ
  pub spelled : Spells bytes piece
  pub long : most_bytes < length bytes

-- The piece spells a type byte and other bytes that fit, and the command in the type byte isn't 0.
pub record IsOtherCommand (piece : List ℕ) : Type 0 where
  pub head : ℕ
  pub bytes : List ℕ
  pub spelled : Spells (head ∷ bytes) piece
  pub fits : length (head ∷ bytes) ≤ most_bytes
  pub command : head % 16 ≢ 0

-- The piece spells a type byte and the frame's bytes, which fit; the command in the type byte is 0,
-- and its port is the frame's.
pub record IsData (piece : List ℕ) (frame : DataFrame) : Type 0 where
  pub head : ℕ
  pub spelled : Spells (head ∷ frame.bytes) piece
  pub fits : length (head ∷ frame.bytes) ≤ most_bytes
  pub command : head % 16 ≡ 0
  pub port : frame.port ≡ head / 16

-- A nonempty piece is judged by the one of these that is so. No bytes are sent as this piece; or it
-- is too long; or its command is another than data; or it is a data frame.
abbrev pub Judged : List ℕ → Judgement → Type 0
Judged piece (Err BadEscape) = (bytes : List ℕ) → ¬ Spells bytes piece
Judged piece (Err TooLong) = IsLong piece
Judged piece (Err NotData) = IsOtherCommand piece
Judged piece (Ok frame) = IsData piece frame

-- Bytes are a data frame if the low four bits of the first, the type byte, are 0, the command of
-- data; its high four bits are the port. Others, and no bytes at all, are `NotData`.
abbrev pub data_frame_of : List ℕ → Judgement
data_frame_of [] = Err NotData
data_frame_of (head ∷ bytes) =
    if head % 16 == 0 then Ok (record { port = head / 16; bytes = bytes }) else Err NotData

-- The judgement of a piece, by the bytes that it spells: `None` where no bytes are sent as it.
abbrev pub judgement_by : Option (List ℕ) → Judgement
judgement_by None = Err BadEscape
judgement_by (Some bytes) =
    if nat_lt most_bytes (length bytes) then Err TooLong else data_frame_of bytes

-- The judgement of a piece, by the bytes that it spells.
unfoldable pub judgement_of : List ℕ → Judgement
judgement_of piece = judgement_by (spelled_bytes piece)
