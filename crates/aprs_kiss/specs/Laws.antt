-- What follows from the definitions, whatever calls are made.
use Rattle.std.specs.Prelude.{◌≡◌, ◌-◌, ◌≤◌, ◌<◌, ℕ, List, [], ◌∷◌, ◌++◌, length, Ok, Err}
use Rattle.std.specs.List.{All, flat_map}
use Rattle.aprs_kiss.specs.Spelling.{HasNoEnd, Spells, kiss_text}
use Rattle.aprs_kiss.specs.Stream.{judgements_of, pieces_of, rest_of}
use Rattle.aprs_kiss.specs.Judgement.{Judgement, Judged, judgement_of}
use Rattle.aprs_kiss.specs.Sizes.{most_bytes}
use Rattle.aprs_kiss.specs.declared.fault.PassFault.TheVariants.{TooLong}

-- No two lists of bytes are spelled alike.
abbrev pub SpellsOnce : Type 0
SpellsOnce = (spelled a b : List ℕ) → Spells a spelled → Spells b spelled → a ≡ b

-- Each piece, that is a nonempty list without a frame end, has exactly one judgement.
abbrev pub JudgedOnce : Type 0
JudgedOnce = (piece : List ℕ) → 0 < length piece → HasNoEnd piece → (judgement : Judgement)
    → (Judged piece judgement → judgement ≡ judgement_of piece)
    × (judgement ≡ judgement_of piece → Judged piece judgement)

-- The judgements of a stream that goes on are those it had, and then those of its rest and the
-- bytes after it.
abbrev pub JudgedInParts : Type 0
JudgedInParts = (prefix more : List ℕ)
    → judgements_of (prefix ++ more)
    ≡ judgements_of prefix ++ judgements_of (rest_of prefix ++ more)

-- The rest of a stream that goes on is what its earlier rest and the bytes after it leave.
abbrev pub LeftInParts : Type 0
LeftInParts = (prefix more : List ℕ) → rest_of (prefix ++ more) ≡ rest_of (rest_of prefix ++ more)

-- A written frame that fits, at the beginning of a stream or after a frame end, is read as a frame
-- of port 0 with the same bytes.
abbrev pub ReadBack : Type 0
ReadBack = (stream frame : List ℕ) → rest_of stream ≡ [] → length frame ≤ most_bytes - 1
    → judgements_of (stream ++ kiss_text frame)
    ≡ judgements_of stream ++ Ok (record { port = 0; bytes = frame }) ∷ []

-- A longer written frame is passed over as too long.
abbrev pub ReadBackLong : Type 0
ReadBackLong = (stream frame : List ℕ) → rest_of stream ≡ [] → most_bytes - 1 < length frame
    → judgements_of (stream ++ kiss_text frame) ≡ judgements_of stream ++ Err TooLong ∷ []

-- After a written frame nothing is left of the stream.
abbrev pub ReadWhole : Type 0
ReadWhole = (stream frame : List ℕ) → rest_of (stream ++ kiss_text frame) ≡ []

-- A stream of no bytes has no judgements and no rest.
abbrev pub BeginsEmpty : Type 0
BeginsEmpty = (judgements_of [] ≡ []) × (rest_of [] ≡ [])

-- A stream is its pieces, each with the frame end after it, and then its rest.
abbrev pub MadeOfPieces : Type 0
MadeOfPieces = (stream : List ℕ)
    → stream ≡ flat_map (λ piece. piece ++ 0xC0 ∷ []) (pieces_of stream) ++ rest_of stream

-- No piece and no rest has a frame end.
abbrev pub CutAtEachEnd : Type 0
CutAtEachEnd = (stream : List ℕ) → All HasNoEnd (pieces_of stream) × HasNoEnd (rest_of stream)

-- Bytes without a frame end have no judgement yet, and all of them are the rest.
abbrev pub OpenPiece : Type 0
OpenPiece = (bytes : List ℕ) → HasNoEnd bytes → (judgements_of bytes ≡ []) × (rest_of bytes ≡ bytes)

-- A frame end after one byte or more, none of them a frame end, ends one piece, which is judged.
abbrev pub EndedPiece : Type 0
EndedPiece = (bytes : List ℕ) → HasNoEnd bytes → 0 < length bytes
    → judgements_of (bytes ++ 0xC0 ∷ []) ≡ judgement_of bytes ∷ []

-- A frame end after nothing ends no piece that is judged.
abbrev pub EmptyPiece : Type 0
EmptyPiece = judgements_of (0xC0 ∷ []) ≡ []

-- After a frame end nothing is left of the stream.
abbrev pub EndedStream : Type 0
EndedStream = (stream : List ℕ) → rest_of (stream ++ 0xC0 ∷ []) ≡ []
