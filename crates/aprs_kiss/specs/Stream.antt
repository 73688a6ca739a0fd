-- A KISS stream, cut at each frame end.
use Rattle.std.specs.Prelude.{◌≡◌, ◌<◌, ℕ, List, [], ◌∷◌, ◌++◌, length, filter, map, Bool, true, false}
use Rattle.std.specs.List.{slice_split}
use Rattle.aprs_kiss.specs.Spelling.{is_frame_end}
use Rattle.aprs_kiss.specs.Judgement.{Judgement, judgement_of}

-- All parts but the last.
abbrev pub all_but_last : List (List ℕ) → List (List ℕ)
all_but_last [] = []
all_but_last (last ∷ []) = []
all_but_last (part ∷ next ∷ more) = part ∷ all_but_last (next ∷ more)

-- The last part, or nothing where there are none.
abbrev pub last_part : List (List ℕ) → List ℕ
last_part [] = []
last_part (last ∷ []) = last
last_part (part ∷ next ∷ more) = last_part (next ∷ more)

-- The pieces of a stream: what stands before each of its frame ends, after the one before.
unfoldable pub pieces_of : List ℕ → List (List ℕ)
pieces_of stream = all_but_last (slice_split is_frame_end stream)

-- The rest of a stream: what stands after its last frame end, or all of it where there is none.
unfoldable pub rest_of : List ℕ → List ℕ
rest_of stream = last_part (slice_split is_frame_end stream)

-- There is a byte.
abbrev pub is_nonempty : List ℕ → Bool
is_nonempty [] = false
is_nonempty (first ∷ more) = true

-- The pieces that are judged: empty ones have no frame, and are no fault.
abbrev pub nonempty_pieces_of : List ℕ → List (List ℕ)
nonempty_pieces_of stream = filter is_nonempty (pieces_of stream)

-- The judgements of a stream: that of each nonempty piece, in order.
unfoldable pub judgements_of : List ℕ → List Judgement
judgements_of stream = map judgement_of (nonempty_pieces_of stream)

-- The stream's last byte is the frame end of a nonempty piece.
pub record EndsPiece (stream : List ℕ) : Type 0 where
  pub before : List (List ℕ)
  pub piece : List ℕ
  pub last : pieces_of stream ≡ before ++ piece ∷ []
  pub nonempty : 0 < length piece
  pub left : rest_of stream ≡ []
