-- How KISS sends a frame's bytes between two frame ends: a frame end and an escape inside the frame
-- go out as an escape and a second byte.
use Rattle.std.specs.Prelude.{◌≡◌, ◌==◌, ℕ, Bool, false, if◌then◌else◌, List, [], ◌∷◌, ◌++◌}
use Rattle.std.specs.List.{All, flat_map}

-- The byte is FEND, which stands between frames.
abbrev pub is_frame_end : ℕ → Bool
is_frame_end byte = byte == 0xC0

-- The byte is FESC, which begins an escape.
abbrev pub is_escape : ℕ → Bool
is_escape byte = byte == 0xDB

-- None of the bytes is a frame end.
abbrev pub HasNoEnd : List ℕ → Type 0
HasNoEnd bytes = All (λ b. is_frame_end b ≡ false) bytes

-- FEND is sent as FESC TFEND, FESC as FESC TFESC, and any other byte as itself.
abbrev pub spelling_of_byte : ℕ → List ℕ
spelling_of_byte b =
    if is_frame_end b then 0xDB ∷ 0xDC ∷ [] else (if is_escape b then 0xDB ∷ 0xDD ∷ [] else b ∷ [])

-- What is sent for these bytes, one after another.
unfoldable pub spelling_of : List ℕ → List ℕ
spelling_of bytes = flat_map spelling_of_byte bytes

-- These bytes are sent as `spelled`.
abbrev pub Spells : List ℕ → List ℕ → Type 0
Spells bytes spelled = spelled ≡ spelling_of bytes

-- What is sent for a frame: a frame end, the type byte of data on port 0, what is sent for the
-- frame's bytes, and a frame end.
abbrev pub kiss_text : List ℕ → List ℕ
kiss_text frame = 0xC0 ∷ 0 ∷ spelling_of frame ++ 0xC0 ∷ []
