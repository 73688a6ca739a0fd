-- Bytes that are sent as themselves.
use Rattle.std.specs.Prelude.{◌≡◌, ℕ, Bool, true, false, ◌||◌, List, ◌∷◌, ◌++◌, Option, None, Some}
use Rattle.std.specs.List.{All}
use Rattle.std.specs.Borrow.{Bor}
use Rattle.aprs_kiss.specs.Spelling.{is_frame_end, is_escape}

-- The byte is a frame end or an escape, the two that aren't sent as themselves.
abbrev pub is_special : ℕ → Bool
is_special byte = is_frame_end byte || is_escape byte

-- Each of the bytes is sent as itself.
abbrev pub IsPlain : List ℕ → Type 0
IsPlain bytes = All (λ b. is_special b ≡ false) bytes

-- The bytes are plain ones, and then, if a special one is among them, the first of these and the
-- bytes after it.
abbrev pub CutsPlain : List ℕ → List ℕ → Option (ℕ × Bor (List ℕ)) → Type 0
CutsPlain bytes plain None = bytes ≡ plain
CutsPlain bytes plain (Some (mark, after)) =
    (bytes ≡ plain ++ mark ∷ after.now) × (is_special mark ≡ true)
