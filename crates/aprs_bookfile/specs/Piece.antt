-- Bytes that were read and are not yet taken.
use Rattle.std.specs.Prelude.{ℕ, List, slice_range}
use Rattle.aprs_bookfile.specs.declared.piece.Piece.{Piece}

-- The bytes.
abbrev pub bytes_left : {A : Type 0} → Piece A → List ℕ
bytes_left piece = slice_range piece.bytes.items piece.start piece.end
