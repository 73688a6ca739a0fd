-- Octets that definitions write as characters.
use Prim.Native.String.{String}
use Rattle.std.specs.Prelude.{ℕ, codes, slice_index}

-- The octet of a character of ASCII.
abbrev pub octet : String → ℕ
octet character = slice_index (codes character) 0
