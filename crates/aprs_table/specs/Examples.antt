-- Words of the worked examples. No public clause but theirs cites this module.
use denote.Ref.{Bor}
use Rattle.std.specs.List.{join_with_byte}
use Rattle.std.specs.Prelude.{List, ℕ, map, codes, ◌≡◌, ◌∷◌, ◌++◌, ◌*◌, [], if◌then◌else◌}
use Rattle.std.specs.Str.{bytes_eq}
use Rattle.aprs_transmissions.specs.Row.{Row}
use Rattle.aprs_table.specs.Table.{columns, table_line}

-- An address of these six characters, each shifted left by one bit, and this last octet.
abbrev pub address : List ℕ → ℕ → List ℕ
address characters last = map (λ c. c * 2) characters ++ last ∷ []

-- The row of a frame with these addresses and this information, which RX1 heard once, at noon of
-- the first day of 1970.
abbrev pub heard_once : List ℕ → List ℕ → Row
heard_once addresses info = record {
  first = 43200000;
  receivers = codes "RX1" ∷ [];
  greatest = record {
    moment = 43200000;
    receiver = codes "RX1";
    frame = addresses ++ 0x03 ∷ 0xF0 ∷ info;
  };
}

-- From N0CALL-7 to a destination of these six characters.
abbrev pub to : List ℕ → List ℕ
to destination = address destination 0xE0 ++ address (codes "N0CALL") 0x6F

-- To APRS by two digipeaters: WIDE1-1, which has repeated the frame, and WIDE2-2, which hasn't.
abbrev pub by_wide : List ℕ
by_wide = address (codes "APRS  ") 0xE0 ++ (address (codes "N0CALL") 0x6E
    ++ (address (codes "WIDE1 ") 0xE2 ++ address (codes "WIDE2 ") 0x65))

-- A status by these digipeaters, which RX1 and RX2 heard, RX2 last, and five seconds later.
abbrev pub heard_twice : Row
heard_twice = record {
  first = 43200000;
  receivers = codes "RX1" ∷ codes "RX2" ∷ [];
  greatest = record {
    moment = 43205000;
    receiver = codes "RX2";
    frame = by_wide ++ 0x03 ∷ 0xF0 ∷ codes ">Hi";
  };
}

-- ---- the fields of a line

-- The fields of these columns: those that are given, in the order of the columns, and empty ones.
abbrev pub fields_with : (names : List (List ℕ)) → (given : List (List ℕ × List ℕ)) →
    List (List ℕ)
fields_with [] given = []
fields_with (name ∷ names) [] = [] ∷ fields_with names []
fields_with (name ∷ names) (x ∷ given) =
    if bytes_eq name x.0 then x.1 ∷ fields_with names given
    else [] ∷ fields_with names (x ∷ given)

-- The line with these fields, each with the name of its column; all others are empty.
abbrev pub line_with : List (List ℕ × List ℕ) → List ℕ
line_with given = join_with_byte 9 (fields_with columns given) ++ 10 ∷ []

-- The fields of a row that was heard once, after its kind.
abbrev pub once : (kind : List ℕ) → List (List ℕ × List ℕ) → List (List ℕ × List ℕ)
once kind others = (codes "kind", kind) ∷ (codes "first", codes "1970-01-01T12:00:00.000Z")
    ∷ (codes "last", codes "1970-01-01T12:00:00.000Z") ∷ (codes "receivers", codes "RX1")
    ∷ (codes "receiver", codes "RX1") ∷ others

-- A frame to APRS with this information is of this kind, and has these fields after those of its
-- source and its destination.
abbrev pub Tells : (info kind : List ℕ) → List (List ℕ × List ℕ) → Type 0
Tells info kind others = table_line (heard_once (to (codes "APRS  ")) info) ≡ line_with (once kind
    ((codes "source", codes "N0CALL-7") ∷ (codes "destination", codes "APRS") ∷ others))

-- A frame to a destination of six characters with this information has these fields, its kind
-- first, and those of its source and destination left out.
abbrev pub TellsTo : (destination info : List ℕ) → List (List ℕ × List ℕ) → Type 0
TellsTo destination info [] = ⊥
TellsTo destination info (kind ∷ others) = table_line (heard_once (to destination) info)
    ≡ line_with (once kind.1
    ((codes "source", codes "N0CALL-7") ∷ (codes "destination", destination) ∷ others))

-- A frame with this information has these fields, its kind first.
abbrev pub Passes : (info : List ℕ) → List (List ℕ × List ℕ) → Type 0
Passes info [] = ⊥
Passes info (kind ∷ others) =
    table_line (heard_once (to (codes "APRS  ")) info) ≡ line_with (once kind.1 others)

-- ---- fields of places

-- 49 degrees 3.50 minutes north, 72 degrees 1.75 minutes west.
abbrev pub at_here : List (List ℕ × List ℕ)
at_here = (codes "latitude", codes "49.0583333") ∷ (codes "longitude", codes "-72.0291667")
    ∷ (codes "ambiguity", codes "0") ∷ (codes "compressed", codes "no") ∷ []

-- 0 degrees.
abbrev pub at_0 : List (List ℕ × List ℕ)
at_0 = (codes "latitude", codes "0.0000000") ∷ (codes "longitude", codes "0.0000000")
    ∷ (codes "ambiguity", codes "0") ∷ (codes "compressed", codes "no") ∷ []

-- The place of the standard's Mic-E example.
abbrev pub at_the_jeep : List (List ℕ × List ℕ)
at_the_jeep = (codes "latitude", codes "33.4273333") ∷ (codes "longitude", codes "-112.1290000")
    ∷ (codes "ambiguity", codes "0") ∷ (codes "compressed", codes "no") ∷ []

-- The place of the standard's compressed example.
abbrev pub at_compressed : List (List ℕ × List ℕ)
at_compressed = (codes "latitude", codes "49.5000000") ∷ (codes "longitude", codes "-72.7500039")
    ∷ (codes "compressed", codes "yes") ∷ []

-- ---- single fields

-- Bytes that a field is given.
abbrev pub lent_bytes : List ℕ → Bor (List ℕ)
lent_bytes bytes = record { ref_ptr = (0, 0); now = bytes }
