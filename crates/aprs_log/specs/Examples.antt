-- Worked examples of the definitions: lines of docs/formats.md, and near misses.
use Rattle.std.specs.Prelude.{ℕ, ◌+◌, List, ◌∷◌, ◌++◌, codes}
use Rattle.aprs_log.specs.Reception.{Received}

-- The bytes of a frame from N0CALL-7 to APRS that says `>Hi`.
abbrev pub hi_frame : List ℕ
hi_frame =
    0x82 ∷ 0xA0 ∷ 0xA4 ∷ 0xA6 ∷ 0x40 ∷ 0x40 ∷ 0xE0
    ∷ 0x9C ∷ 0x60 ∷ 0x86 ∷ 0x82 ∷ 0x98 ∷ 0x98 ∷ 0x6F ∷ 0x03 ∷ 0xF0 ∷ codes ">Hi"

-- The frame, as RX1 heard it n milliseconds after 2024-05-01T12:00:00Z.
abbrev pub heard_after : ℕ → Received
heard_after n = record {
  moment = 1714564800000 + n;
  receiver = codes "RX1";
  frame = hi_frame;
}

-- A line by RX1, with this text of a moment and these digits.
abbrev pub line_by : List ℕ → List ℕ → List ℕ
line_by moment bytes = moment ++ codes " RX1 " ++ bytes

-- Noon, to the second.
abbrev pub noon : List ℕ
noon = codes "2024-05-01T12:00:00Z"

-- What the receiver gives for the frame: a frame end, a data frame on port 0, a frame end.
abbrev pub hi_digits : List ℕ
hi_digits = codes "c00082a0a4a64040e09c60868298986f03f03e4869c0"

-- The line of the frame.
abbrev pub hi_line : List ℕ
hi_line = line_by noon hi_digits

-- A line whose bytes have no frame end after them.
abbrev pub unended_line : List ℕ
unended_line = line_by noon (codes "c00082a0a4a64040e09c60868298986f03f03e4869")

-- A line of a leap second.
abbrev pub leap_line : List ℕ
leap_line = line_by (codes "2024-05-01T12:00:60Z") hi_digits
