-- Telemetry in a comment (APRS 1.2, base-91 comment telemetry): two digits of base 91 each for the
-- number of the report, one to five values, and eight bits after a fifth, between two bars.
use Rattle.std.specs.Prelude.{ℕ, ◌+◌, ◌/◌, ◌%◌, Bool, ◌==◌, List, [], ◌∷◌, length, Option, None, Some}
use Rattle.aprs_io.specs.Cut.{cut_at}
use Rattle.aprs_io.specs.Octet.{octet}
use Rattle.aprs_report.specs.Reader.{◌>>=◌, value_when, chunk_of, byte_where, numeral_of}
use Rattle.aprs_details.specs.First.{first_in}
use Rattle.aprs_details.specs.declared.comment_telemetry.CommentTelemetry.{CommentTelemetry}

-- The number of two digits of base 91 at the start of some bytes, and the rest.
unfoldable pub digit_pair : List ℕ → Option (ℕ × List ℕ)
digit_pair text = do
  digits ← chunk_of 2 text
  n ← numeral_of 91 33 digits.0
  Some (n, digits.1)

-- The next number, if any bytes are left, and the rest. None where the bytes that are left don't
-- begin with a number.
abbrev pub next_number : List ℕ → Option (Option ℕ × List ℕ)
next_number [] = Some (None, [])
next_number (b ∷ bs) = digit_pair (b ∷ bs) >>= λ x. Some (Some x.0, x.1)

-- The lowest eight bits of a number, the lowest first, each as 0 or 1.
abbrev pub eight_bits : ℕ → List ℕ
eight_bits n =
    (48 + n % 2) ∷ (48 + n / 2 % 2) ∷ (48 + n / 4 % 2) ∷ (48 + n / 8 % 2) ∷ (48 + n / 16 % 2)
    ∷ (48 + n / 32 % 2) ∷ (48 + n / 64 % 2) ∷ (48 + n / 128 % 2) ∷ []

-- The eight bits of a number, if there is one.
abbrev pub bits_of : Option ℕ → Option (List ℕ)
bits_of bits = bits >>= λ n. Some (eight_bits n)

-- The telemetry whose numbers the text is, as they stand between two bars. None where the text is
-- anything else.
unfoldable pub numbers_in : List ℕ → Option CommentTelemetry
numbers_in text = do
  sequence ← digit_pair text
  a1 ← digit_pair sequence.1
  a2 ← next_number a1.1
  a3 ← next_number a2.1
  a4 ← next_number a3.1
  a5 ← next_number a4.1
  bits ← next_number a5.1
  value_when (length bits.1 == 0) (record {
    sequence = sequence.0;
    a1 = a1.0;
    a2 = a2.0;
    a3 = a3.0;
    a4 = a4.0;
    a5 = a5.0;
    bits = bits_of bits.0;
  })

-- The byte is a bar.
abbrev pub is_bar : ℕ → Bool
is_bar b = b == octet "|"

-- The telemetry with which the text begins, between a bar and the next.
unfoldable pub telemetry_at : List ℕ → Option CommentTelemetry
telemetry_at text = do
  bar ← byte_where is_bar text
  parts ← cut_at (octet "|") bar.1
  numbers_in parts.before

-- The first telemetry in the comment, which may stand anywhere in it.
abbrev pub comment_telemetry_of : List ℕ → Option CommentTelemetry
comment_telemetry_of comment = first_in telemetry_at comment
