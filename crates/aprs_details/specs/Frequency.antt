-- A frequency in a comment (APRS 1.2, frequency specification): FFF.FFFMHz at its start, and how to
-- call there.
use Rattle.std.specs.Prelude.{ℕ, ℤ, pos, neg_ℤ, ◌+◌, ◌*◌, Bool, ◌==◌, ◌&&◌, ◌||◌, if◌then◌else◌, List, [], take, drop, slice_index, Option, None, Some}
use Rattle.std.specs.List.{list_all}
use Rattle.std.specs.Option.{is_some}
use Rattle.aprs_io.specs.Octet.{octet}
use Rattle.aprs_report.specs.Bytes.{is_digit, is_space}
use Rattle.aprs_report.specs.Reader.{◌>>=◌, value_when, chunk_of, byte_where, numeral_of}
use Rattle.aprs_details.specs.declared.frequency.Frequency.{Frequency}
use Rattle.aprs_details.specs.Value.{is_dot}
use Rattle.aprs_details.specs.Extension.{pair_of, range_at, phg_at}
use Rattle.aprs_details.specs.Details.{without_mark, base91_at}
use Rattle.aprs_details.specs.First.{or_other}

-- What a comment says of a frequency, without where its bytes lie in memory.
pub record Tuned : Type 0 where
  pub khz : ℕ
  pub tone : List ℕ
  pub offset : Option ℤ

-- What a frequency of the program says.
abbrev pub frequency_view : Frequency → Tuned
frequency_view x = record { khz = x.khz; tone = x.tone.now; offset = x.offset }

-- ---- the frequency

-- The three bytes are MHz.
abbrev pub is_megahertz : List ℕ → Bool
is_megahertz unit =
    slice_index unit 0 == octet "M" && slice_index unit 1 == octet "H"
    && slice_index unit 2 == octet "z"

-- The kilohertz of two digits and a space, in which the digits are tens.
abbrev pub tens_of : List ℕ → Option ℕ
tens_of places =
    if is_space (slice_index places 2)
    then (numeral_of 10 48 (take 2 places) >>= λ n. Some (n * 10))
    else None

-- The kilohertz of the places after the point: three digits, or two and a space.
abbrev pub thousandths_of : List ℕ → Option ℕ
thousandths_of places = or_other (numeral_of 10 48 places) (tens_of places)

-- The frequency in kilohertz with which the text begins, and the rest: three digits, a point, three
-- digits or two and a space, and MHz.
unfoldable pub khz_at : List ℕ → Option (ℕ × List ℕ)
khz_at text = do
  megahertz ← chunk_of 3 text
  dot ← byte_where is_dot megahertz.1
  places ← chunk_of 3 dot.1
  unit ← chunk_of 3 places.1
  whole ← numeral_of 10 48 megahertz.0
  thousandths ← thousandths_of places.0
  value_when (is_megahertz unit.0) (whole * 1000 + thousandths, unit.1)

-- ---- how to call there

-- A space and a word of four bytes at the start of some bytes, and the rest.
unfoldable pub word_at : List ℕ → Option (List ℕ × List ℕ)
word_at text = do
  space ← byte_where is_space text
  word ← chunk_of 4 space.1
  Some (word.0, word.1)

-- The letter of a tone: T, C or D, and t, c or d where the channel is narrow.
abbrev pub is_tone_letter : ℕ → Bool
is_tone_letter b = b == octet "T" || b == octet "C" || b == octet "D"
    || b == octet "t" || b == octet "c" || b == octet "d"

-- The word is a tone: its letter and three digits.
abbrev pub is_tone : List ℕ → Bool
is_tone word = is_tone_letter (slice_index word 0) && list_all is_digit (drop 1 word)

-- The tone that a word is, and what follows it; or nothing, and the text, where there is no word or
-- it is no tone.
abbrev pub tone_in : List ℕ → Option (List ℕ × List ℕ) → List ℕ × List ℕ
tone_in text None = ([], text)
tone_in text (Some x) = if is_tone x.0 then (x.0, x.1) else ([], text)

-- The tone after a space with which the text begins, and what follows it; or nothing, and the text.
abbrev pub tone_at : List ℕ → List ℕ × List ℕ
tone_at text = tone_in text (word_at text)

-- How far above the frequency a repeater listens, in kilohertz: a sign and three digits of tens.
abbrev pub offset_of : List ℕ → Option ℤ
offset_of word =
    if slice_index word 0 == octet "+"
    then (numeral_of 10 48 (drop 1 word) >>= λ n. Some (pos (n * 10)))
    else if slice_index word 0 == octet "-"
    then (numeral_of 10 48 (drop 1 word) >>= λ n. Some (neg_ℤ (pos (n * 10))))
    else None

-- The offset after the space that the text begins with, in kilohertz.
abbrev pub offset_at : List ℕ → Option ℤ
offset_at text = word_at text >>= λ x. offset_of x.0

-- A frequency in kilohertz, with the tone and the offset that may follow it in these bytes.
abbrev pub tuned_after : ℕ × List ℕ → Tuned
tuned_after x = record {
  khz = x.0;
  tone = (tone_at x.1).0;
  offset = offset_at (tone_at x.1).1;
}

-- The frequency with which the text begins, and after it perhaps a tone and an offset. Neither is
-- read after another word, and no tone after an offset.
unfoldable pub tuned_at : List ℕ → Option Tuned
tuned_at text = khz_at text >>= λ x. Some (tuned_after x)

-- ---- where it stands

-- The seven bytes are a data extension: course and speed, a range, or a transmitter.
abbrev pub is_extension : List ℕ → Bool
is_extension field =
    is_some (pair_of field) || is_some (range_at field) || is_some (phg_at field)

-- What follows the data extension with which a comment begins.
unfoldable pub after_extension : List ℕ → Option (List ℕ)
after_extension comment = do
  field ← chunk_of 7 comment
  value_when (is_extension field.0) field.1

-- The frequency that follows the data extension with which a comment begins.
abbrev pub extended : List ℕ → Option Tuned
extended comment = after_extension comment >>= tuned_at

-- The frequency with which a comment begins, or that follows its data extension.
unfoldable pub frequency_of : List ℕ → Option Tuned
frequency_of comment = or_other (tuned_at comment) (extended comment)

-- What follows the first four bytes, if they are an altitude xxx}; otherwise the text.
abbrev pub after_altitude_in : List ℕ → Option (List ℕ × List ℕ) → List ℕ
after_altitude_in text None = text
after_altitude_in text (Some x) = if is_some (base91_at x.0) then x.1 else text

-- What follows an altitude xxx} with which the text begins; or the text, where it doesn't.
abbrev pub after_altitude : List ℕ → List ℕ
after_altitude text = after_altitude_in text (chunk_of 4 text)

-- The frequency of a Mic-E comment: at its start, or after a radio's mark, an altitude, or both.
unfoldable pub mic_e_frequency_of : List ℕ → Option Tuned
mic_e_frequency_of comment =
    or_other (tuned_at (after_altitude comment)) (tuned_at (after_altitude (without_mark comment)))
