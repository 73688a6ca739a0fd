-- A frequency as a comment says it (APRS 1.2, frequency specification).
use Rattle.std.specs.Prelude.{◌≡◌, ℕ, ℤ, ◌+◌, ◌*◌, true, List, [], ◌++◌, length, Option, None, Some, codes}
use Rattle.aprs_report.specs.Reader.{numeral_of}
use Rattle.aprs_details.specs.Details.{without_mark}
use Rattle.aprs_details.specs.Frequency.{Tuned, is_tone, offset_of, is_extension, after_altitude}

-- The places after the point are so many kilohertz: three digits, or two and a space.
pub data IsThousandths (n : ℕ) (places : List ℕ) : Type 0 where
  three : length places ≡ 3 → numeral_of 10 48 places ≡ Some n → IsThousandths n places
  two : (tens : List ℕ) (m : ℕ) → length tens ≡ 2 → numeral_of 10 48 tens ≡ Some m → n ≡ m * 10 →
      places ≡ tens ++ codes " " → IsThousandths n places

-- The text begins with so many kilohertz: three digits of megahertz, a point, the places after it,
-- and MHz; and `rest` follows.
pub record BeginsWithKilohertz (khz : ℕ) (rest text : List ℕ) : Type 0 where
  pub megahertz : List ℕ
  pub places : List ℕ
  pub whole : ℕ
  pub thousandths : ℕ
  pub parts : text ≡ megahertz ++ (codes "." ++ (places ++ (codes "MHz" ++ rest)))
  pub three : length megahertz ≡ 3
  pub at_megahertz : numeral_of 10 48 megahertz ≡ Some whole
  pub at_places : IsThousandths thousandths places
  pub value : khz ≡ whole * 1000 + thousandths

-- The text begins with a space and this word of four bytes, and `rest` follows.
pub record BeginsWithWord (word rest text : List ℕ) : Type 0 where
  pub four : length word ≡ 4
  pub whole : text ≡ codes " " ++ (word ++ rest)

-- The text begins with a space and this tone, and `rest` follows. Or it begins with no tone: then
-- `tone` is empty, and `rest` is the text.
pub data IsNextTone (tone rest text : List ℕ) : Type 0 where
  toned : BeginsWithWord tone rest text → is_tone tone ≡ true → IsNextTone tone rest text
  untoned : ((word later : List ℕ) → BeginsWithWord word later text → is_tone word ≡ true → ⊥) →
      tone ≡ [] → rest ≡ text → IsNextTone tone rest text

-- The text begins with a space and a word, and `offset` is what the word says, if it says one. Or
-- it begins with no word, and then there is no offset.
pub data IsNextOffset (offset : Option ℤ) (text : List ℕ) : Type 0 where
  worded : (word rest : List ℕ) → BeginsWithWord word rest text → offset_of word ≡ offset →
      IsNextOffset offset text
  wordless : ((word rest : List ℕ) → BeginsWithWord word rest text → ⊥) → offset ≡ None →
      IsNextOffset offset text

-- The text begins with this frequency, and then its tone and its offset, if it has them.
pub record BeginsWithFrequency (x : Tuned) (text : List ℕ) : Type 0 where
  pub after : List ℕ
  pub after_tone : List ℕ
  pub frequency : BeginsWithKilohertz x.khz after text
  pub tone : IsNextTone x.tone after_tone after
  pub offset : IsNextOffset x.offset after_tone

-- The text begins with no frequency.
abbrev pub HasNoFrequency : List ℕ → Type 0
HasNoFrequency text = (x : Tuned) → BeginsWithFrequency x text → ⊥

-- The comment is a data extension of seven bytes, and `rest` follows.
pub record HasExtension (rest comment : List ℕ) : Type 0 where
  pub field : List ℕ
  pub seven : length field ≡ 7
  pub extension : is_extension field ≡ true
  pub whole : comment ≡ field ++ rest

-- The comment of a position begins with this frequency, or has it after its data extension.
pub data HasFrequency (x : Tuned) (comment : List ℕ) : Type 0 where
  beginning : BeginsWithFrequency x comment → HasFrequency x comment
  following : (rest : List ℕ) → HasNoFrequency comment → HasExtension rest comment →
      BeginsWithFrequency x rest → HasFrequency x comment

-- A Mic-E comment begins with this frequency, perhaps after an altitude; or has it likewise after a
-- radio's mark.
pub data HasMicEFrequency (x : Tuned) (comment : List ℕ) : Type 0 where
  unmarked : BeginsWithFrequency x (after_altitude comment) → HasMicEFrequency x comment
  marked : HasNoFrequency (after_altitude comment) →
      BeginsWithFrequency x (after_altitude (without_mark comment)) → HasMicEFrequency x comment
