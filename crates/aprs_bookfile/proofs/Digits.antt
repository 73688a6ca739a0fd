-- Lemmas on digits and the bytes that they spell.
use Rattle.aprs_bookfile.proofs.Common.{◌≡◌, ◌∙◌, ℕ, ◌*◌, List, length, Ok, ap, decode_of, lower_digits, decode_of-encode_lower, length-encode_with}
use Rattle.aprs_bookfile.specs.RowFields.{SpellsBytes}

pub length-spelled : (digits bytes : List ℕ) → SpellsBytes digits bytes
    → length digits ≡ 2 * length bytes
length-spelled digits bytes h = ap length h.digits_are ∙ length-encode_with lower_digits bytes

pub decode_of-spelled : (digits bytes : List ℕ) → SpellsBytes digits bytes
    → decode_of digits ≡ Ok bytes
decode_of-spelled digits bytes h = ap decode_of h.digits_are
    ∙ decode_of-encode_lower bytes h.bytes_are
