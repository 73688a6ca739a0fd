-- Lemmas on where the first special byte stands.
use Rattle.aprs_kiss.proofs.Common.{◌≡◌, ℕ, ◌<◌, ◌≤◌, true, false, List, length, take, get_or, slice_index, Option, Some, None, ap, ◌∙◌, arith, false_from_ne_true, get_or-take, length-take-le, All-from_get_or}
use Rattle.std.specs.Prelude.{unwrap_or}
use Rattle.memchr.specs.Find.{IsFirstByte, is_byte2}
use Rattle.aprs_kiss.specs.Plain.{IsPlain, is_special}

plain_take : (bytes : List ℕ) (k : ℕ) → k ≤ length bytes
    → ((i : ℕ) → i < k → is_special (get_or bytes i 0) ≡ false) → IsPlain (take k bytes)
plain_take bytes k le h =
    All-from_get_or (λ b. is_special b ≡ false) (take k bytes) 0 (λ i lt.
    let short : i < k = omega (arith, lt, length-take-le k bytes le) in
    ap is_special (get_or-take k bytes i 0 short) ∙ h i short)

-- the bytes before place k are plain, and the byte there, if any, is special
pub record IsMark (bytes : List ℕ) (k : ℕ) : Type 0 where
  pub within : k ≤ length bytes
  pub plain : IsPlain (take k bytes)
  pub mark : k < length bytes → is_special (slice_index bytes k) ≡ true

pub first_mark : (bytes : List ℕ) (r : Option ℕ) → IsFirstByte (is_byte2 0xC0 0xDB) bytes r
    → IsMark bytes (unwrap_or r (length bytes))
first_mark bytes None h = record {
  within = omega arith;
  plain = plain_take bytes (length bytes) (omega arith) (λ i lt.
      false_from_ne_true _ (h i (omega arith) lt));
  mark = λ lt. absurd (omega (arith, lt));
}
first_mark bytes (Some k) h =
    let high = h.0.high in
    record {
      within = omega (arith, high);
      plain = plain_take bytes k (omega (arith, high)) (λ i lt.
          false_from_ne_true _ (h.0.before i (omega arith) lt));
      mark = λ lt. h.1;
    }
