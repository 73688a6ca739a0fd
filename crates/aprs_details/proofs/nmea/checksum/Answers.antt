use Rattle.aprs_details.proofs.Common.{◌≡◌, ℕ, ◌+◌, ◌<◌, List, [], ◌∷◌, length, take, get_or, sym, ap, ◌∙◌, add-one, take-suc, take_all}
use Rattle.std.specs.Int.Bits.{bit_xor}
use Rattle.std.proofs.lemmas.List.Sums.{fold-append}
use Rattle.aprs_details.specs.Nmea.{checksum_of}
use Rattle.aprs_details.proofs.nmea.checksum.Goals as goal

next : (bytes : List ℕ) (i sum : ℕ) → i < length bytes → sum ≡ checksum_of (take i bytes) →
    bit_xor sum (get_or bytes i 0) ≡ checksum_of (take (i + 1) bytes)
next bytes i sum lt h =
    ap (λ (n : ℕ). bit_xor n (get_or bytes i 0)) h
    ∙ sym (fold-append bit_xor 0 (take i bytes) (get_or bytes i 0 ∷ []))
    ∙ ap checksum_of (sym (take-suc bytes i 0 lt))
    ∙ ap (λ (k : ℕ). checksum_of (take k bytes)) (sym (add-one i))

pub loop-byte-preserved : goal.loop-byte-preserved
loop-byte-preserved c =
    next c.args.bytes.now c.loop-byte.byte-index c.loop-byte.sum c.loop-byte-test.true
    c.loop-byte.invariant

pub returns : goal.returns
returns c =
    c.loop-byte.invariant
    ∙ ap checksum_of (take_all c.loop-byte.byte-index c.args.bytes.now c.loop-byte-test.false)
