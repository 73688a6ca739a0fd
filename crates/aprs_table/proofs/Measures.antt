-- No field of a telemetry report has a tab or an LF.
use Rattle.aprs_table.proofs.Common.{◌≡◌, ◌==◌, ℕ, Bool, true, false, cond, List, [], ◌∷◌, Option, Some, None, refl, sym, subst, arith, list_all}
use Rattle.std.proofs.Common.{eqb-true}
use Rattle.std.proofs.lemmas.Bool.{and_parts}
use Rattle.aprs_io.specs.Cut.{Cut, cut_at}
use Rattle.aprs_io.proofs.Cuts.{cut_at-parts}
use Rattle.aprs_report.specs.Bytes.{is_digit}
use Rattle.aprs_report.specs.Reader.{chunk_of}
use Rattle.aprs_details.specs.Value.{is_number, is_unsigned_in, is_whole}
use Rattle.aprs_details.specs.Telemetry.{Measured, IsTelemetry, BeginsWithNumber, numbered, unnumbered, IsNextValue, is_bit, bits_with, bits_in}
use Rattle.aprs_table.specs.Cells as cells
use Rattle.aprs_table.proofs.Frees.{Free, AreFree, ◌&◌, high, free_append, free_digits_alone, free_bits}

whole_free : (text : List ℕ) → is_whole text ≡ true → Free text
whole_free text h = free_digits_alone text (and_parts _ _ h).1

unsigned_in_free : (text : List ℕ) (o : Option Cut) → cut_at 46 text ≡ o →
    is_unsigned_in text o ≡ true → Free text
unsigned_in_free text None c h = whole_free text h
unsigned_in_free text (Some x) c h =
    let p = and_parts (list_all is_digit x.before) (is_whole x.after) h in
    subst Free (sym (cut_at-parts 46 text x c))
    (free_append x.before (46 ∷ x.after) (free_digits_alone x.before p.0)
    (high 46 (omega arith), whole_free x.after p.1))

unsigned_free : (text : List ℕ) → is_unsigned_in text (cut_at 46 text) ≡ true → Free text
unsigned_free text h = unsigned_in_free text (cut_at 46 text) refl h

number_free : (text : List ℕ) → is_number text ≡ true → Free text
number_free [] h = tt
number_free (b ∷ rest) h = go (b == 45) refl h
  where
    go : (t : Bool) → (b == 45) ≡ t →
        is_unsigned_in (cond t rest (b ∷ rest)) (cut_at 46 (cond t rest (b ∷ rest))) ≡ true →
        Free (b ∷ rest)
    go true e k = (high b (omega (arith, eqb-true b 45 e)), unsigned_free rest k)
    go false e k = unsigned_free (b ∷ rest) k

next_free : (value : List ℕ) (left later : Option (List ℕ)) → IsNextValue value left later → Free value
next_free value None later h = subst Free (sym h.0) tt
next_free value (Some text) later h = number_free value h.0

sequence_free : (sequence rest text : List ℕ) → BeginsWithNumber sequence rest text → Free sequence
sequence_free sequence rest text (numbered w e) = whole_free sequence w
sequence_free sequence rest text (unnumbered more n r e) = subst Free (sym n) tt

bits_with_free : (o : Option (List ℕ × List ℕ)) → Free (bits_with o)
bits_with_free None = tt
bits_with_free (Some x) = go (list_all is_bit x.0) refl
  where
    go : (t : Bool) → list_all is_bit x.0 ≡ t → Free (cond t x.0 [])
    go true e = free_bits x.0 e
    go false e = tt

bits_free : (left : Option (List ℕ)) → Free (bits_in left)
bits_free None = tt
bits_free (Some text) = bits_with_free (chunk_of 8 text)

pub measured_free : (info : List ℕ) (t : Measured) → IsTelemetry t info →
    AreFree (cells.telemetry_cells t)
measured_free info t h = sequence_free t.sequence h.values h.text h.number
    & next_free t.a1 (Some h.values) h.after_a1 h.first
    & next_free t.a2 h.after_a1 h.after_a2 h.second & next_free t.a3 h.after_a2 h.after_a3 h.third
    & next_free t.a4 h.after_a3 h.after_a4 h.fourth & next_free t.a5 h.after_a4 h.after_a5 h.fifth
    & subst Free (sym h.bits) (bits_free h.after_a5) & tt

-- without telemetry they are empty
pub nothing_free : AreFree (cells.telemetry_cells (cells.telemetry_in None))
nothing_free = (tt, (tt, (tt, (tt, (tt, (tt, (tt, tt)))))))
