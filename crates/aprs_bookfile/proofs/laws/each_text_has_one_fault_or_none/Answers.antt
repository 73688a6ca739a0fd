use Rattle.aprs_bookfile.proofs.Common.{[], ◌∙◌, append-nil, ap, arith, inl, inr, length, refl}
use Rattle.aprs_bookfile.proofs.Accepting.{rows_few}
use Rattle.aprs_bookfile.proofs.Deciding.{book_or_fault}
use Rattle.aprs_bookfile.proofs.OneFault.{one_fault}
use Rattle.aprs_bookfile.proofs.OneText.{cut_short}
use Rattle.aprs_bookfile.proofs.SameFaults.{first_is, first_of, first_other, memory_or_first}
use Rattle.aprs_bookfile.proofs.laws.each_text_has_one_fault_or_none.Goals as goal

pub returns : goal.returns
returns c = record {
  some = λ text e. elim (book_or_fault text e) [
    | inl whole ↦ inl whole
    | inr has ↦ inr (has.0, first_is text e has.0 has.1, first_other text e has.0 has.1)
  ];
  one = λ text e f g small h other k another.
      one_fault text e f g small (first_of text e f h other) (first_of text e g k another);
  none = λ text e f small book fault. elim (memory_or_first text e f fault) [
    | inl memory ↦ memory.refused
    | inr first ↦ absurd ((cut_short book.version book.rows book.is
        (let few = rows_few book.version book.rows in
        omega (arith, few, small, ap length book.text_is)) [] e f.cause text f (append-nil text
        ∙ book.text_is) refl first).1 book.ended refl)
  ];
}
