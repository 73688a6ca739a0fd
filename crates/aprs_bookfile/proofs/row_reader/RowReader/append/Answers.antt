use Rattle.aprs_bookfile.proofs.Common.{Bool, ◌∙◌, ◌++◌, ap, subst, sym}
use Rattle.aprs_bookfile.specs.RowReader.{rows_kept}
use Rattle.aprs_bookfile.specs.declared.row_reader.Keeping.{Keeping}
use Rattle.aprs_bookfile.proofs.KeptRows.{stops_in}
use Rattle.aprs_bookfile.proofs.Standing.{held_fault, held_stands}
use Rattle.aprs_bookfile.specs.HeldLine.{IsHeldOf, IsLean}
use Rattle.aprs_bookfile.proofs.row_reader.RowReader.append.Goals as goal

pub returns-in-Err-clause-fault : goal.returns-in-Err-clause-fault
returns-in-Err-clause-fault g c = λ rows t more h. rw (c.fault.ensures, h.count)
    (held_fault _ rows _ t c.args.bytes.now more c.requires.going h.lines)

pub returns-in-Err-clause-stops : goal.returns-in-Err-clause-stops
returns-in-Err-clause-stops g c = λ rows t h each. rw c.fault.ensures
    (stops_in _ rows _ _ _ _ c.requires.going h.lines.holds h.count
    (h.kept ∙ ap (λ (k : Keeping). rows_kept k rows) each))

pub returns-in-Ok-clause-stands : goal.returns-in-Ok-clause-stands
returns-in-Ok-clause-stands g c = λ rows t h lacks. record {
  line = h.line ++ c.args.bytes.now;
  lines = held_stands _ rows h.line t c.args.bytes.now c.requires.going lacks h.lines;
  held = subst (λ (b : Bool). IsHeldOf b c.extend.new.self (h.line ++ c.args.bytes.now))
      c.is_first.ensures (c.in-Ok.ensures.held h.line
      (subst (λ (b : Bool). IsHeldOf b c.args.self.now.line h.line) (sym c.is_first.ensures)
      h.held));
  lean = subst (λ (b : Bool). IsLean b c.extend.new.self) c.is_first.ensures
      (c.in-Ok.ensures.lean
      (subst (λ (b : Bool). IsLean b c.args.self.now.line) (sym c.is_first.ensures) h.lean));
  count = h.count;
  kept = h.kept;
}
