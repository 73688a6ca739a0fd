use Rattle.aprs_runs.proofs.Common.{◌∙◌, ◌-◌, length, inl, inr, refl, arith, Calls, device_of}
use Rattle.std.proofs.lemmas.List.Elements.{length_all_zip}
use Rattle.aprs_io.specs.Device.{End}
use Rattle.aprs_runs.specs.Merge.{IsTextOfBook}
use Rattle.aprs_runs.proofs.LastRefused.{refused_at_last, text_cut, text_none, text_sent}
use Rattle.aprs_runs.proofs.Merges.{same_len, text_of_book}
use Rattle.aprs_runs.proofs.RunsOver.{all_cut, all_written, each_so, unsaid}
use Rattle.aprs_runs.proofs.merge.merge_run.Goals as goal

-- ---- the text was written

pub returns-in-Ok-write : goal.returns-in-Ok-write
returns-in-Ok-write g c = record {
  writes = λ inputs e.
      all_written c.args.limit c.args.gap inputs _ (IsTextOfBook c.args.gap)
      g.W.Write.contents _ _ _ _
      (text_of_book _ _ c.in-Ok.ensures.gap) (c.in-Ok.ensures.reads inputs e)
      (text_sent _ _ _ _ c.in-Ok-write.ensures);
  refuses = λ inputs e.
      unsaid c.args.limit inputs _ _ (c.in-Ok.ensures.reads inputs e);
  memory = λ e. cc e;
  asks = inl c.in-Ok.ensures.calls;
  calls = (text_sent _ _ _ _ c.in-Ok-write.ensures).calls;
}

-- ---- the output was refused

pub returns-in-Err-Write : goal.returns-in-Err-Write
returns-in-Err-Write g c = record {
  writes = λ inputs e.
      all_cut c.args.limit c.args.gap inputs _ (IsTextOfBook c.args.gap)
      g.W.Write.contents _ _ _ _
      (text_of_book _ _ c.in-Ok.ensures.gap) (c.in-Ok.ensures.reads inputs e)
      (text_cut _ _ _ _ _ c.in-Err-Write.field-0-is c.in-Err-Write.ensures);
  refuses = λ inputs e.
      unsaid c.args.limit inputs _ _ (c.in-Ok.ensures.reads inputs e);
  memory = λ e. cc e;
  asks = inl c.in-Ok.ensures.calls;
  calls =
      (text_cut _ _ _ _ _ c.in-Err-Write.field-0-is c.in-Err-Write.ensures).calls;
}

-- ---- an allocation failed

pub returns-in-Err-Memory : goal.returns-in-Err-Memory
returns-in-Err-Memory g c = record {
  writes =
      rw c.fault_of_last.ensures (λ inputs e.
      unsaid c.args.limit inputs _ _ (c.in-Ok.ensures.reads inputs e));
  refuses =
      let len = length_all_zip (Calls End) c.args.inputs.now c.read_all.new.inputs
      c.in-Ok.ensures.calls in
      let none = text_none _ _ _ _ _ c.in-Err-Memory.field-0-is c.in-Err-Memory.ensures in
      rw c.fault_of_last.ensures (λ inputs e.
      each_so c.args.limit inputs _ _ _ (λ gots first. (first, none.0))
      (refused_at_last _ _ _ inputs _ _ (c.in-Ok.ensures.reads inputs e)
      (same_len (λ r. g.R.Read.remaining (device_of r)) c.args.inputs.now inputs e
      ∙ len) none.1));
  memory = rw c.fault_of_last.ensures (λ e. cc e);
  asks =
      let none = text_none _ _ _ _ _ c.in-Err-Memory.field-0-is c.in-Err-Memory.ensures in
      let some = c.in-Ok.ensures.some none.1 in
      let old = c.args.inputs.now in
      let new = c.read_all.new.inputs in
      let len = length_all_zip (Calls End) old new c.in-Ok.ensures.calls in
      rw c.fault_of_last.ensures
      (inr (length new - 1, omega (arith, some, len), refl, c.in-Ok.ensures.calls));
  calls =
      rw c.fault_of_last.ensures
      (text_none _ _ _ _ _ c.in-Err-Memory.field-0-is c.in-Err-Memory.ensures).0;
}

-- ---- an input is refused

pub returns-in-Err-clause-asks : goal.returns-in-Err-clause-asks
returns-in-Err-clause-asks g c = inl c.in-Err.ensures.calls
