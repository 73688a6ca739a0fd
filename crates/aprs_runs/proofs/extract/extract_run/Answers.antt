use Rattle.aprs_runs.specs.Extract.{IsExtract, IsExtractOf}
use Rattle.aprs_runs.proofs.Extracts.{extract_of_book}
use Rattle.aprs_runs.proofs.Told.{told_asks, told_calls, told_refuses, told_writes}
use Rattle.aprs_runs.proofs.extract.extract_run.Goals as goal

pub returns : goal.returns
returns g c = record {
  writes = rw c.answer_of.ensures (λ inputs e.
      told_writes c.args.limit c.args.gap inputs _ (IsExtract c.args.extract)
      (IsExtractOf c.args.extract c.args.gap) g.W.Write.contents _ _ _
      (λ text. extract_of_book c.args.extract _ _ text c.in-Ok.ensures.gap)
      (c.in-Ok.ensures.reads inputs e) _ c.extract.ensures);
  refuses = rw c.answer_of.ensures (λ inputs e.
      told_refuses c.args.limit c.args.gap inputs _ (IsExtract c.args.extract)
      (IsExtractOf c.args.extract c.args.gap) g.W.Write.contents _ _ _
      (λ text. extract_of_book c.args.extract _ _ text c.in-Ok.ensures.gap)
      (c.in-Ok.ensures.reads inputs e) _ c.extract.ensures);
  asks = rw c.answer_of.ensures (told_asks _ _ _ c.in-Ok.ensures.calls);
  calls = rw c.answer_of.ensures
      (told_calls (IsExtract c.args.extract) g.W.Write.contents _ _ _ _ c.extract.ensures);
}
